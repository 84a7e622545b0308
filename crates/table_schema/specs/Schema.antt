-- What the text of a schema means.
use Rattle.std.specs.Prelude.{ℕ, ◌-◌, ◌&&◌, ◌==◌, Bool, List, [], ◌∷◌, ◌++◌, length, Option, Some, None, Result, Ok, Err, if◌then◌else◌}
use Rattle.std.specs.Prelude.{nat_lt, nat_le, unwrap_or}
use Rattle.std.specs.List.{list_any}
use Rattle.std.specs.Option.{ok_or}
use Rattle.std.specs.Str.{bytes_eq}
use Rattle.text_reading.specs.Cut.{cut_at, pieces}
use Rattle.text_reading.specs.Number.{number_of}
use Rattle.text_reading.specs.Reading.{◌>>=◌, guard}
use Rattle.table_schema.specs.Limits.{most_columns}
use Rattle.table_schema.specs.Name.{is_name}
use Rattle.table_schema.specs.declared.schema.Column.{Column}
use Rattle.table_schema.specs.declared.faults.SchemaWhy.{SchemaWhy}
use Rattle.table_schema.specs.declared.faults.SchemaWhy.TheVariants.{Name, Bits, Start, Step}
use Rattle.table_schema.specs.declared.faults.SchemaFault.{SchemaFault}
use Rattle.table_schema.specs.declared.faults.SchemaFault.TheVariants as fault

-- one digit from 1 to 8
unfoldable pub bits_of : List ℕ → Option ℕ
bits_of [] = None
bits_of (b ∷ []) = if nat_le 49 b && nat_le b 56 then Some (b - 48) else None
bits_of (b ∷ c ∷ bs) = None

-- a number, and 0 where nothing stands
abbrev pub start_of : Option (List ℕ) → Option ℕ
start_of None = Some 0
start_of (Some text) = number_of text

-- a number that is not 0
abbrev pub if_positive : Option ℕ → Option ℕ
if_positive None = None
if_positive (Some n) = if n == 0 then None else Some n

-- a number that is not 0, and 1 where nothing stands
abbrev pub step_of : Option (List ℕ) → Option ℕ
step_of None = Some 1
step_of (Some text) = if_positive (number_of text)

-- the column that a piece describes, or its first fault. The name stands before the first `:`. Of what is
-- after it the step stands behind the first `/`, and of what is before that the start behind the first `@`
unfoldable pub column_of : List ℕ → Result Column SchemaWhy
column_of piece =
    let named = cut_at 58 piece in
    let stepped = cut_at 47 (unwrap_or named.1 []) in
    let started = cut_at 64 stepped.0 in
    guard (is_name named.0) Name >>= λ _.
    ok_or (bits_of started.0) Bits >>= λ bits.
    ok_or (start_of started.1) Start >>= λ start.
    ok_or (step_of stepped.1) Step >>= λ step.
    Ok (record { name = named.0; bits = bits; start = start; step = step })

-- whether a column has the name
abbrev pub has_name : List ℕ → List Column → Bool
has_name name columns = list_any (λ c. bytes_eq c.name name) columns

-- a column behind those before it, or the fault of its piece
abbrev pub with_column : List Column → Result Column SchemaWhy → Result (List Column) SchemaFault
with_column earlier (Err why) = Err (fault.Column (length earlier) why)
with_column earlier (Ok c) = if has_name c.name earlier then Err (fault.Repeated (length earlier)) else Ok (earlier ++ c ∷ [])

-- the columns of the pieces from the left, behind those before them, or the first fault
unfoldable pub columns_from : List Column → List (List ℕ) → Result (List Column) SchemaFault
columns_from earlier [] = Ok earlier
columns_from earlier (piece ∷ more) = with_column earlier (column_of piece) >>= λ columns. columns_from columns more

-- the columns of a text that is cut at its commas, or the first fault
unfoldable pub schema_of : List ℕ → Result (List Column) SchemaFault
schema_of text =
    if nat_lt most_columns (length (pieces 44 text)) then Err (fault.Count (length (pieces 44 text)))
    else columns_from [] (pieces 44 text)
