-- What the rows of an input are, or its first fault.
use Rattle.std.specs.Prelude.{◌≡◌, ℕ, ◌+◌, ◌&&◌, ◌==◌, Bool, true, false, List, [], ◌∷◌, ◌++◌, All, length, map, Result, Ok, Err, if◌then◌else◌}
use Rattle.std.specs.Prelude.{nat_lt, nat_le, codes, slice_set, ℤ, pos, neg_ℤ}
use Rattle.std.specs.Option.{ok_or}
use Rattle.std.specs.Str.{bytes_eq, is_utf8}
use Rattle.csv.specs.Reading.{default_config, records, strip_bom}
use Rattle.table_schema.specs.Column.{bucket_of}
use Rattle.text_reading.specs.Number.{number_of}
use Rattle.text_reading.specs.Reading.{◌>>=◌}
use Rattle.table_schema.specs.declared.schema.Column.{Column}
use Rattle.table_schema.specs.Widths.{Holds, column_bits}
use Rattle.table_schema.specs.declared.rows.Row.{Row}
use Rattle.table_schema.specs.declared.widths.Widths.{Widths}
use Rattle.report_lines.specs.declared.lines.RowWhy.{RowWhy}
use Rattle.report_lines.specs.declared.lines.RowWhy.TheVariants.{Fields, Text, Number, Domain, Value}
use Rattle.row_source.specs.declared.faults.RowFault.{RowFault}
use Rattle.row_source.specs.declared.faults.RowFault.TheVariants as fault

-- the number of a field
unfoldable pub number_field : List ℕ → Result ℕ RowWhy
number_field field = if is_utf8 field then ok_or (number_of field) Number else Err Text

-- the bucket of a field in a column
unfoldable pub bucket_field : Column → List ℕ → Result ℕ RowWhy
bucket_field column field = number_field field >>= λ n. ok_or (bucket_of column n) Domain

-- whether a text begins with `-`, and what follows that
abbrev pub sign_of : List ℕ → Bool × List ℕ
sign_of [] = (false, [])
sign_of (b ∷ bs) = if b == 45 then (true, bs) else (false, b ∷ bs)

-- the value of a size that is within the limits, below zero or not
abbrev pub value_of : Bool → ℕ → Result ℤ RowWhy
value_of below size = if nat_le size 4294967295 then Ok (if below then neg_ℤ (pos size) else pos size) else Err Value

-- the value of the last field: its size is a number, and where it is below zero a `-` stands before that
unfoldable pub value_field : List ℕ → Result ℤ RowWhy
value_field field =
    if is_utf8 field then (ok_or (number_of (sign_of field).1) Number >>= value_of (sign_of field).0) else Err Text

-- the row of the columns and fields that are left, behind the first `i` buckets
unfoldable pub row_from : List Column → ℕ → List ℕ → List (List ℕ) → Result Row RowWhy
row_from columns i buckets [] = Err Fields
row_from [] i buckets (f ∷ fs) = value_field f >>= λ v. Ok (record { columns = i; buckets = buckets; value = v })
row_from (k ∷ ks) i buckets (f ∷ fs) = bucket_field k f >>= λ b. row_from ks (i + 1) (slice_set buckets i b) fs

-- the row of a record, or its first fault
unfoldable pub row_of : List Column → List (List ℕ) → Result Row RowWhy
row_of columns fields =
    if length fields == length columns + 1 then row_from columns 0 (0 ∷ 0 ∷ 0 ∷ 0 ∷ 0 ∷ 0 ∷ []) fields else Err Fields

-- whether a record is the columns' names in order and then `value`
unfoldable pub is_header : List Column → List (List ℕ) → Bool
is_header columns [] = false
is_header [] (f ∷ []) = bytes_eq f (codes "value")
is_header [] (f ∷ g ∷ fs) = false
is_header (k ∷ ks) (f ∷ fs) = bytes_eq f k.name && is_header ks fs

-- one more row, or the fault of its record
abbrev pub with_row : List Row → Result Row RowWhy → Result (List Row) RowFault
with_row rows (Ok row) = Ok (rows ++ row ∷ [])
with_row rows (Err why) = Err (fault.BadRecord (length rows + 1) why)

-- the rows of records from the left, behind those before them, or the first bad record
unfoldable pub rows_from : List Column → List Row → List (List (List ℕ)) → Result (List Row) RowFault
rows_from columns rows [] = Ok rows
rows_from columns rows (r ∷ rs) = with_row rows (row_of columns r) >>= λ more. rows_from columns more rs

-- the rows of an input's records
unfoldable pub rows_of : List Column → ℕ → List (List (List ℕ)) → Result (List Row) RowFault
rows_of columns capacity [] = Err fault.Header
rows_of columns capacity (r ∷ rs) =
    if is_header columns r then (if nat_lt capacity (length rs) then Err (fault.TooMany capacity) else rows_from columns [] rs)
    else Err fault.Header

-- the records of an input
abbrev pub input_records : List ℕ → List (List (List ℕ))
input_records bytes = records default_config (strip_bom bytes)

-- rows that the widths of these columns hold
abbrev pub AreRowsOf : List Column → List Row → Type 0
AreRowsOf columns rows = (w : Widths) → column_bits w ≡ map (λ c. c.bits) columns → All (Holds w) rows
