-- What the text of a query means, or its first fault.
use Rattle.std.specs.Prelude.{ℕ, ◌+◌, ◌&&◌, ◌==◌, not, List, [], ◌∷◌, length, Option, Some, None, Result, Ok, Err, if◌then◌else◌, nat_le}
use Rattle.std.specs.Prelude.{codes, slice_set, take}
use Rattle.std.specs.Option.{ok_or}
use Rattle.std.specs.Str.{bytes_eq}
use Rattle.text_reading.specs.Cut.{cut_at, pieces}
use Rattle.table_schema.specs.Column.{bucket_at}
use Rattle.text_reading.specs.Number.{number_of}
use Rattle.text_reading.specs.Reading.{◌>>=◌, guard}
use Rattle.table_schema.specs.declared.schema.Column.{Column}
use Rattle.table_schema.specs.declared.shapes.Aggregate.{Aggregate}
use Rattle.table_schema.specs.declared.shapes.Aggregate.TheVariants.{Count, Sum}
use Rattle.table_schema.specs.declared.shapes.Kind.{Kind}
use Rattle.table_schema.specs.declared.shapes.Kind.TheVariants.{Point, AtMost, Interval}
use Rattle.query_plan.specs.declared.query.Predicate.{Predicate}
use Rattle.query_plan.specs.declared.query.Query.{Query}
use Rattle.query_plan.specs.Query.{has_column, no_predicate}
use Rattle.query_plan.specs.declared.query.QueryWhy.{QueryWhy}
use Rattle.query_plan.specs.declared.query.QueryWhy.TheVariants.{Form, Unknown, Repeated, Domain, Order}
use Rattle.query_plan.specs.declared.query.QueryFault.{QueryFault}
use Rattle.query_plan.specs.declared.query.QueryFault.TheVariants as fault

-- ---- the form of a predicate

-- what a predicate's text says: a name, a kind, and its first and last raw number
pub record Said : Type 0 where
  pub name : List ℕ
  pub kind : Kind
  pub first : ℕ
  pub last : ℕ

-- two numbers of an interval
abbrev pub between : List ℕ → Option ℕ → Option ℕ → Option Said
between name (Some a) (Some b) = Some (record { name = name; kind = Interval; first = a; last = b })
between name (Some a) None = None
between name None b = None

-- one number
abbrev pub single : List ℕ → Kind → Option ℕ → Option Said
single name kind None = None
single name kind (Some n) = Some (record { name = name; kind = kind; first = n; last = n })

-- what stands after the first point of an interval: a second one, and the last number
abbrev pub up_to : List ℕ → List ℕ → List ℕ → Option Said
up_to name low [] = None
up_to name low (b ∷ high) = if b == 46 then between name (number_of low) (number_of high) else None

-- what stands after the `=`: a number, or two with `..` between them
abbrev pub equals : List ℕ → List ℕ × Option (List ℕ) → Option Said
equals name (text, None) = single name Point (number_of text)
equals name (low, Some rest) = up_to name low rest

-- a name that isn't empty, and what stands between it and the `=`: nothing, or a `<`
abbrev pub relation : List ℕ × Option (List ℕ) → List ℕ → Option Said
relation ([], mark) text = None
relation (b ∷ bs, None) text = equals (b ∷ bs) (cut_at 46 text)
relation (b ∷ bs, Some []) text = single (b ∷ bs) AtMost (number_of text)
relation (b ∷ bs, Some (c ∷ cs)) text = None

-- name `=` number, name `<=` number or name `=` number `..` number
abbrev pub sides : List ℕ × Option (List ℕ) → Option Said
sides (front, None) = None
sides (front, Some text) = relation (cut_at 60 front) text

unfoldable pub said_of : List ℕ → Option Said
said_of piece = sides (cut_at 61 piece)

-- ---- a predicate

-- the place of the column with the name
abbrev pub column_from : ℕ → List ℕ → List Column → Option ℕ
column_from i name [] = None
column_from i name (k ∷ ks) = if bytes_eq k.name name then Some i else column_from (i + 1) name ks

abbrev pub column_named : List ℕ → List Column → Option ℕ
column_named name columns = column_from 0 name columns

-- the lowest bucket of a predicate whose first number has this one
abbrev pub lowest : Kind → ℕ → ℕ
lowest Point b = b
lowest AtMost b = 0
lowest Interval b = b

-- the predicate of a piece behind earlier ones, or its first fault
unfoldable pub predicate_of : List Column → List Predicate → List ℕ → Result Predicate QueryWhy
predicate_of columns earlier piece =
    ok_or (said_of piece) Form >>= λ said.
    ok_or (column_named said.name columns) Unknown >>= λ c.
    guard (not (has_column c earlier)) Repeated >>= λ _.
    ok_or (bucket_at columns c said.first) Domain >>= λ low.
    ok_or (bucket_at columns c said.last) Domain >>= λ high.
    guard (nat_le said.first said.last) Order >>= λ _.
    Ok (record { column = c; kind = said.kind; low = lowest said.kind low; high = high })

-- ---- the query

abbrev pub empty : Aggregate → Query
empty a = record { aggregate = a; count = 0; predicates = no_predicate ∷ no_predicate ∷ no_predicate ∷ no_predicate ∷ [] }

abbrev pub with_predicate : Query → Predicate → Query
with_predicate q p = record { aggregate = q.aggregate; count = q.count + 1; predicates = slice_set q.predicates q.count p }

abbrev pub with_piece : Query → Result Predicate QueryWhy → Result Query QueryFault
with_piece q (Ok p) = Ok (with_predicate q p)
with_piece q (Err why) = Err (fault.Predicate q.count why)

-- the predicates of the pieces, from the left, behind those of a query
unfoldable pub predicates_from : List Column → Query → List (List ℕ) → Result Query QueryFault
predicates_from columns q [] = Ok q
predicates_from columns q (p ∷ ps)
    = with_piece q (predicate_of columns (take q.count q.predicates) p) >>= λ more. predicates_from columns more ps

unfoldable pub aggregate_of : List ℕ → Option Aggregate
aggregate_of word = if bytes_eq word (codes "count") then Some Count else if bytes_eq word (codes "sum") then Some Sum else None

-- the query of a text's pieces
abbrev pub query_of_pieces : List Column → List (List ℕ) → Result Query QueryFault
query_of_pieces columns [] = Err fault.Aggregate
query_of_pieces columns (word ∷ ps) =
    ok_or (aggregate_of word) fault.Aggregate >>= λ a.
    guard (nat_le 1 (length ps) && nat_le (length ps) 4) (fault.Count (length ps)) >>= λ _.
    predicates_from columns (empty a) ps

unfoldable pub query_of : List Column → List ℕ → Result Query QueryFault
query_of columns text = query_of_pieces columns (pieces 32 text)
