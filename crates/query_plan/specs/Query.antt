-- Which queries are legal over given widths, and what is not secret of a query.
use Rattle.std.specs.Prelude.{◌≡◌, ℕ, ◌<◌, ◌≤◌, ◌^◌, ◌==◌, Bool, false, List, length, map, take, get_or, nat_lt, MatchBool}
use Rattle.std.specs.List.{list_any}
use Rattle.table_schema.specs.declared.shapes.Kind.{Kind}
use Rattle.table_schema.specs.declared.shapes.Kind.TheVariants.{Point, AtMost, Interval}
use Rattle.table_schema.specs.declared.shapes.Part.{Part}
use Rattle.table_schema.specs.declared.shapes.Shape.{Shape}
use Rattle.table_schema.specs.Widths.{column_bits}
use Rattle.table_schema.specs.declared.schema.Column.{Column}
use Rattle.table_schema.specs.declared.widths.Widths.{Widths}
use Rattle.query_plan.specs.declared.query.Predicate.{Predicate}
use Rattle.query_plan.specs.declared.query.Query.{Query}

-- what stands where there is no predicate
abbrev pub no_predicate : Predicate
no_predicate = record { column = 0; kind = Point; low = 0; high = 0 }

-- predicate i, from 0
abbrev pub predicate_at : Query → ℕ → Predicate
predicate_at query i = get_or query.predicates i no_predicate

-- whether one of the predicates has the column
abbrev pub has_column : ℕ → List Predicate → Bool
has_column c earlier = list_any (λ p. p.column == c) earlier

-- the buckets that a predicate of this kind may have
abbrev pub IsKind : Kind → ℕ → ℕ → Type 0
IsKind Point low high = low ≡ high
IsKind AtMost low high = low ≡ 0
IsKind Interval low high = low ≤ high

-- a predicate on one of `columns` columns of these bits, within its buckets
pub record IsPredicate (columns : ℕ) (bits : List ℕ) (p : Predicate) : Type 0 where
  pub column : p.column < columns
  pub high : p.high < 2 ^ get_or bits p.column 0
  pub kind : IsKind p.kind p.low p.high

-- a predicate behind earlier ones: on a column that none of them has
pub record IsNext (columns : ℕ) (bits : List ℕ) (earlier : List Predicate) (p : Predicate) : Type 0 where
  pub legal : IsPredicate columns bits p
  pub fresh : has_column p.column earlier ≡ false

-- what stands at a place of a legal query: a predicate behind the earlier ones, or nothing past the count
abbrev pub IsPlaced : ℕ → List ℕ → Query → ℕ → Type 0
IsPlaced columns bits query i =
    MatchBool (nat_lt i query.count)
    (IsNext columns bits (take i query.predicates) (predicate_at query i)) (predicate_at query i ≡ no_predicate)

-- a legal query over `columns` columns of these bits: 1 to 4 predicates, each on a column of its own
pub record Suits (columns : ℕ) (bits : List ℕ) (query : Query) : Type 0 where
  pub some : 1 ≤ query.count
  pub few : query.count ≤ 4
  pub placed : (i : ℕ) → i < 4 → IsPlaced columns bits query i

abbrev pub part_of : Predicate → Part
part_of p = record { column = p.column; kind = p.kind }

-- the shape of a query
abbrev pub shaped : Query → Shape
shaped query = record { aggregate = query.aggregate; count = query.count; parts = map part_of query.predicates }

-- the widths of a table with these columns
pub record AreWidthsOf (columns : List Column) (w : Widths) : Type 0 where
  pub count : w.columns ≡ length columns
  pub bits : column_bits w ≡ map (λ (c : Column). c.bits) columns
