-- What is not secret of a query, and the columns that it visits.
use Rattle.std.specs.Prelude.{ℕ, ◌<◌, ◌≤◌, List, [], ◌∷◌, ◌++◌, slice_index_or}
use Rattle.list_facts.specs.Listed.{listed}
use Rattle.table_schema.specs.declared.shapes.Aggregate.{Aggregate}
use Rattle.table_schema.specs.declared.shapes.Aggregate.TheVariants.{Count, Sum}
use Rattle.table_schema.specs.declared.shapes.Kind.TheVariants.{Point}
use Rattle.table_schema.specs.declared.shapes.Part.{Part}
use Rattle.visit_trace.specs.declared.sizes.Sizes.{Sizes}

-- how many predicates there are
abbrev pub count_of : Sizes → ℕ
count_of z = z.shape.count

-- the column of predicate j
abbrev pub column_of : Sizes → ℕ → ℕ
column_of z j = let part : Part = slice_index_or z.shape.parts j (record { column = 0; kind = Point }) in part.column

-- at most 65536 rows, and 1 to 4 predicates on columns that are there
pub record AreLegal (z : Sizes) : Type 0 where
  pub rows : z.rows ≤ 65536
  pub some : 0 < count_of z
  pub few : count_of z ≤ 4
  pub there : (j : ℕ) → j < count_of z → column_of z j < z.widths.columns

-- the columns that an opening visits: the value's where values are summed, and none where rows are counted
abbrev pub opened_columns : Aggregate → ℕ → List ℕ
opened_columns Count value = []
opened_columns Sum value = value ∷ []

-- the columns that the bits of a run visit, the predicates' in order
abbrev pub predicate_columns : Sizes → List ℕ
predicate_columns z = listed (count_of z) (column_of z)

-- the columns that a run visits: those of its bits, and then those of its opening
abbrev pub run_columns : Sizes → List ℕ
run_columns z = predicate_columns z ++ opened_columns z.shape.aggregate z.widths.columns

-- the columns that a query visits, which are those of run 0 and then those of run 1
abbrev pub query_columns : Sizes → List ℕ
query_columns z = run_columns z ++ run_columns z
