-- The plain answer of a query.
use Rattle.std.specs.Prelude.{ℤ, pos, ◌+ℤ◌, Bool, List, [], ◌∷◌, length, filter, map, slice_index}
use Rattle.std.specs.List.{list_all}
use Rattle.list_facts.specs.Listed.{listed}
use Rattle.table_schema.specs.declared.rows.Row.{Row}
use Rattle.table_schema.specs.declared.shapes.Aggregate.{Aggregate}
use Rattle.table_schema.specs.declared.shapes.Aggregate.TheVariants.{Count, Sum}
use Rattle.query_plan.specs.declared.query.Predicate.{Predicate}
use Rattle.query_plan.specs.declared.query.Query.{Query}
use Rattle.query_plan.specs.Query.{predicate_at}
use Rattle.query_plan.specs.Views.{is_inside}

-- the predicates of a query, in order
abbrev pub predicates_of : Query → List Predicate
predicates_of query = listed query.count (predicate_at query)

-- whether a row passes each predicate
abbrev pub passes : Query → Row → Bool
passes query row = list_all (λ (p : Predicate). is_inside p (slice_index row.buckets p.column)) (predicates_of query)

abbrev pub sum_of : List ℤ → ℤ
sum_of [] = pos 0
sum_of (v ∷ vs) = v +ℤ sum_of vs

-- how many rows there are, or the sum of their values
abbrev pub answer_of : Aggregate → List Row → ℤ
answer_of Count rows = pos (length rows)
answer_of Sum rows = sum_of (map (λ (row : Row). row.value) rows)

-- the plain answer: that of the rows that pass
abbrev pub plain : Query → List Row → ℤ
plain query rows = answer_of query.aggregate (filter (passes query) rows)
