use Rattle.std.proofs.Common.{◌≡◌, ◌≤◌, length, map, take}
use Rattle.std.specs.Prelude.{vec_capacity, vec_len}
use Rattle.query_plan.specs.Query.{shaped}
use Rattle.query_plan.specs.declared.query.Query.{Query}
use Rattle.table_schema.specs.Widths.{column_bits}
use Rattle.waldo_run.specs.Traces.{noted_over}
use Rattle.waldo_run.proofs.seen.all_noted.Given as goal

abbrev pub invariant-loop-query : goal.invariant-loop-query
invariant-loop-query l = record {
  items : l.seen.items ≡ map (λ (q : Query). noted_over (column_bits l.widths) l.rows (shaped q)) (take l.query-index l.queries);
  count : vec_len l.seen ≡ l.query-index;
  room : length l.queries ≤ vec_capacity l.seen;
}
