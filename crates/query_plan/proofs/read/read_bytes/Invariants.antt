use Rattle.std.proofs.Common.{◌≡◌, ◌+◌, ◌≤◌, length, map}
use Rattle.table_schema.specs.declared.schema.Column.{Column}
use Rattle.query_plan.proofs.Legal.{ArePlaced}
use Rattle.std.specs.Option.{option_copied}
use Rattle.text_reading.specs.Cut.{pieces_left}
use Rattle.query_plan.specs.Reading.{predicates_from, query_of}
use Rattle.query_plan.proofs.read.read_bytes.Given as goal

abbrev pub invariant-loop-rest : goal.invariant-loop-rest
invariant-loop-rest l = record {
  reads : predicates_from l.schema l.query (pieces_left 32 (option_copied l.rest)) ≡ query_of l.schema l.fn.text;
  few : l.query.count + length (pieces_left 32 (option_copied l.rest)) ≤ 4;
  some : 1 ≤ l.query.count + length (pieces_left 32 (option_copied l.rest));
  size : length l.query.predicates ≡ 4;
  placed : ArePlaced (length l.schema) (map (λ (k : Column). k.bits) l.schema) l.query;
}

abbrev pub decreases-loop-rest : goal.decreases-loop-rest
decreases-loop-rest l = length (pieces_left 32 (option_copied l.rest))
