use Rattle.std.proofs.Common.{◌≡◌, ◌≤◌, ◌++◌, drop, length}
use Rattle.query_plan.specs.KeyMessages.{run_length, pairs_read}
use Rattle.query_plan.proofs.message.read_run.Given as goal

abbrev pub invariant-loop-part : goal.invariant-loop-part
invariant-loop-part l = record {
  read : l.pairs.items ++ pairs_read l.widths.bits (drop l.part-index l.parts) l.rest ≡ pairs_read l.widths.bits l.parts l.words;
  long : run_length l.widths.bits (drop l.part-index l.parts) ≤ length l.rest;
  count : length l.pairs.items ≡ l.part-index;
}
