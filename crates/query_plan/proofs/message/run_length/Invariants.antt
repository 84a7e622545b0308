use Rattle.std.proofs.Common.{◌≡◌, ◌≤◌, ◌*◌, take}
use Rattle.query_plan.specs.KeyMessages.{run_length}
use Rattle.query_plan.proofs.message.run_length.Given as goal

abbrev pub invariant-loop-part : goal.invariant-loop-part
invariant-loop-part l = record {
  length : l.total ≡ run_length l.widths.bits (take l.part-index l.parts);
  few : l.total ≤ 140 * l.part-index;
}
