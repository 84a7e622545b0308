use Rattle.std.proofs.Common.{◌≡◌, ◌≤◌, drop, length, ◌∷◌, []}
use Rattle.text_reading.specs.Cut.{pieces}
use Rattle.text_reading.proofs.cuts.cut_last.Given as goal

abbrev pub invariant-loop-end : goal.invariant-loop-end
invariant-loop-end l = record {
  within : l.end ≤ length l.bytes;
  last : pieces l.mark (drop l.end l.bytes) ≡ drop l.end l.bytes ∷ [];
}

abbrev pub decreases-loop-end : goal.decreases-loop-end
decreases-loop-end l = l.end
