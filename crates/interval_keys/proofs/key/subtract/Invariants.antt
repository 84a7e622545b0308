use Rattle.std.proofs.Common.{◌≡◌, ℕ, ◌<◌, ◌≤◌, get_or}
use Rattle.ring128.specs.Ring.{minus}
use Rattle.interval_keys.proofs.key.subtract.Given as goal

abbrev pub invariant-loop-i : goal.invariant-loop-i
invariant-loop-i l = record {
  done : (k : ℕ) → k < l.i → get_or l.from k 0 ≡ minus (get_or l.fn.from k 0) (get_or l.other k 0);
  left : (k : ℕ) → l.i ≤ k → get_or l.from k 0 ≡ get_or l.fn.from k 0;
}
