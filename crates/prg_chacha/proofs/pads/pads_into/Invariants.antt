use Rattle.std.proofs.Common.{◌≡◌, ℕ, ◌+◌, ◌<◌, get_or}
use Rattle.prg_chacha.specs.Prg.{pad_of}
use Rattle.prg_chacha.proofs.pads.pads_into.Given as goal

abbrev pub invariant-loop-place : goal.invariant-loop-place
invariant-loop-place l = record {
  seed : l.pads.seed ≡ l.seed;
  next : l.pads.next ≡ l.c + l.place-index;
  drawn : (k : ℕ) → k < l.place-index → get_or l.to k 0 ≡ pad_of l.seed (l.c + k);
}
