use Rattle.std.proofs.Common.{◌≡◌, ◌+◌, ◌*◌, get_or, length}
use Rattle.std.specs.Prelude.{vec_len, vec_capacity}
use Rattle.list_facts.specs.Listed.{listed}
use Rattle.prg_chacha.specs.Prg.{pad_of}
use Rattle.ring128.specs.Ring.{minus}
use Rattle.replicated_share.proofs.three.split.Given as goal

abbrev pub invariant-loop-value : goal.invariant-loop-value
invariant-loop-value l = record {
  seed : l.pads.seed ≡ l.seed;
  next : l.pads.next ≡ 2 * l.value-index;
  x0 : l.x0.items ≡ listed l.value-index (λ i. pad_of l.seed (2 * i));
  x1 : l.x1.items ≡ listed l.value-index (λ i. pad_of l.seed (2 * i + 1));
  x2 : l.x2.items ≡ listed l.value-index (λ i. minus (minus (get_or l.values i 0) (pad_of l.seed (2 * i))) (pad_of l.seed (2 * i + 1)));
  len0 : vec_len l.x0 ≡ l.value-index;
  len1 : vec_len l.x1 ≡ l.value-index;
  len2 : vec_len l.x2 ≡ l.value-index;
  room0 : vec_capacity l.x0 ≡ length l.values;
  room1 : vec_capacity l.x1 ≡ length l.values;
  room2 : vec_capacity l.x2 ≡ length l.values;
}
