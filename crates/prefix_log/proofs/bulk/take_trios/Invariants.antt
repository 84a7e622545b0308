use Rattle.std.proofs.Common.{◌≡◌, ◌+◌, ◌++◌, map, reverse}
use Rattle.std.specs.Prelude.{vec_capacity, vec_len}
use Rattle.prefix_log.proofs.bulk.take_trios.Given as goal

abbrev pub invariant-loop-i : goal.invariant-loop-i
invariant-loop-i l = record {
  zero : map (λ t. t.zero) l.trios.items ++ reverse l.zero.items ≡ reverse l.fn.zero.items;
  one : map (λ t. t.one) l.trios.items ++ reverse l.one.items ≡ reverse l.fn.one.items;
  two : map (λ t. t.two) l.trios.items ++ reverse l.two.items ≡ reverse l.fn.two.items;
  zero_left : vec_len l.zero + l._i ≡ vec_len l.fn.zero;
  one_left : vec_len l.one + l._i ≡ vec_len l.fn.one;
  two_left : vec_len l.two + l._i ≡ vec_len l.fn.two;
  taken : vec_len l.trios ≡ l._i;
  trios_room : vec_capacity l.trios ≡ vec_capacity l.fn.trios;
  zero_room : vec_capacity l.zero ≡ vec_capacity l.fn.zero;
  one_room : vec_capacity l.one ≡ vec_capacity l.fn.one;
  two_room : vec_capacity l.two ≡ vec_capacity l.fn.two;
}
