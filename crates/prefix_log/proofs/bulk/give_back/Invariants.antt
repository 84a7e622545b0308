use Rattle.std.proofs.Common.{◌≡◌, ◌+◌, ◌++◌, map, reverse}
use Rattle.std.specs.Prelude.{vec_capacity, vec_len}
use Rattle.prefix_log.proofs.bulk.give_back.Given as goal

abbrev pub invariant-loop-i : goal.invariant-loop-i
invariant-loop-i l = record {
  zero : map (λ t. t.zero) l.trios.items ++ reverse l.zero.items ≡ map (λ t. t.zero) l.fn.trios.items;
  one : map (λ t. t.one) l.trios.items ++ reverse l.one.items ≡ map (λ t. t.one) l.fn.trios.items;
  two : map (λ t. t.two) l.trios.items ++ reverse l.two.items ≡ map (λ t. t.two) l.fn.trios.items;
  left : vec_len l.trios + l._i ≡ vec_len l.fn.trios;
  zero_count : vec_len l.zero ≡ l._i;
  one_count : vec_len l.one ≡ l._i;
  two_count : vec_len l.two ≡ l._i;
  zero_room : vec_capacity l.zero ≡ vec_capacity l.fn.zero;
  one_room : vec_capacity l.one ≡ vec_capacity l.fn.one;
  two_room : vec_capacity l.two ≡ vec_capacity l.fn.two;
}
