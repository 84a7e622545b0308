use Rattle.std.proofs.Common.{◌≡◌, ℕ, false, length, get_or}
use Rattle.std.specs.Prelude.{nat_lt, vec_capacity, vec_len}
use Rattle.std.specs.List.{range_with_len}
use Rattle.prefix_log.proofs.log.mark.Given as goal

abbrev pub invariant-loop-i : goal.invariant-loop-i
invariant-loop-i l = record {
  journal : l.journal.items ≡ range_with_len 0 l.i;
  count : vec_len l.journal ≡ l.i;
  room : vec_capacity l.journal ≡ vec_capacity l.fn.journal;
  long : length l.filled.items ≡ length l.fn.filled.items;
  filled : (place : ℕ) → get_or l.filled.items place false ≡ nat_lt place l.i;
}
