use Rattle.std.proofs.Common.{◌≡◌, ◌≤◌, ℕ, get_or, take, map, length}
use Rattle.table_schema.proofs.schema.Schema.widths.Given as goal

abbrev pub invariant-loop-i : goal.invariant-loop-i
invariant-loop-i l = record {
  kept : take l.i l.bits ≡ map (λ c. c.bits) (take l.i l.column-items);
  size : length l.bits ≡ 6;
  rest : (k : ℕ) → l.i ≤ k → get_or l.bits k 0 ≡ 0;
}
