use Rattle.std.proofs.Common.{◌≡◌, ℕ}
use Rattle.std.specs.Prelude.{vec_len, vec_capacity}
use Rattle.list_facts.specs.Listed.{listed}
use Rattle.waldo_core.specs.Held.{fresh_state}
use Rattle.waldo_core.proofs.machine.fresh_actors.Given as goal

abbrev pub invariant-loop-i : goal.invariant-loop-i
invariant-loop-i l = record {
  items : l.actors.items ≡ listed l._i (λ (p : ℕ). fresh_state);
  len : vec_len l.actors ≡ l._i;
  capacity : vec_capacity l.actors ≡ 16;
}
