use Rattle.std.proofs.Common.{◌∙◌, ap, ℕ, List, [], ◌∷◌, ◌++◌, arith}
use Rattle.list_facts.proofs.Listed.{listed_more}
use Rattle.waldo_core.specs.Held.{fresh_state}
use Rattle.waldo_core.specs.declared.actor.ActorState.{ActorState}
use Rattle.waldo_core.proofs.machine.fresh_actors.Goals as goal

pub loop-i-preserved : goal.loop-i-preserved
loop-i-preserved c = record {
  items = c.push_reserved.ensures.items ∙ ap (λ (x : ActorState). c.loop-i.actors.items ++ x ∷ []) c.new.ensures ∙ ap (λ (l : List ActorState). l ++ fresh_state ∷ []) c.loop-i.invariant.items
      ∙ listed_more c.loop-i._i (λ (p : ℕ). fresh_state);
  len = omega (arith, c.push_reserved.ensures.len, c.loop-i.invariant.len);
  capacity = c.push_reserved.ensures.capacity ∙ c.loop-i.invariant.capacity;
}
