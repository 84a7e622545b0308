-- What is kept after a step.
use Rattle.std.proofs.Common.{◌≡◌, ◌∙◌, sym, ap, ℕ, zero, suc, ◌+◌, ◌≤◌, Bool, true, false, cond, List, [], ◌∷◌, length, get_or, set, Some, arith}
use Rattle.server_rounds.specs.declared.opened.OpenedPair.{OpenedPair}
use Rattle.table_schema.specs.declared.widths.Widths.{Widths}
use Rattle.waldo_core.specs.Core.{Core}
use Rattle.waldo_core.specs.Legal.{IsLegal}
use Rattle.waldo_core.specs.Machines.{Seen}
use Rattle.waldo_core.specs.Step.{step}
use Rattle.waldo_core.specs.declared.events.Event.{Event}
use Rattle.waldo_core.specs.declared.events.Reply.{Reply}
use Rattle.schedule_play.specs.Ready.{IsReady, is_drawn}
use Rattle.schedule_play.specs.Tasks.{Setting}
use Rattle.schedule_play.specs.declared.progress.Progress.{Progress}
use Rattle.schedule_play.proofs.Growing.{order_grows}

-- numbers that are all small stay so where one of them is replaced by a small one
pub set_small : (xs : List ℕ) (i n most : ℕ) → n ≤ most → ((k : ℕ) → get_or xs k 0 ≤ most) → (k : ℕ) → get_or (set xs i n) k 0 ≤ most
set_small [] i n most h small k = small k
set_small (x ∷ xs) zero n most h small zero = h
set_small (x ∷ xs) zero n most h small (suc k) = small (suc k)
set_small (x ∷ xs) (suc i) n most h small zero = small zero
set_small (x ∷ xs) (suc i) n most h small (suc k) = set_small xs i n most h (λ j. small (suc j)) k

at_most_one : (b : Bool) → cond b 1 0 ≤ 1
at_most_one true = omega arith
at_most_one false = omega arith

pub ready_after : (w : Widths) (s : Setting) (old new : Progress) (event : Event) (pair : OpenedPair) (core : Core) (reply : Reply) → IsReady w s old
    → step old.machine.capacity old.machine.core event pair ≡ Some (core, reply) → new.machine ≡ record old.machine { core = core } → IsLegal core
    → new.drawn ≡ old.drawn + cond (is_drawn reply) 1 0 → new.done ≡ old.done + 1 → ((actor : ℕ) → get_or new.rounds actor 0 ≤ new.done) → IsReady w s new
ready_after w s old new event pair core reply ready does machine legal drawn done rounds = record {
  widths = ap (λ (m : Seen). m.widths) machine ∙ ready.widths;
  capacity = ap (λ (m : Seen). m.capacity) machine ∙ ready.capacity;
  actors = ap (λ (m : Seen). length m.core.actors) machine ∙ legal.sixteen;
  drawn = drawn ∙ ap (λ (n : ℕ). n + cond (is_drawn reply) 1 0) ready.drawn
      ∙ sym (order_grows old.machine.capacity old.machine.core core event pair _ reply does) ∙ sym (ap (λ (m : Seen). length m.core.order) machine);
  few = omega (arith, ready.few, drawn, done, at_most_one (is_drawn reply));
  rounds = rounds;
}
