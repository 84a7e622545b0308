-- The reply to an event without messages never says that something was altered.
use Rattle.std.proofs.Common.{◌≡◌, ◌∙◌, refl, sym, ap, subst, ℕ, Bool, true, false, Option, Some, None, slice_get}
use Rattle.std.specs.Prelude.{Result, Ok, Err, IfOk, is_some, nat_lt, length, ◌||◌, if◌then◌else◌}
use Rattle.ring128.specs.declared.memory.Memory.{Memory}
use Rattle.server_rounds.specs.declared.opened.OpenedPair.{OpenedPair}
use Rattle.waldo_core.specs.Answers.{IsPlain, IsQuiet}
use Rattle.waldo_core.specs.Core.{Actor, Core, Fixes, Open, is_pending, prefix}
use Rattle.waldo_core.specs.Core.Fixes.{Unfixed, First, Second, Agreed}
use Rattle.waldo_core.specs.Machines.{Seen}
use Rattle.waldo_core.specs.Outcomes.{Quietly, named}
use Rattle.waldo_core.specs.Step.{actor_of, acts, drawn, fix_step, is_altered, is_server, place_step, placed}
use Rattle.waldo_core.specs.declared.events.Event.{Event}
use Rattle.waldo_core.specs.declared.events.Event.TheVariants as events
use Rattle.waldo_core.specs.declared.events.Reply.{Reply}
use Rattle.waldo_core.specs.declared.events.StepFault.{StepFault}
use Rattle.waldo_core.specs.declared.events.StepFault.TheVariants as step_faults
use Rattle.waldo_core.proofs.Acts.{nothing}

abbrev altered_in : Option (Core × Reply) → Bool
altered_in None = false
altered_in (Some x) = is_altered x.1

either : (b : Bool) (x y : Option (Core × Reply)) → altered_in x ≡ false → altered_in y ≡ false → altered_in (if b then x else y) ≡ false
either true x y p q = p
either false x y p q = q

either_done : (b : Bool) (x y : Core × Reply) → is_altered x.1 ≡ false → is_altered y.1 ≡ false → is_altered (if b then x else y).1 ≡ false
either_done true x y p q = p
either_done false x y p q = q

quiet_place : (core : Core) (number k : ℕ) (a : Actor) (draw : Option Open) → altered_in (place_step core number a k draw) ≡ false
quiet_place core number k a None = refl
quiet_place core number k a (Some draw) = either (is_pending a.fixes) None (Some (placed core number a k draw)) refl refl

quiet_fix : (core : Core) (number : ℕ) (a : Actor) (f : Fixes) → is_altered (fix_step core number a f).1 ≡ false
quiet_fix core number a Unfixed = either_done (nat_lt (prefix core.zero) a.floor) _ _ refl refl
quiet_fix core number a (First p) = either_done (nat_lt (prefix core.one) a.floor) _ _ refl refl
quiet_fix core number a (Second p q) = either_done (nat_lt (prefix core.two) a.floor) _ _ refl refl
quiet_fix core number a (Agreed n) = either_done (nat_lt (prefix core.zero) a.floor) _ _ refl refl

quiet_acts : (capacity : ℕ) (core : Core) (event : Event) (pair : OpenedPair) (o : Option Actor) → IsQuiet event → altered_in (acts capacity core event pair o) ≡ false
quiet_acts capacity core (events.Draw number row seed) pair None q = refl
quiet_acts capacity core (events.Place number k) pair None q = refl
quiet_acts capacity core (events.Look number k) pair None q = refl
quiet_acts capacity core (events.Fix number) pair None q = refl
quiet_acts capacity core (events.Answer number query seed) pair None q = refl
quiet_acts capacity core (events.Draw number row seed) pair (Some a) q =
    either (is_some a.draw || is_pending a.fixes) None (Some (drawn capacity core number a (row, seed))) refl (either_done (nat_lt (length core.order) capacity) _ _ refl refl)
quiet_acts capacity core (events.Place number k) pair (Some a) q = either (is_server k) (place_step core number a k a.draw) None (quiet_place core number k a a.draw) refl
quiet_acts capacity core (events.Look number k) pair (Some a) q = either (is_server k) _ None (either (is_pending a.fixes) None _ refl refl) refl
quiet_acts capacity core (events.Fix number) pair (Some a) q = quiet_fix core number a a.fixes
quiet_acts capacity core (events.Answer number query seed) pair (Some a) q = absurd q

by_result : (old : Seen) (event : Event) (new : Seen) (result : Result (Option Reply) Memory) → IsQuiet event → Quietly old event new result → IfOk (named event result) (λ (reply : Reply). is_altered reply ≡ false)
by_result old event new (Ok (Some reply)) quiet done =
    let pair : OpenedPair = record { total = 0; weighted = 0 } in
    sym (ap altered_in (done pair).2) ∙ quiet_acts old.capacity old.core event pair (slice_get old.core.actors (actor_of event)) quiet
by_result old event new (Ok None) quiet done = tt
by_result old event new (Err memory) quiet done = tt

accepted_of : (result : Result Reply StepFault) (P : Type 0) → P → IfOk result (λ (reply : Reply). is_altered reply ≡ false) → IfOk result (λ (reply : Reply). P × (is_altered reply ≡ false))
accepted_of (Ok reply) P p is = (p, is)
accepted_of (Err fault) P p is = tt

-- by what was given: nothing was opened, which is plain, and the reply is not that it was altered
pub quiet_plain : (old : Seen) (given event : Event) (new : Seen) (result : Result (Option Reply) Memory) → given ≡ event → IsQuiet event → IsPlain old.core event nothing → Quietly old event new result
    → IfOk (named given result) (λ (reply : Reply). IsPlain old.core given nothing × (is_altered reply ≡ false))
quiet_plain old given event new result same quiet plain done =
    subst (λ (e : Event). IfOk (named e result) (λ (reply : Reply). IsPlain old.core e nothing × (is_altered reply ≡ false))) (sym same)
    (accepted_of (named event result) (IsPlain old.core event nothing) plain (by_result old event new result quiet done))

pub not_altered : (result : Result Reply StepFault) (P : Type 0) → IfOk result (λ (reply : Reply). P × (is_altered reply ≡ false)) → IfOk result (λ (reply : Reply). is_altered reply ≡ false)
not_altered (Ok reply) P plain = plain.1
not_altered (Err fault) P plain = tt

-- what is not allowed had no reply
pub refused_none : (event given : Event) (result : Result (Option Reply) Memory) → named event result ≡ Err (step_faults.NotAllowed given) → result ≡ Ok None
refused_none event given (Ok (Some reply)) e = absurd cc
refused_none event given (Ok None) e = refl
refused_none event given (Err memory) e = absurd cc
