-- The event of a step, case by case.
use Rattle.std.proofs.Common.{◌≡◌, refl, sym, ap, subst, ℕ, ◌≤◌, false, List, All, length, slice_get, Option, Some, None, option_map, arith}
use Rattle.std.proofs.lemmas.Option.{get_or_from_slice_get, same_Some, slice_get_past, slice_get_within}
use Rattle.query_plan.specs.Query.{Suits}
use Rattle.query_plan.specs.declared.query.Query.{Query}
use Rattle.prg_chacha.specs.Prg.{derive_of}
use Rattle.server_rounds.specs.declared.opened.OpenedPair.{OpenedPair}
use Rattle.table_schema.specs.Widths.{Holds}
use Rattle.table_schema.specs.declared.rows.Row.{Row}
use Rattle.table_schema.specs.declared.widths.Widths.{Widths}
use Rattle.waldo_core.specs.Answers.{IsPlain, IsPlainOver, IsQuiet, rows_agreed}
use Rattle.waldo_core.specs.Core.{Core}
use Rattle.waldo_core.specs.Machines.{IsHeld}
use Rattle.waldo_core.specs.Step.{Suited, actor_of, step}
use Rattle.waldo_core.specs.declared.events.Event.{Event}
use Rattle.waldo_core.specs.declared.events.Event.TheVariants as events
use Rattle.waldo_words.specs.declared.schedule.Step.{Step}
use Rattle.waldo_words.specs.declared.schedule.Step.TheVariants as steps
use Rattle.schedule_play.specs.History.{is_answer}
use Rattle.schedule_play.specs.Plain.{plain_of, plain_over}
use Rattle.schedule_play.specs.Stages.{Stage, actor_in, event_of, round_of, step_of}
use Rattle.schedule_play.specs.Tasks.{Setting, room_of}

-- what a value was made of
from_map : {A B : Type 0} (f : A → B) (o : Option A) (y : B) → option_map f o ≡ Some y → (x : A) × (o ≡ Some x) × (f x ≡ y)
from_map f None y e = cc
from_map f (Some x) y e = (x, refl, same_Some _ _ e)

-- an element has what all have
all_at : {A : Type 0} (P : A → Type 0) (xs : List A) (i : ℕ) (x : A) → All P xs → slice_get xs i ≡ Some x → P x
all_at P xs i x all is = subst P (get_or_from_slice_get xs i x x is) (all i x (slice_get_within xs i x is))

module _ (s : Setting) (stage : Stage) where
  drawn_from : (actor : ℕ) (event : Event) → event_of s stage (steps.Draw actor) ≡ Some event
      → (row : Row) × (slice_get s.rows (length stage.core.order) ≡ Some row) × (events.Draw actor row (derive_of s.master 1 actor (length stage.core.order)) ≡ event)
  drawn_from actor event e = from_map (λ (row : Row). events.Draw actor row (derive_of s.master 1 actor (length stage.core.order))) (slice_get s.rows (length stage.core.order)) event e

  asked_from : (actor query : ℕ) (event : Event) → event_of s stage (steps.Answer actor query) ≡ Some event
      → (q : Query) × (slice_get s.queries query ≡ Some q) × (events.Answer actor q (derive_of s.master 2 actor (round_of stage actor)) ≡ event)
  asked_from actor query event e = from_map (λ (q : Query). events.Answer actor q (derive_of s.master 2 actor (round_of stage actor))) (slice_get s.queries query) event e

  -- whose event it is
  pub event_actor : (x : Step) (event : Event) → event_of s stage x ≡ Some event → actor_of event ≡ actor_in x
  event_actor (steps.Draw actor) event e = sym (ap actor_of (drawn_from actor event e).2)
  event_actor (steps.Place actor server) event e = sym (ap actor_of (same_Some _ _ e))
  event_actor (steps.Look actor server) event e = sym (ap actor_of (same_Some _ _ e))
  event_actor (steps.Fix actor) event e = sym (ap actor_of (same_Some _ _ e))
  event_actor (steps.Answer actor query) event e = sym (ap actor_of (asked_from actor query event e).2)

  -- a drawn row is of the widths
  pub event_held : (w : Widths) (x : Step) (event : Event) → All (Holds w) s.rows → event_of s stage x ≡ Some event → IsHeld w event
  event_held w (steps.Draw actor) event held e =
      let h = drawn_from actor event e in subst (IsHeld w) h.2 (all_at (Holds w) s.rows (length stage.core.order) h.0 held h.1)
  event_held w (steps.Place actor server) event held e = subst (IsHeld w) (same_Some _ _ e) tt
  event_held w (steps.Look actor server) event held e = subst (IsHeld w) (same_Some _ _ e) tt
  event_held w (steps.Fix actor) event held e = subst (IsHeld w) (same_Some _ _ e) tt
  event_held w (steps.Answer actor query) event held e = subst (IsHeld w) (asked_from actor query event e).2 tt

  -- a query is legal over the widths
  pub event_suited : (w : Widths) (x : Step) (event : Event) → All (λ (q : Query). Suits w.columns w.bits q) s.queries → event_of s stage x ≡ Some event → Suited w event
  event_suited w (steps.Draw actor) event suits e = subst (Suited w) (drawn_from actor event e).2 tt
  event_suited w (steps.Place actor server) event suits e = subst (Suited w) (same_Some _ _ e) tt
  event_suited w (steps.Look actor server) event suits e = subst (Suited w) (same_Some _ _ e) tt
  event_suited w (steps.Fix actor) event suits e = subst (Suited w) (same_Some _ _ e) tt
  event_suited w (steps.Answer actor query) event suits e =
      let h = asked_from actor query event e in
      subst (Suited w) h.2 (all_at (λ (q : Query). Suits w.columns w.bits q) s.queries query h.0 suits h.1)

  -- just answers have messages
  pub event_quiet : (x : Step) (event : Event) → event_of s stage x ≡ Some event → is_answer x ≡ false → IsQuiet event
  event_quiet (steps.Draw actor) event e quiet = subst IsQuiet (drawn_from actor event e).2 tt
  event_quiet (steps.Place actor server) event e quiet = subst IsQuiet (same_Some _ _ e) tt
  event_quiet (steps.Look actor server) event e quiet = subst IsQuiet (same_Some _ _ e) tt
  event_quiet (steps.Fix actor) event e quiet = subst IsQuiet (same_Some _ _ e) tt
  event_quiet (steps.Answer actor query) event e quiet = cc

  -- the step of the core where there is an event
  pub step_is : (x : Step) (event : Event) (pair : OpenedPair) → event_of s stage x ≡ Some event → step_of s stage (event_of s stage x) pair ≡ step (room_of s) stage.core event pair
  step_is x event pair e = ap (λ (o : Option Event). step_of s stage o pair) e

  -- an actor that isn't there has no event with a case
  absent : (capacity : ℕ) (core : Core) (event : Event) (pair : OpenedPair) → length core.actors ≤ actor_of event → step capacity core event pair ≡ None
  absent capacity core event pair far = rw (slice_get_past core.actors (actor_of event) far) refl

  pub step_absent : (x : Step) (pair : OpenedPair) (o : Option Event) → o ≡ event_of s stage x → length stage.core.actors ≤ actor_in x → step_of s stage o pair ≡ None
  step_absent x pair None e far = refl
  step_absent x pair (Some event) e far = absent (room_of s) stage.core event pair (omega (arith, event_actor x event (sym e), far))

-- the plain pair of an event
pub plain_is_plain : (core : Core) (event : Event) → IsPlain core event (plain_of core (Some event))
plain_is_plain core (events.Draw number row seed) = tt
plain_is_plain core (events.Place number k) = tt
plain_is_plain core (events.Look number k) = tt
plain_is_plain core (events.Fix number) = tt
plain_is_plain core (events.Answer number query seed) = by (rows_agreed (slice_get core.actors number))
  where
    by : (o : Option ℕ) → IsPlainOver core.order o query seed (plain_over core query seed o)
    by None = tt
    by (Some n) = refl
