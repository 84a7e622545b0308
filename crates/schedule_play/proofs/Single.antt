-- One step at a machine.
use Rattle.std.proofs.Common.{◌≡◌, ◌∙◌, refl, sym, ap, subst, ℕ, ◌<◌, ◌≤◌, inl, inr, false, List, [], ◌∷◌, length, get_or, set, Option, Some, None, option_map, IsSomeAnd, IfSome, arith, zero-add, Bool, true}
use Rattle.server_rounds.specs.declared.opened.OpenedPair.{OpenedPair}
use Rattle.table_schema.specs.declared.widths.Widths.{Widths}
use Rattle.waldo_core.specs.Answers.{Begins, Carries, IsPlain}
use Rattle.waldo_core.specs.Core.{Core}
use Rattle.waldo_core.specs.Machines.{HasNoCase as HasNoCaseAt, Seen}
use Rattle.std.specs.Prelude.{◌||◌}
use Rattle.waldo_core.specs.Step.{Suited, is_altered, step}
use Rattle.waldo_core.specs.declared.events.Event.{Event}
use Rattle.waldo_core.specs.declared.events.Reply.{Reply}
use Rattle.waldo_words.specs.declared.schedule.Step.{Step}
use Rattle.wire_line.specs.Messages.{IsHonest, Went}
use Rattle.wire_line.specs.declared.message.Message.{Message}
use Rattle.schedule_play.specs.History.{AreHonest, CarriesOf, BeginsOf, Done, HasNoCase, is_answer}
use Rattle.schedule_play.specs.Leads.{Leads, Stops}
use Rattle.schedule_play.specs.Plain.{ArePlain, IsPlainOf, plain_of}
use Rattle.schedule_play.specs.Stages.{Stage, actor_in, event_of, next_stage, step_of, with_reply}
use Rattle.schedule_play.specs.Tasks.{Setting, room_of}
use Rattle.schedule_play.specs.declared.play.PlayFault.TheVariants.{NotAllowed, Memory}
use Rattle.schedule_play.specs.declared.style.Style.{Style}
use Rattle.wire_line.specs.Lists.{RoseAt}
use Rattle.schedule_play.proofs.Cases.{plain_is_plain, step_absent, step_is}
use Rattle.schedule_play.proofs.Going.{rose_here, wires_none, wires_one, wires_still}
use Rattle.wire_line.specs.Sights.{Sight, HasAltered, NonePasses}
use Rattle.schedule_play.specs.Wires.{Unaltered}

-- an entry of a history
abbrev pub entry : Step → List Message → OpenedPair → Done
entry x ms pair = record { step = x; messages = ms; pair = pair }

some_if : {A : Type 0} (o : Option A) → IfSome o (λ (x : A). Unit {0})
some_if None = tt
some_if (Some x) = tt

or_false : (a b : Bool) → b ≡ false → (a || b) ≡ a
or_false true b e = refl
or_false false b e = e

module _ (s : Setting) (style : Style) (stage : Stage) (x : Step) where
  -- the stage after a step with an event
  pub next_is : (event : Event) (pair : OpenedPair) (core : Core) (reply : Reply) → event_of s stage x ≡ Some event → step (room_of s) stage.core event pair ≡ Some (core, reply)
      → next_stage s style stage x pair ≡ Some (with_reply s style stage x (core, reply))
  next_is event pair core reply e does = ap (option_map (with_reply s style stage x)) (step_is s stage x event pair e ∙ does)

  -- without an event, without an actor, or where the machine has no case, there is none
  pub no_event : event_of s stage x ≡ None → HasNoCase s style stage x
  no_event e = λ pair. ap (λ (o : Option Event). option_map (with_reply s style stage x) (step_of s stage o pair)) e

  pub no_actor : length stage.core.actors ≤ actor_in x → HasNoCase s style stage x
  no_actor far = λ pair. ap (option_map (with_reply s style stage x)) (step_absent s stage x pair (event_of s stage x) refl far)

  pub no_case : (m : Seen) (event : Event) → event_of s stage x ≡ Some event → m.capacity ≡ room_of s → m.core ≡ stage.core → Suited m.widths event → HasNoCaseAt m event
      → HasNoCase s style stage x
  no_case m event e capacity core suited none = elim none [
    | inl unsuited ↦ absurd (unsuited suited)
    | inr never ↦ λ pair. ap (option_map (with_reply s style stage x)) (step_is s stage x event pair e ∙ never_at pair (never pair))
  ]
    where
      never_at : (pair : OpenedPair) → step m.capacity m.core event pair ≡ None → step (room_of s) stage.core event pair ≡ None
      never_at pair never = sym (ap (λ (n : ℕ). step n stage.core event pair) capacity) ∙ sym (ap (λ (c : Core). step m.capacity c event pair) core) ∙ never

module _ {W : Type 0} (sight : Sight W) (none : NonePasses sight)
    (w : Widths) (s : Setting) (style : Style) (stage : Stage) (x : Step) (vs : List W) where
  -- the messages of a step over its wire
  honest_one : (ms : List Message) (pair : OpenedPair) (i : ℕ) (v u : W) → actor_in x ≡ i → i < length vs → v ≡ get_or vs i v → Went sight v ms u
      → AreHonest (Unaltered sight vs (set vs i u)) (entry x ms pair ∷ [])
  honest_one ms pair i v u own there is went = (
    λ still. went.honest (λ rose. still (subst (λ (j : ℕ). RoseAt sight j vs (set vs i u)) (sym own) (rose_here sight i vs v u there is rose))),
    tt,
  )

  -- what a step opened
  plain_one : (event : Event) (ms : List Message) (pair : OpenedPair) → event_of s stage x ≡ Some event → (IsHonest ms → IsPlain stage.core event pair)
      → ArePlain s style stage (entry x ms pair ∷ [])
  plain_one event ms pair e plain = (λ honest. subst (λ (o : Option Event). IsPlainOf stage o pair) (sym e) (plain honest), some_if (next_stage s style stage x pair))

  -- a step that was done
  pub step_leads : (event : Event) (ms : List Message) (pair : OpenedPair) (core : Core) (reply : Reply) (i : ℕ) (v u : W) (end : Stage) → event_of s stage x ≡ Some event
      → Carries w stage.core event ms pair → step (room_of s) stage.core event pair ≡ Some (core, reply) → end ≡ with_reply s style stage x (core, reply)
      → actor_in x ≡ i → i < length vs → v ≡ get_or vs i v → Went sight v ms u → (is_answer x ≡ false → u ≡ v)
      → (IsHonest ms → IsPlain stage.core event pair) → ((HasAltered sight v u → ⊥) → is_altered reply ≡ false)
      → Leads sight w s style stage vs (x ∷ []) end (set vs i u)
  step_leads event ms pair core reply i v u end e carries does is_end own there is went quiet plain accepted = record {
    history = entry x ms pair ∷ [];
    sent = wires_one sight none (entry x ms pair) 0 i vs v u there is (own ∙ sym (zero-add i)) went quiet;
    honest = honest_one ms pair i v u own there is went;
    plain = plain_one event ms pair e plain;
    advances = (
      refl,
      subst (λ (o : Option Event). CarriesOf w s stage o (entry x ms pair)) (sym e) carries,
      subst (λ (o : Option Stage). IsSomeAnd o (λ (next : Stage). end ≡ next)) (sym (next_is s style stage x event pair core reply e does)) is_end,
    );
    calm = λ still. ap (λ (a : Stage). a.altered) is_end ∙ or_false stage.altered (is_altered reply) (accepted (λ rose. still i (rose_here sight i vs v u there is rose)));
  }

  -- a step that was done, but for its line
  pub step_unreported : (t : ℕ) (event : Event) (ms : List Message) (pair : OpenedPair) (core : Core) (reply : Reply) (i : ℕ) (v u : W) → event_of s stage x ≡ Some event
      → Carries w stage.core event ms pair → step (room_of s) stage.core event pair ≡ Some (core, reply)
      → actor_in x ≡ i → i < length vs → v ≡ get_or vs i v → Went sight v ms u → (is_answer x ≡ false → u ≡ v)
      → (IsHonest ms → IsPlain stage.core event pair)
      → Stops sight w s style t stage vs (x ∷ []) (set vs i u) Memory
  step_unreported t event ms pair core reply i v u e carries does own there is went quiet plain = record {
    history = entry x ms pair ∷ [];
    sent = wires_one sight none (entry x ms pair) 0 i vs v u there is (own ∙ sym (zero-add i)) went quiet;
    honest = honest_one ms pair i v u own there is went;
    plain = plain_one event ms pair e plain;
    ends = (
      refl,
      inl (
        subst (λ (o : Option Event). CarriesOf w s stage o (entry x ms pair)) (sym e) carries,
        subst (λ (o : Option Stage). IsSomeAnd o (λ (next : Stage). Unit {0})) (sym (next_is s style stage x event pair core reply e does)) tt,
      ),
    );
  }

  -- a step whose messages were begun
  pub step_begun : (t : ℕ) (event : Event) (ms : List Message) (i : ℕ) (v u : W) → event_of s stage x ≡ Some event → Begins w stage.core event ms
      → actor_in x ≡ i → i < length vs → v ≡ get_or vs i v → Went sight v ms u → (is_answer x ≡ false → u ≡ v)
      → Stops sight w s style t stage vs (x ∷ []) (set vs i u) Memory
  step_begun t event ms i v u e begins own there is went quiet =
      let pair = plain_of stage.core (Some event) in
      record {
        history = entry x ms pair ∷ [];
        sent = wires_one sight none (entry x ms pair) 0 i vs v u there is (own ∙ sym (zero-add i)) went quiet;
        honest = honest_one ms pair i v u own there is went;
        plain = plain_one event ms pair e (λ honest. plain_is_plain stage.core event);
        ends = (refl, inr (subst (λ (o : Option Event). BeginsOf w s stage o (entry x ms pair)) (sym e) begins, refl));
      }

  -- a step without a case
  pub step_refused : (t : ℕ) → HasNoCase s style stage x → Stops sight w s style t stage vs (x ∷ []) vs (NotAllowed t)
  step_refused t never = record { history = []; sent = wires_none sight none 0 vs; honest = tt; plain = tt; ends = (never, omega arith, omega arith) }

  pub step_refused_at : (t : ℕ) (i : ℕ) (v u : W) → HasNoCase s style stage x → v ≡ get_or vs i v → u ≡ v
      → Stops sight w s style t stage vs (x ∷ []) (set vs i u) (NotAllowed t)
  step_refused_at t i v u never is same =
      record { history = []; sent = wires_still sight none i vs v u is same; honest = tt; plain = tt; ends = (never, omega arith, omega arith) }
