-- Stages that differ in their lines alone: what an answer opens changes nothing else.
use Rattle.std.proofs.Common.{◌≡◌, ◌∙◌, refl, sym, ap, subst, ℕ, ℤ, ◌+◌, Bool, true, cond, List, length, get_or, set, slice_get, Option, Some, None, option_map, Result, Ok, Err}
use Rattle.std.specs.Prelude.{⊤}
use Rattle.prg_chacha.specs.Prg.{derive_of}
use Rattle.prg_chacha.specs.declared.seed.Seed.{Seed}
use Rattle.query_plan.specs.declared.query.Query.{Query}
use Rattle.server_rounds.specs.declared.opened.OpenedPair.{OpenedPair}
use Rattle.table_schema.specs.declared.rows.Row.{Row}
use Rattle.weighted_check.specs.declared.Altered.{Altered as Refused}
use Rattle.waldo_core.specs.Core.{Actor, Core, Fixes}
use Rattle.waldo_core.specs.Core.Fixes.{Unfixed, First, Second, Agreed}
use Rattle.waldo_core.specs.Step.{acts, actor_of, answer_step, reply_of, step}
use Rattle.waldo_core.specs.declared.events.Event.{Event}
use Rattle.waldo_core.specs.declared.events.Event.TheVariants as events
use Rattle.waldo_core.specs.declared.events.Reply.{Reply}
use Rattle.waldo_words.specs.declared.schedule.Step.{Step}
use Rattle.waldo_words.specs.declared.schedule.Step.TheVariants as steps
use Rattle.schedule_play.specs.Stages.{Stage, actor_in, event_of, is_asked, next_stage, step_of, with_reply}
use Rattle.schedule_play.specs.Tasks.{Setting, room_of}
use Rattle.schedule_play.specs.declared.style.Style.{Style}

-- the same core, and as many `ask` lines of each actor
pub record AreAlike (a b : Stage) : Type 0 where
  pub core : a.core ≡ b.core
  pub rounds : a.rounds ≡ b.rounds

pub alike_itself : (a : Stage) → AreAlike a a
alike_itself a = record { core = refl; rounds = refl }

-- the same of stages that there may not be
abbrev pub AlikeAfter : Option Stage → Option Stage → Type 0
AlikeAfter None None = ⊤
AlikeAfter None (Some b) = ⊥
AlikeAfter (Some a) None = ⊥
AlikeAfter (Some a) (Some b) = AreAlike a b

-- steps of the core that differ in their reply's numbers alone
abbrev SameSteps : Option (Core × Reply) → Option (Core × Reply) → Type 0
SameSteps None None = ⊤
SameSteps None (Some v) = ⊥
SameSteps (Some u) None = ⊥
SameSteps (Some u) (Some v) = (u.0 ≡ v.0) × (is_asked u.1 ≡ is_asked v.1)

same_itself : (o : Option (Core × Reply)) → SameSteps o o
same_itself None = tt
same_itself (Some u) = (refl, refl)

asked_reply : (n : ℕ) (r : Result ℤ Refused) → is_asked (reply_of n r) ≡ true
asked_reply n (Ok total) = refl
asked_reply n (Err pair) = refl

answer_same : (core : Core) (fixes : Fixes) (query : Query) (seed : Seed) (p q : OpenedPair) → SameSteps (answer_step core fixes query seed p) (answer_step core fixes query seed q)
answer_same core Unfixed query seed p q = tt
answer_same core (First n) query seed p q = tt
answer_same core (Second n m) query seed p q = tt
answer_same core (Agreed n) query seed p q = (refl, asked_reply n _ ∙ sym (asked_reply n _))

acts_same : (capacity : ℕ) (core : Core) (event : Event) (p q : OpenedPair) (o : Option Actor) → SameSteps (acts capacity core event p o) (acts capacity core event q o)
acts_same capacity core event p q None = tt
acts_same capacity core (events.Draw number row seed) p q (Some actor) = same_itself (acts capacity core (events.Draw number row seed) p (Some actor))
acts_same capacity core (events.Place number k) p q (Some actor) = same_itself (acts capacity core (events.Place number k) p (Some actor))
acts_same capacity core (events.Look number k) p q (Some actor) = same_itself (acts capacity core (events.Look number k) p (Some actor))
acts_same capacity core (events.Fix number) p q (Some actor) = same_itself (acts capacity core (events.Fix number) p (Some actor))
acts_same capacity core (events.Answer number query seed) p q (Some actor) = answer_same core actor.fixes query seed p q

module _ (s : Setting) where
  -- the event of a step
  pub event_alike : (a b : Stage) (x : Step) → AreAlike a b → event_of s a x ≡ event_of s b x
  event_alike a b (steps.Draw actor) e =
      ap (λ (c : Core). option_map (λ (row : Row). events.Draw actor row (derive_of s.master 1 actor (length c.order))) (slice_get s.rows (length c.order))) e.core
  event_alike a b (steps.Place actor server) e = refl
  event_alike a b (steps.Look actor server) e = refl
  event_alike a b (steps.Fix actor) e = refl
  event_alike a b (steps.Answer actor query) e =
      ap (λ (rounds : List ℕ). option_map (λ (q : Query). events.Answer actor q (derive_of s.master 2 actor (get_or rounds actor 0))) (slice_get s.queries query)) e.rounds

  steps_same : (a b : Stage) (o : Option Event) (p q : OpenedPair) → AreAlike a b → SameSteps (step_of s a o p) (step_of s b o q)
  steps_same a b None p q e = tt
  steps_same a b (Some event) p q e =
      subst (λ (c : Core). SameSteps (step (room_of s) a.core event p) (step (room_of s) c event q)) e.core
      (acts_same (room_of s) a.core event p q (slice_get a.core.actors (actor_of event)))

  rounds_same : (a b : Stage) (x : Step) (t u : Bool) → AreAlike a b → t ≡ u
      → cond t (set a.rounds (actor_in x) (get_or a.rounds (actor_in x) 0 + 1)) a.rounds ≡ cond u (set b.rounds (actor_in x) (get_or b.rounds (actor_in x) 0 + 1)) b.rounds
  rounds_same a b x t u e same =
      ap (λ (v : Bool). cond v (set a.rounds (actor_in x) (get_or a.rounds (actor_in x) 0 + 1)) a.rounds) same
      ∙ ap (λ (l : List ℕ). cond u (set l (actor_in x) (get_or l (actor_in x) 0 + 1)) l) e.rounds

  map_alike : (f g : Style) (a b : Stage) (x : Step) (u v : Option (Core × Reply)) → AreAlike a b → SameSteps u v
      → AlikeAfter (option_map (with_reply s f a x) u) (option_map (with_reply s g b x) v)
  map_alike f g a b x None None e same = tt
  map_alike f g a b x None (Some v) e same = absurd same
  map_alike f g a b x (Some u) None e same = absurd same
  map_alike f g a b x (Some u) (Some v) e same = record { core = same.0; rounds = rounds_same a b x (is_asked u.1) (is_asked v.1) e same.1 }

  -- the stages after a step, whatever it opened
  pub next_alike : (f g : Style) (a b : Stage) (x : Step) (p q : OpenedPair) → AreAlike a b → AlikeAfter (next_stage s f a x p) (next_stage s g b x q)
  next_alike f g a b x p q e =
      map_alike f g a b x _ _ e
      (subst (λ (o : Option Event). SameSteps (step_of s a (event_of s a x) p) (step_of s b o q)) (event_alike a b x e) (steps_same a b (event_of s a x) p q e))
