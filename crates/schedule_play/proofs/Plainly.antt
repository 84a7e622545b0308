-- Where each answer opened the plain one, steps come to what they come to plainly.
use Rattle.std.proofs.Common.{◌≡◌, ◌∙◌, refl, sym, ap, subst, ℕ, suc, ◌+◌, List, [], ◌∷◌, arith}
use Rattle.std.specs.Prelude.{⊤, IfSome, IsSomeAnd, Option, Some, None, Result, option_map, slice_get}
use Rattle.server_rounds.specs.declared.opened.OpenedPair.{OpenedPair}
use Rattle.table_schema.specs.declared.widths.Widths.{Widths}
use Rattle.waldo_core.specs.Answers.{IsPlain, IsPlainOver, rows_agreed}
use Rattle.waldo_core.specs.Core.{Actor, Core, Fixes}
use Rattle.waldo_core.specs.Core.Fixes.{Unfixed, First, Second, Agreed}
use Rattle.waldo_core.specs.Step.{acts, step}
use Rattle.waldo_core.specs.declared.events.Event.{Event}
use Rattle.waldo_core.specs.declared.events.Event.TheVariants as events
use Rattle.waldo_words.specs.declared.schedule.Step.{Step}
use Rattle.schedule_play.specs.History.{AreHonest, Done, IsHistory, HasHistory, opened_in, pair_at}
use Rattle.schedule_play.specs.Plain.{ArePlain, IsPlainOf, plain_of, plain_over, plainly}
use Rattle.schedule_play.specs.Stages.{Opening, Stage, event_of, first_stage, go_on, next_stage, played, played_on, step_of, with_reply}
use Rattle.schedule_play.specs.Tasks.{Setting, Task}
use Rattle.schedule_play.specs.declared.style.Style.{Style}

-- an answer of an actor with these fixes
answered : (capacity : ℕ) (core : Core) (number : ℕ) (q : _) (seed : _) (pair : OpenedPair) (found : Option Actor)
    → IsPlainOver core.order (rows_agreed found) q seed pair
    → acts capacity core (events.Answer number q seed) pair found ≡ acts capacity core (events.Answer number q seed) (plain_over core q seed (rows_agreed found)) found
answered capacity core number q seed pair None plain = refl
answered capacity core number q seed pair (Some actor) plain = by actor.fixes refl
  where
    by : (fixes : Fixes) → actor.fixes ≡ fixes
        → acts capacity core (events.Answer number q seed) pair (Some actor) ≡ acts capacity core (events.Answer number q seed) (plain_over core q seed (rows_agreed (Some actor))) (Some actor)
    by Unfixed e = rw e refl
    by (First p) e = rw e refl
    by (Second p r) e = rw e refl
    by (Agreed n) e = let same : pair ≡ plain_over core q seed (rows_agreed (Some actor)) = rw e (rw e at plain) in
        ap (λ (p : OpenedPair). acts capacity core (events.Answer number q seed) p (Some actor)) same

-- other events rest on no pair
unopened : (capacity : ℕ) (core : Core) (event : Event) (p r : OpenedPair) (found : Option Actor) → ((number : ℕ) (q : _) (seed : _) → event ≡ events.Answer number q seed → ⊥)
    → acts capacity core event p found ≡ acts capacity core event r found
unopened capacity core event p r None other = refl
unopened capacity core (events.Draw number row seed) p r (Some actor) other = refl
unopened capacity core (events.Place number k) p r (Some actor) other = refl
unopened capacity core (events.Look number k) p r (Some actor) other = refl
unopened capacity core (events.Fix number) p r (Some actor) other = refl
unopened capacity core (events.Answer number q seed) p r (Some actor) other = absurd (other number q seed refl)

-- an event with what it opened, and with the plain answer
event_plain : (capacity : ℕ) (core : Core) (event : Event) (pair : OpenedPair) → IsPlain core event pair
    → step capacity core event pair ≡ step capacity core event (plain_of core (Some event))
event_plain capacity core (events.Draw number row seed) pair plain = unopened capacity core (events.Draw number row seed) pair (plain_of core (Some (events.Draw number row seed))) _ (λ a b c e. cc)
event_plain capacity core (events.Place number k) pair plain = unopened capacity core (events.Place number k) pair (plain_of core (Some (events.Place number k))) _ (λ a b c e. cc)
event_plain capacity core (events.Look number k) pair plain = unopened capacity core (events.Look number k) pair (plain_of core (Some (events.Look number k))) _ (λ a b c e. cc)
event_plain capacity core (events.Fix number) pair plain = unopened capacity core (events.Fix number) pair (plain_of core (Some (events.Fix number))) _ (λ a b c e. cc)
event_plain capacity core (events.Answer number q seed) pair plain = answered capacity core number q seed pair (slice_get core.actors number) plain

opened_plain : (s : Setting) (stage : Stage) (event : Option Event) (pair : OpenedPair) → IsPlainOf stage event pair
    → step_of s stage event pair ≡ step_of s stage event (plain_of stage.core event)
opened_plain s stage None pair plain = refl
opened_plain s stage (Some event) pair plain = event_plain _ stage.core event pair plain

step_plain : (s : Setting) (style : Style) (stage : Stage) (x : Step) (pair : OpenedPair) (t : ℕ) → IsPlainOf stage (event_of s stage x) pair
    → next_stage s style stage x pair ≡ next_stage s style stage x (plainly s t stage x)
step_plain s style stage x pair t plain = ap (option_map (with_reply s style stage x)) (opened_plain s stage (event_of s stage x) pair plain)

-- what comes after a step
abbrev rest_of : Widths → Setting → Style → Opening → ℕ → List Step → Stage → Result Stage ℕ
rest_of w s style opens t xs next = played_on s style opens (t + 1) next xs

-- steps from a stage on, where each opens what its history says
same : (w : Widths) (s : Setting) (style : Style) (opens : Opening) (t : ℕ) (stage : Stage) (xs : List Step) (ds : List Done)
    → ((i : ℕ) (st : Stage) (x : Step) → opens (t + i) st x ≡ pair_at ds i)
    → IsHistory w s style stage xs ds → AreHonest (λ actor. ⊤) ds → ArePlain s style stage ds
    → played_on s style opens t stage xs ≡ played_on s style (plainly s) t stage xs
same w s style opens t stage [] [] gives history honest plain = refl
same w s style opens t stage [] (d ∷ ds) gives history honest plain = absurd history
same w s style opens t stage (x ∷ xs) [] gives history honest plain =
    ap (go_on (rest_of w s style opens t xs) t) (history (opens t stage x)) ∙ sym (ap (go_on (rest_of w s style (plainly s) t xs) t) (history (plainly s t stage x)))
same w s style opens t stage (x ∷ xs) (d ∷ ds) gives history honest plain =
    by (next_stage s style stage x d.pair) refl (λ next on clear. same w s style opens (t + 1) next xs ds later on honest.1 clear)
  where
    here : opens t stage x ≡ d.pair
    here = let e : t + 0 ≡ t = omega arith in subst (λ (n : ℕ). opens n stage x ≡ d.pair) e (gives 0 stage x)

    later : (i : ℕ) (st : Stage) (y : Step) → opens (t + 1 + i) st y ≡ pair_at ds i
    later i st y = let e : t + suc i ≡ t + 1 + i = omega arith in subst (λ (n : ℕ). opens n st y ≡ pair_at ds i) e (gives (suc i) st y)

    goes : IsSomeAnd (next_stage s style stage x d.pair) (λ (next : Stage). IsHistory w s style next xs ds)
    goes = history.2

    plain_here : IsPlainOf stage (event_of s stage x) d.pair
    plain_here = subst (λ (y : Step). IsPlainOf stage (event_of s stage y) d.pair) history.0 (plain.0 (honest.0 tt))

    plain_on : IfSome (next_stage s style stage x d.pair) (λ (next : Stage). ArePlain s style next ds)
    plain_on = subst (λ (y : Step). IfSome (next_stage s style stage y d.pair) (λ (next : Stage). ArePlain s style next ds)) history.0 plain.1

    by : (o : Option Stage) → next_stage s style stage x d.pair ≡ o
        → ((next : Stage) → IsHistory w s style next xs ds → ArePlain s style next ds → played_on s style opens (t + 1) next xs ≡ played_on s style (plainly s) (t + 1) next xs)
        → played_on s style opens t stage (x ∷ xs) ≡ played_on s style (plainly s) t stage (x ∷ xs)
    by None e rest = absurd (subst (λ (o : Option Stage). IsSomeAnd o (λ (next : Stage). IsHistory w s style next xs ds)) e goes)
    by (Some next) e rest =
        let left : next_stage s style stage x (opens t stage x) ≡ Some next = ap (next_stage s style stage x) here ∙ e in
        let right : next_stage s style stage x (plainly s t stage x) ≡ Some next = sym (step_plain s style stage x d.pair t plain_here) ∙ e in
        let on : IsHistory w s style next xs ds = subst (λ (o : Option Stage). IsSomeAnd o (λ (next : Stage). IsHistory w s style next xs ds)) e goes in
        let clear : ArePlain s style next ds = subst (λ (o : Option Stage). IfSome o (λ (next : Stage). ArePlain s style next ds)) e plain_on in
        ap (go_on (rest_of w s style opens t xs) t) left ∙ rest next on clear ∙ sym (ap (go_on (rest_of w s style (plainly s) t xs) t) right)

pub plainly_played : (w : Widths) (task : Task) (history : List Done) → HasHistory w task history
    → AreHonest (λ actor. ⊤) history → ArePlain task.setting task.style first_stage history → played (opened_in history) task ≡ played (plainly task.setting) task
plainly_played w task history has honest plain =
    same w task.setting task.style (opened_in history) 0 first_stage task.steps history (λ i st x. let e : 0 + i ≡ i = omega arith in ap (pair_at history) e) has honest plain
