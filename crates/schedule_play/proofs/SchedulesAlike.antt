-- The sizes of a schedule's answers follow from its steps, the number of rows, the widths and the shapes of the queries.
use Rattle.std.proofs.Common.{◌≡◌, ◌∙◌, refl, sym, ap, subst, ℕ, zero, suc, ◌+◌, Bool, true, false, cond, nat_lt, max, List, [], ◌∷◌, ◌++◌, length, map, slice_get, set, get_or, drop, is_some, ◌||◌, Option, Some, None, option_map, arith, length-append}
use Rattle.std.specs.Prelude.{⊤}
use Rattle.prg_chacha.specs.Prg.{derive_of}
use Rattle.prg_chacha.specs.declared.seed.Seed.{Seed}
use Rattle.query_plan.specs.Query.{shaped}
use Rattle.query_plan.specs.declared.query.Query.{Query}
use Rattle.server_rounds.specs.declared.opened.OpenedPair.{OpenedPair}
use Rattle.table_schema.specs.declared.rows.Row.{Row}
use Rattle.table_schema.specs.declared.shapes.Shape.{Shape}
use Rattle.table_schema.specs.declared.widths.Widths.{Widths}
use Rattle.visit_trace.specs.Seen.{Grew}
use Rattle.visit_trace.specs.declared.sizes.Sizes.{Sizes}
use Rattle.waldo_core.specs.Answers.{rows_agreed}
use Rattle.waldo_core.specs.Core.{Actor, Core, Fixes, Open, is_pending, prefix}
use Rattle.waldo_core.specs.Core.Fixes.{Unfixed, First, Second, Agreed}
use Rattle.waldo_core.specs.Step.{acts, answer_step, drawn, fix_step, fixed, is_server, looked, place_step, placed, step}
use Rattle.waldo_core.specs.declared.events.Event.{Event}
use Rattle.waldo_core.specs.declared.events.Event.TheVariants as events
use Rattle.waldo_core.specs.declared.events.Reply.{Reply}
use Rattle.waldo_core.specs.declared.events.Reply.TheVariants as replies
use Rattle.waldo_words.specs.declared.schedule.Step.{Step}
use Rattle.waldo_words.specs.declared.schedule.Step.TheVariants as steps
use Rattle.schedule_play.specs.History.{nothing_opened}
use Rattle.schedule_play.specs.Laws.{SchedulesAlike, SizesAlike}
use Rattle.schedule_play.specs.Stages.{Stage, event_of, first_stage, next_stage, round_of, step_of, with_reply}
use Rattle.schedule_play.specs.Tasks.{Setting, room_of}
use Rattle.schedule_play.specs.Traces.{agreed_sizes, event_sizes, sizes_behind, sizes_from, sizes_in, traces_of}
use Rattle.schedule_play.specs.declared.style.Style.{Style}
use Rattle.schedule_play.specs.declared.style.Style.TheVariants.{Queries}
use Rattle.schedule_play.proofs.SeenAlike.{same_all}

-- cores that differ in the rows and seeds of their orders alone
record AreLike (a b : Core) : Type 0 where
  order : length a.order ≡ length b.order
  zero : a.zero ≡ b.zero
  one : a.one ≡ b.one
  two : a.two ≡ b.two
  actors : a.actors ≡ b.actors

core_is : (a b : Core) → AreLike a b → record a { order = b.order } ≡ b
core_is a b e =
    ap (λ (l : List ℕ). record { order = b.order; zero = l; one = a.one; two = a.two; actors = a.actors }) e.zero
    ∙ ap (λ (l : List ℕ). record { order = b.order; zero = b.zero; one = l; two = a.two; actors = a.actors }) e.one
    ∙ ap (λ (l : List ℕ). record { order = b.order; zero = b.zero; one = b.one; two = l; actors = a.actors }) e.two
    ∙ ap (λ (l : List Actor). record { order = b.order; zero = b.zero; one = b.one; two = b.two; actors = l }) e.actors

-- what steps of the core came to
abbrev LikeSteps : Option (Core × Reply) → Option (Core × Reply) → Type 0
LikeSteps None None = ⊤
LikeSteps None (Some v) = ⊥
LikeSteps (Some u) None = ⊥
LikeSteps (Some u) (Some v) = AreLike u.0 v.0

abbrev LikeStages : Option Stage → Option Stage → Type 0
LikeStages None None = ⊤
LikeStages None (Some b) = ⊥
LikeStages (Some a) None = ⊥
LikeStages (Some a) (Some b) = AreLike a.core b.core

like_if : (t : Bool) (u v x y : Option (Core × Reply)) → LikeSteps u v → LikeSteps x y → LikeSteps (cond t u x) (cond t v y)
like_if true u v x y e f = e
like_if false u v x y e f = f

like_pair : (t : Bool) (u v x y : Core × Reply) → AreLike u.0 v.0 → AreLike x.0 y.0 → LikeSteps (Some (cond t u x)) (Some (cond t v y))
like_pair true u v x y e f = e
like_pair false u v x y e f = f

-- one core, and the same with another order as long
module _ (core : Core) (order : List (Row × Seed)) (long : length core.order ≡ length order) where
  abbrev other : Core
  other = record core { order = order }

  -- with the same changes to journals and actors
  moved : (j0 j1 j2 : List ℕ) (actors : List Actor)
      → AreLike (record { order = core.order; zero = j0; one = j1; two = j2; actors = actors })
      (record { order = order; zero = j0; one = j1; two = j2; actors = actors })
  moved j0 j1 j2 actors = record { order = long; zero = refl; one = refl; two = refl; actors = refl }

  draw_like : (capacity number : ℕ) (actor : Actor) (d e : Row × Seed)
      → LikeSteps (Some (drawn capacity core number actor d)) (Some (drawn capacity other number actor e))
  draw_like capacity number actor d e =
      let at : ℕ → Open = λ n. record { place = n; zero = false; one = false; two = false } in
      let actors : ℕ → List Actor = λ n. set core.actors number (record actor { draw = Some (at n); fixes = Unfixed }) in
      let after : ℕ → Core × Reply = λ n. (record core { order = order ++ e ∷ []; actors = actors n }, replies.Drew n) in
      let more : length (core.order ++ d ∷ []) ≡ length (order ++ e ∷ []) = omega (arith, long, length-append core.order (d ∷ []), length-append order (e ∷ [])) in
      let n = length core.order in
      subst (λ (k : ℕ). LikeSteps (Some (drawn capacity core number actor d)) (Some (cond (nat_lt k capacity) (after k) (other, replies.Full capacity)))) long
      (like_pair (nat_lt n capacity) _ (after n) _ (other, replies.Full capacity)
      (record { order = more; zero = refl; one = refl; two = refl; actors = refl })
      (moved core.zero core.one core.two core.actors))

  placed_like : (number k : ℕ) (actor : Actor) (draw : Open) → LikeSteps (Some (placed core number actor k draw)) (Some (placed other number actor k draw))
  placed_like number zero actor draw = moved _ _ _ _
  placed_like number (suc zero) actor draw = moved _ _ _ _
  placed_like number (suc (suc k)) actor draw = moved _ _ _ _

  place_like : (number k : ℕ) (actor : Actor) (draw : Option Open) → LikeSteps (place_step core number actor k draw) (place_step other number actor k draw)
  place_like number k actor None = tt
  place_like number k actor (Some draw) = like_if (is_pending actor.fixes) None None _ _ tt (placed_like number k actor draw)

  looked_like : (number k : ℕ) (actor : Actor) → LikeSteps (Some (looked core number actor k)) (Some (looked other number actor k))
  looked_like number zero actor = moved _ _ _ _
  looked_like number (suc zero) actor = moved _ _ _ _
  looked_like number (suc (suc k)) actor = moved _ _ _ _

  fixed_like : (number : ℕ) (actor : Actor) (k found : ℕ) (kept : Fixes)
      → LikeSteps (Some (fixed core number actor k found kept)) (Some (fixed other number actor k found kept))
  fixed_like number actor k found kept = like_pair (nat_lt found actor.floor) _ _ _ _ (moved _ _ _ _) (moved _ _ _ _)

  fix_like : (number : ℕ) (actor : Actor) (fixes : Fixes) → LikeSteps (Some (fix_step core number actor fixes)) (Some (fix_step other number actor fixes))
  fix_like number actor Unfixed = fixed_like number actor 0 (prefix core.zero) (First (prefix core.zero))
  fix_like number actor (Agreed n) = fixed_like number actor 0 (prefix core.zero) (First (prefix core.zero))
  fix_like number actor (First p) = fixed_like number actor 1 (prefix core.one) (Second p (prefix core.one))
  fix_like number actor (Second p q) = like_pair (nat_lt (prefix core.two) actor.floor) _ _ _ _ (moved _ _ _ _) (moved _ _ _ _)

  answer_like : (fixes : Fixes) (q r : Query) (seed seed' : Seed) (pair : OpenedPair) → LikeSteps (answer_step core fixes q seed pair) (answer_step other fixes r seed' pair)
  answer_like Unfixed q r seed seed' pair = tt
  answer_like (First n) q r seed seed' pair = tt
  answer_like (Second n m) q r seed seed' pair = tt
  answer_like (Agreed n) q r seed seed' pair = moved core.zero core.one core.two core.actors

  -- events of the same kind
  acts_draw : (capacity number : ℕ) (row row' : Row) (seed seed' : Seed) (pair : OpenedPair) (o : Option Actor)
      → LikeSteps (acts capacity core (events.Draw number row seed) pair o) (acts capacity other (events.Draw number row' seed') pair o)
  acts_draw capacity number row row' seed seed' pair None = tt
  acts_draw capacity number row row' seed seed' pair (Some actor) =
      like_if (is_some actor.draw || is_pending actor.fixes) None None _ _ tt (draw_like capacity number actor (row, seed) (row', seed'))

  acts_place : (capacity number k : ℕ) (pair : OpenedPair) (o : Option Actor)
      → LikeSteps (acts capacity core (events.Place number k) pair o) (acts capacity other (events.Place number k) pair o)
  acts_place capacity number k pair None = tt
  acts_place capacity number k pair (Some actor) = like_if (is_server k) _ _ None None (place_like number k actor actor.draw) tt

  acts_look : (capacity number k : ℕ) (pair : OpenedPair) (o : Option Actor)
      → LikeSteps (acts capacity core (events.Look number k) pair o) (acts capacity other (events.Look number k) pair o)
  acts_look capacity number k pair None = tt
  acts_look capacity number k pair (Some actor) =
      like_if (is_server k) _ _ None None (like_if (is_pending actor.fixes) None None _ _ tt (looked_like number k actor)) tt

  acts_fix : (capacity number : ℕ) (pair : OpenedPair) (o : Option Actor)
      → LikeSteps (acts capacity core (events.Fix number) pair o) (acts capacity other (events.Fix number) pair o)
  acts_fix capacity number pair None = tt
  acts_fix capacity number pair (Some actor) = fix_like number actor actor.fixes

  acts_answer : (capacity number : ℕ) (q r : Query) (seed seed' : Seed) (pair : OpenedPair) (o : Option Actor)
      → LikeSteps (acts capacity core (events.Answer number q seed) pair o) (acts capacity other (events.Answer number r seed') pair o)
  acts_answer capacity number q r seed seed' pair None = tt
  acts_answer capacity number q r seed seed' pair (Some actor) = answer_like actor.fixes q r seed seed' pair

-- lists as long as each other have elements at the same places
abbrev SameThere : {A : Type 0} → Option A → Option A → Type 0
SameThere None None = ⊤
SameThere None (Some y) = ⊥
SameThere (Some x) None = ⊥
SameThere (Some x) (Some y) = ⊤

there : {A : Type 0} (xs ys : List A) (i : ℕ) → length xs ≡ length ys → SameThere (slice_get xs i) (slice_get ys i)
there [] [] i e = tt
there [] (y ∷ ys) i e = absurd (omega (arith, e))
there (x ∷ xs) [] i e = absurd (omega (arith, e))
there (x ∷ xs) (y ∷ ys) zero e = tt
there (x ∷ xs) (y ∷ ys) (suc i) e = there xs ys i (omega (arith, e))

-- queries of one shape, or none
abbrev SameShapes : Option Query → Option Query → Type 0
SameShapes None None = ⊤
SameShapes None (Some y) = ⊥
SameShapes (Some x) None = ⊥
SameShapes (Some x) (Some y) = shaped x ≡ shaped y

shapes_at : (xs ys : List Query) (i : ℕ) → map shaped xs ≡ map shaped ys → SameShapes (slice_get xs i) (slice_get ys i)
shapes_at [] [] i e = tt
shapes_at [] (y ∷ ys) i e = absurd (let no = ap (λ (l : List Shape). length l) e in omega (arith, no))
shapes_at (x ∷ xs) [] i e = absurd (let no = ap (λ (l : List Shape). length l) e in omega (arith, no))
shapes_at (x ∷ xs) (y ∷ ys) zero e = ap (λ (l : List Shape). get_or l 0 (shaped x)) e
shapes_at (x ∷ xs) (y ∷ ys) (suc i) e = shapes_at xs ys i (ap (λ (l : List Shape). drop 1 l) e)

-- stages of two settings
module _ (w : Widths) (s z : Setting) (rows : length s.rows ≡ length z.rows) (shapes : map shaped s.queries ≡ map shaped z.queries) where
  room : room_of s ≡ room_of z
  room = ap (λ (n : ℕ). max 1 n) rows

  -- from a core and the same with another order to two stages
  to_stages : (a b : Stage) (e f : Event) (pair : OpenedPair) → AreLike a.core b.core
      → LikeSteps (step (room_of s) a.core e pair) (step (room_of s) (record a.core { order = b.core.order }) f pair)
      → LikeSteps (step (room_of s) a.core e pair) (step (room_of z) b.core f pair)
  to_stages a b e f pair like same =
      subst (λ (n : ℕ). LikeSteps (step (room_of s) a.core e pair) (step n b.core f pair)) room
      (subst (λ (core : Core). LikeSteps (step (room_of s) a.core e pair) (step (room_of s) core f pair)) (core_is a.core b.core like) same)

  draws_like : (a b : Stage) (actor i j : ℕ) (pair : OpenedPair) (o p : Option Row) → AreLike a.core b.core → SameThere o p
      → LikeSteps (step_of s a (option_map (λ (row : Row). events.Draw actor row (derive_of s.master 1 actor i)) o) pair)
      (step_of z b (option_map (λ (row : Row). events.Draw actor row (derive_of z.master 1 actor j)) p) pair)
  draws_like a b actor i j pair None None like same = tt
  draws_like a b actor i j pair None (Some y) like same = absurd same
  draws_like a b actor i j pair (Some x) None like same = absurd same
  draws_like a b actor i j pair (Some x) (Some y) like same =
      to_stages a b (events.Draw actor x (derive_of s.master 1 actor i)) (events.Draw actor y (derive_of z.master 1 actor j)) pair like
      (acts_draw a.core b.core.order like.order (room_of s) actor x y (derive_of s.master 1 actor i) (derive_of z.master 1 actor j) pair (slice_get a.core.actors actor))

  answers_like : (a b : Stage) (actor i j : ℕ) (pair : OpenedPair) (o p : Option Query) → AreLike a.core b.core → SameShapes o p
      → LikeSteps (step_of s a (option_map (λ (q : Query). events.Answer actor q (derive_of s.master 2 actor i)) o) pair)
      (step_of z b (option_map (λ (q : Query). events.Answer actor q (derive_of z.master 2 actor j)) p) pair)
  answers_like a b actor i j pair None None like same = tt
  answers_like a b actor i j pair None (Some y) like same = absurd same
  answers_like a b actor i j pair (Some x) None like same = absurd same
  answers_like a b actor i j pair (Some x) (Some y) like same =
      to_stages a b (events.Answer actor x (derive_of s.master 2 actor i)) (events.Answer actor y (derive_of z.master 2 actor j)) pair like
      (acts_answer a.core b.core.order like.order (room_of s) actor x y (derive_of s.master 2 actor i) (derive_of z.master 2 actor j) pair (slice_get a.core.actors actor))

  rows_there : (a b : Stage) → AreLike a.core b.core → SameThere (slice_get s.rows (length a.core.order)) (slice_get z.rows (length b.core.order))
  rows_there a b like =
      subst (λ (n : ℕ). SameThere (slice_get s.rows (length a.core.order)) (slice_get z.rows n)) like.order (there s.rows z.rows (length a.core.order) rows)

  steps_like : (a b : Stage) (x : Step) (pair : OpenedPair) → AreLike a.core b.core
      → LikeSteps (step_of s a (event_of s a x) pair) (step_of z b (event_of z b x) pair)
  steps_like a b (steps.Draw actor) pair like =
      draws_like a b actor (length a.core.order) (length b.core.order) pair _ _ like (rows_there a b like)
  steps_like a b (steps.Place actor server) pair like =
      to_stages a b (events.Place actor server) (events.Place actor server) pair like (acts_place a.core b.core.order like.order (room_of s) actor server pair (slice_get a.core.actors actor))
  steps_like a b (steps.Look actor server) pair like =
      to_stages a b (events.Look actor server) (events.Look actor server) pair like (acts_look a.core b.core.order like.order (room_of s) actor server pair (slice_get a.core.actors actor))
  steps_like a b (steps.Fix actor) pair like =
      to_stages a b (events.Fix actor) (events.Fix actor) pair like (acts_fix a.core b.core.order like.order (room_of s) actor pair (slice_get a.core.actors actor))
  steps_like a b (steps.Answer actor query) pair like =
      answers_like a b actor (round_of a actor) (round_of b actor) pair _ _ like (shapes_at s.queries z.queries query shapes)

  map_like : (style : Style) (a b : Stage) (x : Step) (u v : Option (Core × Reply)) → LikeSteps u v
      → LikeStages (option_map (with_reply s style a x) u) (option_map (with_reply z style b x) v)
  map_like style a b x None None like = tt
  map_like style a b x None (Some v) like = absurd like
  map_like style a b x (Some u) None like = absurd like
  map_like style a b x (Some u) (Some v) like = like

  -- what an event's answer has
  draw_sizes : (core : Core) (actor i : ℕ) (m : Seed) (o : Option Row)
      → event_sizes w core (option_map (λ (row : Row). events.Draw actor row (derive_of m 1 actor i)) o) ≡ []
  draw_sizes core actor i m None = refl
  draw_sizes core actor i m (Some x) = refl

  over_same : (o : Option ℕ) (q r : Query) → shaped q ≡ shaped r → agreed_sizes w o q ≡ agreed_sizes w o r
  over_same None q r e = refl
  over_same (Some n) q r e = let sizes : Shape → Sizes = λ shape. record { rows = n; widths = w; shape = shape } in ap (λ (shape : Shape). sizes shape ∷ []) e

  answer_sizes : (a b : Core) (actor i j : ℕ) (o p : Option Query) → AreLike a b → SameShapes o p
      → event_sizes w a (option_map (λ (q : Query). events.Answer actor q (derive_of s.master 2 actor i)) o)
      ≡ event_sizes w b (option_map (λ (q : Query). events.Answer actor q (derive_of z.master 2 actor j)) p)
  answer_sizes a b actor i j None None like same = refl
  answer_sizes a b actor i j None (Some y) like same = absurd same
  answer_sizes a b actor i j (Some x) None like same = absurd same
  answer_sizes a b actor i j (Some x) (Some y) like same =
      over_same (rows_agreed (slice_get a.actors actor)) x y same
      ∙ ap (λ (actors : List Actor). agreed_sizes w (rows_agreed (slice_get actors actor)) y) like.actors

  event_like : (a b : Stage) (x : Step) → AreLike a.core b.core → event_sizes w a.core (event_of s a x) ≡ event_sizes w b.core (event_of z b x)
  event_like a b (steps.Draw actor) like = draw_sizes a.core actor _ s.master _ ∙ sym (draw_sizes b.core actor _ z.master _)
  event_like a b (steps.Place actor server) like = refl
  event_like a b (steps.Look actor server) like = refl
  event_like a b (steps.Fix actor) like = refl
  event_like a b (steps.Answer actor query) like =
      answer_sizes a.core b.core actor (round_of a actor) (round_of b actor) _ _ like (shapes_at s.queries z.queries query shapes)

  behind_like : (xs : List Step) → ((a b : Stage) → AreLike a.core b.core → sizes_from w s a xs ≡ sizes_from w z b xs) → (o p : Option Stage) → LikeStages o p
      → sizes_behind (λ (next : Stage). sizes_from w s next xs) o ≡ sizes_behind (λ (next : Stage). sizes_from w z next xs) p
  behind_like xs rest None None like = refl
  behind_like xs rest None (Some b) like = absurd like
  behind_like xs rest (Some a) None like = absurd like
  behind_like xs rest (Some a) (Some b) like = rest a b like

  sizes_like : (a b : Stage) (xs : List Step) → AreLike a.core b.core → sizes_from w s a xs ≡ sizes_from w z b xs
  sizes_like a b [] like = refl
  sizes_like a b (x ∷ xs) like =
      let after = map_like Queries a b x _ _ (steps_like a b x nothing_opened like) in
      ap (λ (l : List Sizes). l ++ sizes_behind (λ (next : Stage). sizes_from w s next xs) (next_stage s Queries a x nothing_opened)) (event_like a b x like)
      ∙ ap (λ (l : List Sizes). event_sizes w b.core (event_of z b x) ++ l) (behind_like xs (λ c d e. sizes_like c d xs e) _ _ after)

pub sizes_alike : SizesAlike
sizes_alike w a b same rows shapes =
    ap (λ (xs : List Step). sizes_from w a.setting first_stage xs) same
    ∙ sizes_like w a.setting b.setting rows shapes first_stage first_stage b.steps (record { order = refl; zero = refl; one = refl; two = refl; actors = refl })

pub schedules_alike : SchedulesAlike
schedules_alike w a b same rows shapes before after last f g =
    same_all before after last (traces_of (sizes_in w a)) f
    (subst (λ (zs : List Sizes). Grew before last (traces_of zs)) (sym (sizes_alike w a b same rows shapes)) g)
