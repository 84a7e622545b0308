-- Rows that actor 0 appends one after another.
use Rattle.std.proofs.Common.{◌≡◌, ◌∙◌, refl, sym, ap, subst, ℕ, suc, ◌+◌, ◌<◌, Bool, true, false, ltb, Some, None, List, [], ◌∷◌, ◌++◌, length, map, slice_get, max, arith, append_assoc, append-nil, length-append}
use Rattle.std.proofs.lemmas.Bool.{lt-ltb}
use Rattle.std.specs.List.{flat_map, range_with_len}
use Rattle.list_facts.specs.Count.{has}
use Rattle.prg_chacha.specs.Prg.{derive_of}
use Rattle.prg_chacha.specs.declared.seed.Seed.{Seed}
use Rattle.server_rounds.specs.declared.opened.OpenedPair.{OpenedPair}
use Rattle.table_schema.specs.declared.rows.Row.{Row}
use Rattle.waldo_core.specs.Core.{Actor, Core, fresh}
use Rattle.waldo_core.specs.Core.Fixes.{Unfixed}
use Rattle.waldo_words.specs.declared.schedule.Step.{Step}
use Rattle.waldo_words.specs.declared.schedule.Step.TheVariants as steps
use Rattle.schedule_play.specs.Appended.{seeded_rows}
use Rattle.schedule_play.specs.History.{is_answer}
use Rattle.schedule_play.specs.Stages.{Opening, Stage, first_stage, go_on, next_stage, played_on}
use Rattle.schedule_play.specs.Tasks.{Setting, append_steps, room_of}
use Rattle.schedule_play.specs.declared.style.Style.TheVariants.{Queries}
use Rattle.schedule_play.proofs.RowNumbers.{missing, numbers_below}

-- ---- steps that ask nothing

-- each of them has a case, whatever it would open, and they lead from one stage to another
abbrev pub Goes : Setting → Stage → List Step → Stage → Type 0
Goes s stage [] end = stage ≡ end
Goes s stage (x ∷ xs) end =
    (next : Stage) × (is_answer x ≡ false) × ((pair : OpenedPair) → next_stage s Queries stage x pair ≡ Some next) × Goes s next xs end

goes_both : (s : Setting) (a b d : Stage) (xs ys : List Step) → Goes s a xs b → Goes s b ys d → Goes s a (xs ++ ys) d
goes_both s a b d [] ys e more = subst (λ (stage : Stage). Goes s stage ys d) (sym e) more
goes_both s a b d (x ∷ xs) ys go more = (go.0, go.1, go.2, goes_both s go.0 b d xs ys go.3 more)

-- what other steps come to after them
pub goes_played : (s : Setting) (opens : Opening) (xs ys : List Step) (t : ℕ) (stage end : Stage) → Goes s stage xs end
    → played_on s Queries opens t stage (xs ++ ys) ≡ played_on s Queries opens (t + length xs) end ys
goes_played s opens [] ys t stage end e =
    let same : t ≡ t + 0 = omega arith in
    ap (λ (after : Stage). played_on s Queries opens t after ys) e ∙ ap (λ (n : ℕ). played_on s Queries opens n end ys) same
goes_played s opens (x ∷ xs) ys t stage end go =
    let same : t + 1 + length xs ≡ t + suc (length xs) = omega arith in
    ap (go_on (λ (after : Stage). played_on s Queries opens (t + 1) after (xs ++ ys)) t) (go.2 (opens t stage x))
    ∙ goes_played s opens xs ys (t + 1) go.0 end go.3 ∙ ap (λ (n : ℕ). played_on s Queries opens n end ys) same

-- ---- rows with their seeds

pub length-seeded_rows : (master : Seed) (i : ℕ) (rows : List Row) → length (seeded_rows master i rows) ≡ length rows
length-seeded_rows master i [] = refl
length-seeded_rows master i (row ∷ rows) = ap suc (length-seeded_rows master (i + 1) rows)

-- ---- stages

-- an order, three journals, actor 0 and the others
abbrev pub core_with : List (Row × Seed) → List ℕ → List ℕ → List ℕ → Actor → List Actor → Core
core_with order first second third actor others = record { order = order; zero = first; one = second; two = third; actors = actor ∷ others }

-- an actor with nothing under way
abbrev pub resting : ℕ → Actor
resting floor = record { floor = floor; draw = None; fixes = Unfixed }

-- an actor whose draw of its floor was placed at some servers
abbrev drawing : ℕ → Bool → Bool → Bool → Actor
drawing floor first second third = record { floor = floor; draw = Some (record { place = floor; zero = first; one = second; two = third }); fixes = Unfixed }

-- no lines yet
abbrev without_lines : Core → List ℕ → Stage
without_lines core rounds = record { core = core; rounds = rounds; lines = []; altered = false }

-- the stage once i rows were appended
abbrev pub with_rows : List (Row × Seed) → ℕ → List Actor → List ℕ → Stage
with_rows order i others rounds = without_lines (core_with order (numbers_below i) (numbers_below i) (numbers_below i) (resting i) others) rounds

-- ---- the four steps of a row

module _ (s : Setting) (others : List Actor) (rounds : List ℕ) (order : List (Row × Seed)) (j : List ℕ) (i : ℕ) (pair : OpenedPair) where
  draws : (row : Row) → length order ≡ i → slice_get s.rows i ≡ Some row → ltb i (room_of s) ≡ true
      → next_stage s Queries (without_lines (core_with order j j j (resting i) others) rounds) (steps.Draw 0) pair
      ≡ Some (without_lines (core_with (order ++ (row, derive_of s.master 1 0 i) ∷ []) j j j (drawing i false false false) others) rounds)
  draws row long row_is room =
      let there : slice_get s.rows (length order) ≡ Some row = ap (slice_get s.rows) long ∙ row_is in
      rw (there, long, room) refl

  places_first : has i j ≡ false
      → next_stage s Queries (without_lines (core_with order j j j (drawing i false false false) others) rounds) (steps.Place 0 0) pair
      ≡ Some (without_lines (core_with order (j ++ i ∷ []) j j (drawing i true false false) others) rounds)
  places_first new = rw new refl

  places_second : (before : List ℕ) → has i j ≡ false
      → next_stage s Queries (without_lines (core_with order before j j (drawing i true false false) others) rounds) (steps.Place 0 1) pair
      ≡ Some (without_lines (core_with order before (j ++ i ∷ []) j (drawing i true true false) others) rounds)
  places_second before new = rw new refl

  places_third : (before : List ℕ) → has i j ≡ false
      → next_stage s Queries (without_lines (core_with order before before j (drawing i true true false) others) rounds) (steps.Place 0 2) pair
      ≡ Some (without_lines (core_with order before before (j ++ i ∷ []) (resting (i + 1)) others) rounds)
  places_third before new = let floor : max i (i + 1) ≡ i + 1 = omega arith in rw (new, floor) refl

-- ---- row by row

module _ (s : Setting) (others : List Actor) (rounds : List ℕ) where
  row_goes : (order : List (Row × Seed)) (i : ℕ) (row : Row) → length order ≡ i → slice_get s.rows i ≡ Some row → i < length s.rows
      → Goes s (with_rows order i others rounds) append_steps (with_rows (order ++ (row, derive_of s.master 1 0 i) ∷ []) (i + 1) others rounds)
  row_goes order i row long row_is inside =
      let j = numbers_below i in
      let more = numbers_below i ++ i ∷ [] in
      let grown = order ++ (row, derive_of s.master 1 0 i) ∷ [] in
      let room : ltb i (room_of s) ≡ true = lt-ltb i (room_of s) (omega arith) in
      let on : suc i ≡ i + 1 = omega arith in (
        without_lines (core_with grown j j j (drawing i false false false) others) rounds,
        refl,
        (λ pair. draws s others rounds order j i pair row long row_is room),
        (
          without_lines (core_with grown more j j (drawing i true false false) others) rounds,
          refl,
          (λ pair. places_first s others rounds grown j i pair (missing i)),
          (
            without_lines (core_with grown more more j (drawing i true true false) others) rounds,
            refl,
            (λ pair. places_second s others rounds grown j i pair more (missing i)),
            (
              without_lines (core_with grown more more more (resting (i + 1)) others) rounds,
              refl,
              (λ pair. places_third s others rounds grown j i pair more (missing i)),
              ap (λ (js : List ℕ). without_lines (core_with grown js js js (resting (i + 1)) others) rounds) (ap numbers_below on),
            ),
          ),
        ),
      )

  same_rows : (i i' : ℕ) (order order' : List (Row × Seed)) → i ≡ i' → order ≡ order' → with_rows order i others rounds ≡ with_rows order' i' others rounds
  same_rows i i' order order' same_i same_order =
      ap (λ (n : ℕ). with_rows order n others rounds) same_i ∙ ap (λ (l : List (Row × Seed)). with_rows l i' others rounds) same_order

  -- all rows from one on
  pub rows_go : (rest : List Row) (i : ℕ) (order : List (Row × Seed)) → length order ≡ i
      → ((k : ℕ) → slice_get s.rows (i + k) ≡ slice_get rest k) → i + length rest ≡ length s.rows
      → Goes s (with_rows order i others rounds) (flat_map (λ (row : ℕ). append_steps) (range_with_len i (length rest)))
      (with_rows (order ++ seeded_rows s.master i rest) (i + length rest) others rounds)
  rows_go [] i order long rest_is size =
      let same_i : i ≡ i + 0 = omega arith in
      same_rows i (i + 0) order (order ++ []) same_i (sym (append-nil order))
  rows_go (row ∷ rows) i order long rest_is size =
      let entry : Row × Seed = (row, derive_of s.master 1 0 i) in
      let behind = seeded_rows s.master (i + 1) rows in
      let here : i ≡ i + 0 = omega arith in
      let inside : i < length s.rows = omega arith in
      let more = length-append order (entry ∷ []) in
      let grown : length (order ++ entry ∷ []) ≡ i + 1 = omega arith in
      let left : i + 1 + length rows ≡ length s.rows = omega arith in
      let others_at : (k : ℕ) → slice_get s.rows (i + 1 + k) ≡ slice_get rows k =
      λ k. let on : i + 1 + k ≡ i + suc k = omega arith in ap (slice_get s.rows) on ∙ rest_is (suc k) in
      let same_i : i + 1 + length rows ≡ i + suc (length rows) = omega arith in
      let others_go = rows_go rows (i + 1) (order ++ entry ∷ []) grown others_at left in
      goes_both s (with_rows order i others rounds) (with_rows (order ++ entry ∷ []) (i + 1) others rounds)
      (with_rows (order ++ entry ∷ behind) (i + suc (length rows)) others rounds) append_steps
      (flat_map (λ (r : ℕ). append_steps) (range_with_len (i + 1) (length rows)))
      (row_goes order i row long (ap (slice_get s.rows) here ∙ rest_is 0) inside)
      (subst (λ (end : Stage). Goes s (with_rows (order ++ entry ∷ []) (i + 1) others rounds) (flat_map (λ (r : ℕ). append_steps) (range_with_len (i + 1) (length rows))) end)
      (same_rows (i + 1 + length rows) (i + suc (length rows)) ((order ++ entry ∷ []) ++ behind) (order ++ entry ∷ behind) same_i (append_assoc order (entry ∷ []) behind))
      others_go)

-- ---- all rows

-- the other actors and their rounds, before any step
abbrev pub other_actors : List Actor
other_actors = map (λ (actor : ℕ). fresh) (range_with_len 1 15)

abbrev pub other_rounds : List ℕ
other_rounds = map (λ (actor : ℕ). 0) (range_with_len 1 15)

-- the order and the journals once all rows were appended
abbrev pub all_entries : Setting → List (Row × Seed)
all_entries s = seeded_rows s.master 0 s.rows

abbrev pub all_numbers : Setting → List ℕ
all_numbers s = numbers_below (length s.rows)

pub all_go : (s : Setting) → Goes s first_stage (flat_map (λ (row : ℕ). append_steps) (range_with_len 0 (length s.rows)))
    (with_rows (all_entries s) (length s.rows) other_actors (0 ∷ other_rounds))
all_go s =
    let from_none : (k : ℕ) → 0 + k ≡ k = λ k. omega arith in
    subst (λ (n : ℕ). Goes s first_stage (flat_map (λ (row : ℕ). append_steps) (range_with_len 0 (length s.rows))) (with_rows (all_entries s) n other_actors (0 ∷ other_rounds)))
    (from_none (length s.rows))
    (rows_go s other_actors (0 ∷ other_rounds) s.rows 0 [] refl (λ k. ap (slice_get s.rows) (from_none k)) (from_none (length s.rows)))
