-- Chunks that are sealed one after another, and those that are still open, the last one first.
use Rattle.std.proofs.Common.{◌≡◌, ◌≢◌, ◌∙◌, refl, sym, ap, subst, ℕ, ◌+◌, ◌-◌, ◌*◌, ◌/◌, ◌%◌, ◌<◌, ◌≤◌, ⊎_elim, min, List, [], ◌∷◌, ◌++◌, length, reverse, take, drop, get_or, set, arith}
use Rattle.std.proofs.lemmas.Bool.{cases_lt}
use Rattle.std.proofs.lemmas.List.{drop-append-le, drop_all, drop_at, length-append, length-drop, length-reverse, reverse-append, take-append-drop, take_all, length-set, length_push, get_or_append_left, get_or-append_right, get_or_past, get_or_push, get_or-reverse, get_or-set_same, get_or-set_other}
use Rattle.table_schema.specs.declared.widths.Widths.{Widths}
use Rattle.scan_chunks.specs.Pieces.{chunks_of}
use Rattle.prefix_log.specs.Chunks.{AreFirst, Halves, HalvesWritten, HasRows, HaveRows, IsCopy, PlaceWritten, RowWritten, chunk_at, halves_at}
use Rattle.prefix_log.proofs.Cuts.{chunk_rows}
use Rattle.prefix_log.proofs.Ranges.{drop_past}

-- ---- columns

-- what holds of each column, and of one more
pub pushed_each : (P : ℕ → Halves → Type 0) (n : ℕ) (xs ys : List Halves) (x : Halves) → ys ≡ xs ++ x ∷ [] → length xs ≡ n → ((c : ℕ) → c < n → P c (halves_at xs c)) → P n x
    → (c : ℕ) → c < n + 1 → P c (halves_at ys c)
pushed_each P n xs ys x is long all here c lt = ⊎_elim
    (λ (less : c < n). subst (P c) (sym (ap (λ (l : List Halves). halves_at l c) is ∙ get_or_append_left xs (x ∷ []) _ c (omega arith))) (all c less))
    (λ (last : n ≤ c). let e : c ≡ n = omega arith in
    subst (λ (i : ℕ). P i (halves_at ys i)) (sym e) (subst (P n) (sym (ap (λ (l : List Halves). halves_at l n) is ∙ get_or_push xs x _ n long)) here)) (cases_lt c n)

pub pushed_count : (n : ℕ) (xs ys : List Halves) (x : Halves) → ys ≡ xs ++ x ∷ [] → length xs ≡ n → length ys ≡ n + 1
pushed_count n xs ys x is long = ap length is ∙ length_push xs x ∙ ap (λ (m : ℕ). m + 1) long

-- columns of which one more was written
pub set_done : (P : ℕ → Halves → Type 0) (n : ℕ) (xs : List Halves) (x : Halves) → n < length xs → ((c : ℕ) → c < n → P c (halves_at xs c)) → P n x
    → (c : ℕ) → c < n + 1 → P c (halves_at (set xs n x) c)
set_done P n xs x there all here c lt = ⊎_elim
    (λ (less : c < n). let ne : c ≢ n = λ (e : c ≡ n). absurd (omega arith) in subst (P c) (sym (get_or-set_other xs n c x _ ne)) (all c less))
    (λ (last : n ≤ c). let e : c ≡ n = omega arith in
    subst (λ (i : ℕ). P i (halves_at (set xs n x) i)) (sym e) (subst (P n) (sym (get_or-set_same xs n x _ there)) here)) (cases_lt c n)

pub set_rest : (n : ℕ) (old xs : List Halves) (x : Halves) → ((c : ℕ) → n ≤ c → halves_at xs c ≡ halves_at old c) → (c : ℕ) → n + 1 ≤ c → halves_at (set xs n x) c ≡ halves_at old c
set_rest n old xs x rest c le = let ne : c ≢ n = λ (e : c ≡ n). absurd (omega arith) in get_or-set_other xs n c x _ ne ∙ rest c (omega arith)

-- a column that was written, as its parts are named
pub halves_as : (start start' : ℕ) (own own' next next' : List ℕ) (old old' new : Halves) → start ≡ start' → own ≡ own' → next ≡ next' → old ≡ old' → HalvesWritten start own next old new → HalvesWritten start' own' next' old' new
halves_as start start' own own' next next' old old' new a b c d is =
    subst (λ (o : Halves). HalvesWritten start' own' next' o new) d
    (subst (λ (l : List ℕ). HalvesWritten start' own' l old new) c (subst (λ (l : List ℕ). HalvesWritten start' l next old new) b (subst (λ (n : ℕ). HalvesWritten n own next old new) a is)))

-- ---- chunks

module _ (sealed rest : List (List Halves)) where
  pub all_count : length (sealed ++ reverse rest) ≡ length sealed + length rest
  all_count = length-append sealed (reverse rest) ∙ ap (λ (n : ℕ). length sealed + n) (length-reverse rest)

  pub sealed_at : (j : ℕ) → j < length sealed → chunk_at (sealed ++ reverse rest) j ≡ chunk_at sealed j
  sealed_at j lt = get_or_append_left sealed (reverse rest) [] j lt

  pub open_at : (j : ℕ) → length sealed ≤ j → j < length sealed + length rest → chunk_at (sealed ++ reverse rest) j ≡ get_or rest (length sealed + length rest - 1 - j) []
  open_at j le lt =
      let behind : length rest - 1 - (j - length sealed) ≡ length sealed + length rest - 1 - j = omega arith in
      get_or-append_right sealed (reverse rest) (length sealed) j [] refl le ∙ get_or-reverse rest (j - length sealed) [] (omega arith) ∙ ap (λ (i : ℕ). get_or rest i []) behind

  pub past_all : (j : ℕ) → length sealed + length rest ≤ j → chunk_at (sealed ++ reverse rest) j ≡ []
  past_all j le = get_or_past (sealed ++ reverse rest) j [] (omega (arith, all_count))

-- a row of an open chunk is written
pub open_written : (w : Widths) (place : ℕ) (first second : List ℕ) (sealed rest : List (List Halves)) (x : List Halves) → length sealed ≤ place / 64 → place / 64 < length sealed + length rest
    → RowWritten w (place % 64) first second (get_or rest (length sealed + length rest - 1 - place / 64) []) x
    → PlaceWritten w place first second (sealed ++ reverse rest) (sealed ++ reverse (set rest (length sealed + length rest - 1 - place / 64) x))
open_written w place first second sealed rest x le lt is = record {
  count = all_count sealed (set rest (length sealed + length rest - 1 - place / 64) x) ∙ ap (λ (n : ℕ). length sealed + n) size ∙ sym (all_count sealed rest);
  here = subst (λ (chunk : List Halves). RowWritten w (place % 64) first second chunk (chunk_at (sealed ++ reverse (set rest (length sealed + length rest - 1 - place / 64) x)) (place / 64))) (sym (open_at sealed rest (place / 64) le lt))
      (subst (RowWritten w (place % 64) first second (get_or rest (length sealed + length rest - 1 - place / 64) [])) (sym (at_new (place / 64) le lt ∙ get_or-set_same rest (length sealed + length rest - 1 - place / 64) x [] (omega arith))) is);
  others = λ j ne. ⊎_elim (λ (early : j < length sealed). sealed_at sealed (set rest (length sealed + length rest - 1 - place / 64) x) j early ∙ sym (sealed_at sealed rest j early))
      (λ (late : length sealed ≤ j). ⊎_elim
      (λ (there : j < length sealed + length rest).
      let other : length sealed + length rest - 1 - j ≢ length sealed + length rest - 1 - place / 64 = λ (e : length sealed + length rest - 1 - j ≡ length sealed + length rest - 1 - place / 64). ne (omega arith) in
      at_new j late there ∙ get_or-set_other rest (length sealed + length rest - 1 - place / 64) (length sealed + length rest - 1 - j) x [] other ∙ sym (open_at sealed rest j late there))
      (λ (past : length sealed + length rest ≤ j). past_all sealed (set rest (length sealed + length rest - 1 - place / 64) x) j (omega (arith, size)) ∙ sym (past_all sealed rest j past)) (cases_lt j (length sealed + length rest))) (cases_lt j (length sealed));
}
  where
    size : length (set rest (length sealed + length rest - 1 - place / 64) x) ≡ length rest
    size = length-set rest (length sealed + length rest - 1 - place / 64) x

    at_new : (j : ℕ) → length sealed ≤ j → j < length sealed + length rest
        → chunk_at (sealed ++ reverse (set rest (length sealed + length rest - 1 - place / 64) x)) j ≡ get_or (set rest (length sealed + length rest - 1 - place / 64) x) (length sealed + length rest - 1 - j) []
    at_new j late there =
        open_at sealed (set rest (length sealed + length rest - 1 - place / 64) x) j late (omega (arith, size))
        ∙ ap (λ (n : ℕ). get_or (set rest (length sealed + length rest - 1 - place / 64) x) (length sealed + n - 1 - j) []) size

pub open_written_at : (w : Widths) (place behind : ℕ) (first second : List ℕ) (sealed rest old : List (List Halves)) (x chunk : List Halves) → length sealed ≤ place / 64 → place / 64 < length sealed + length rest
    → behind ≡ length sealed + length rest - 1 - place / 64 → chunk ≡ get_or rest behind [] → sealed ++ reverse rest ≡ old → RowWritten w (place % 64) first second chunk x
    → PlaceWritten w place first second old (sealed ++ reverse (set rest behind x))
open_written_at w place behind first second sealed rest old x chunk le lt back at same is =
    subst (λ (all : List (List Halves)). PlaceWritten w place first second all (sealed ++ reverse (set rest behind x))) same
    (rw back (open_written w place first second sealed rest x le lt
    (subst (λ (i : ℕ). RowWritten w (place % 64) first second (get_or rest i []) x) back (subst (λ (c : List Halves). RowWritten w (place % 64) first second c x) at is))))

-- ---- the first rows

module _ (w : Widths) (rows : ℕ) (sealed rest : List (List Halves)) (are : length sealed ≡ rows / 64) (have : HaveRows w rows (sealed ++ reverse rest)) where
  pub some_open : 0 < rows % 64 → 0 < length rest
  some_open left = (let c = have.count in omega (arith, all_count sealed rest))

  pub next_rows : 0 < rows % 64 → HasRows w (rows % 64) (get_or rest (length rest - 1) [])
  next_rows left =
      let some = some_open left in
      let lt : rows / 64 < chunks_of rows = omega arith in
      let n : min 64 (rows - 64 * (rows / 64)) ≡ rows % 64 = omega arith in
      let behind : length sealed + length rest - 1 - rows / 64 ≡ length rest - 1 = omega arith in
      subst (λ (m : ℕ). HasRows w m (get_or rest (length rest - 1) [])) n
      (subst (HasRows w (min 64 (rows - 64 * (rows / 64)))) (open_at sealed rest (rows / 64) (omega arith) (omega arith) ∙ ap (λ (i : ℕ). get_or rest i []) behind)
      (chunk_rows w rows (rows / 64) (sealed ++ reverse rest) have lt))

  pub first_whole : (new : List (List Halves)) → rows % 64 ≡ 0 → new ≡ sealed → AreFirst w rows (sealed ++ reverse rest) new
  first_whole new none is = rw is record {
    count = omega arith;
    same = λ j lt. sym (sealed_at sealed rest j (omega arith));
    left = λ some. absurd (omega arith);
  }

  pub first_and_left : (new : List (List Halves)) (x : List Halves) → 0 < rows % 64 → new ≡ sealed ++ x ∷ [] → IsCopy w (rows % 64) (get_or rest (length rest - 1) []) x
      → AreFirst w rows (sealed ++ reverse rest) new
  first_and_left new x some is copy =
      let there = some_open some in
      let behind : length sealed + length rest - 1 - rows / 64 ≡ length rest - 1 = omega arith in
      rw is record {
        count = length_push sealed x ∙ omega arith;
        same = λ j lt. get_or_append_left sealed (x ∷ []) [] j (omega arith) ∙ sym (sealed_at sealed rest j (omega arith));
        left = λ more.
            subst (λ (chunk : List Halves). IsCopy w (rows % 64) chunk (chunk_at (sealed ++ x ∷ []) (rows / 64))) (sym (open_at sealed rest (rows / 64) (omega arith) (omega arith) ∙ ap (λ (i : ℕ). get_or rest i []) behind))
            (subst (IsCopy w (rows % 64) (get_or rest (length rest - 1) [])) (sym (get_or_push sealed x [] (rows / 64) are)) copy);
      }

-- ---- without the first chunks

-- the last ones of a list, the last one first
drop_reversed : (k : ℕ) (xs : List (List Halves)) → k ≤ length xs → drop k (reverse xs) ≡ reverse (take (length xs - k) xs)
drop_reversed k xs le =
    let front : length (reverse (drop (length xs - k) xs)) ≡ k = omega (arith, length-reverse (drop (length xs - k) xs), length-drop (length xs - k) xs) in
    ap (λ (l : List (List Halves)). drop k (reverse l)) (sym (take-append-drop (length xs - k) xs))
    ∙ ap (drop k) (reverse-append (take (length xs - k) xs) (drop (length xs - k) xs))
    ∙ drop_at (reverse (drop (length xs - k) xs)) (reverse (take (length xs - k) xs)) k front

pub all_dropped : (count m n : ℕ) (sealed rest : List (List Halves)) → count ≤ length sealed + length rest → m ≡ min count (length sealed) → n ≡ length rest - (count - m)
    → drop m sealed ++ reverse (take n rest) ≡ drop count (sealed ++ reverse rest)
all_dropped count m n sealed rest le is left = ⊎_elim
    (λ (more : length sealed < count).
    let all : m ≡ length sealed = omega arith in
    let past : n ≡ length rest - (count - length sealed) = omega arith in
    ap (λ (i : ℕ). drop i sealed ++ reverse (take n rest)) all ∙ ap (λ (l : List (List Halves)). l ++ reverse (take n rest)) (drop_all (length sealed) sealed (omega arith))
    ∙ ap (λ (i : ℕ). reverse (take i rest)) past ∙ sym (drop_reversed (count - length sealed) rest (omega arith))
    ∙ sym (drop_past sealed (reverse rest) count (count - length sealed) (omega arith)))
    (λ (few : count ≤ length sealed).
    let same : m ≡ count = omega arith in
    let whole : length rest ≤ n = omega arith in
    ap (λ (i : ℕ). drop i sealed ++ reverse (take n rest)) same ∙ ap (λ (l : List (List Halves)). drop count sealed ++ reverse l) (take_all n rest whole)
    ∙ sym (drop-append-le count sealed (reverse rest) few)) (cases_lt (length sealed) count)

-- ---- free chunks

pub free_more : (P : ℕ → List Halves → Type 0) (n : ℕ) (xs ys : List (List Halves)) (x : List Halves) → ys ≡ xs ++ x ∷ [] → length xs ≡ n → ((k : ℕ) → k < n → P k (get_or xs k [])) → P n x
    → (k : ℕ) → k < n + 1 → P k (get_or ys k [])
free_more P n xs ys x is long all here k lt = ⊎_elim
    (λ (less : k < n). subst (P k) (sym (ap (λ (l : List (List Halves)). get_or l k []) is ∙ get_or_append_left xs (x ∷ []) [] k (omega arith))) (all k less))
    (λ (last : n ≤ k). let e : k ≡ n = omega arith in
    subst (λ (i : ℕ). P i (get_or ys i [])) (sym e) (subst (P n) (sym (ap (λ (l : List (List Halves)). get_or l n []) is ∙ get_or_push xs x [] n long)) here)) (cases_lt k n)

pub free_count : (n : ℕ) (xs ys : List (List Halves)) (x : List Halves) → ys ≡ xs ++ x ∷ [] → length xs ≡ n → length ys ≡ n + 1
free_count n xs ys x is long = ap length is ∙ length_push xs x ∙ ap (λ (m : ℕ). m + 1) long
