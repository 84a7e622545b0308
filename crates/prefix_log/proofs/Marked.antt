-- Legal journals: their starts, their prefixes and how long they are.
use Rattle.std.proofs.Common.{◌≡◌, ◌≢◌, ◌∙◌, refl, sym, ap, subst, ℕ, ◌+◌, ◌-◌, ◌/◌, ◌%◌, ◌<◌, ◌≤◌, ◌⊎◌, inl, inr, ⊎_elim, Bool, true, false, cond, ltb, List, [], ◌∷◌, ◌++◌, length, append_assoc, append-nil, arith}
use Rattle.std.proofs.lemmas.Bool.{cases_lt, le-leb, lt-leb}
use Rattle.std.proofs.lemmas.Bool.Decides.{nat_tests}
use Rattle.std.proofs.lemmas.List.{length-append}
use Rattle.list_facts.specs.Count.{has, times, once_below}
use Rattle.list_facts.proofs.Count.{has_from, has_no, has_yes, length_once, times-append}
use Rattle.prefix_log.specs.Journal.{GoesOn, IsJournal, IsNewMark, IsNewPlace, IsPrefixOf, mark_of, prefix, start, start_after, start_for, start_from}
use Rattle.prefix_log.specs.Laws.{NoMarkNoStart, StartIsWithin}
use Rattle.prefix_log.proofs.Prefixes.{prefix_grows, prefix_is_largest}

-- ---- one entry more

one_there : (x y : ℕ) → x ≡ y → times x (y ∷ []) ≡ 1
one_there x y e = grind (arith, nat_tests)

one_elsewhere : (x y : ℕ) → x ≢ y → times x (y ∷ []) ≡ 0
one_elsewhere x y ne = grind (arith, nat_tests)

one_most : (x y : ℕ) → times x (y ∷ []) ≤ 1
one_most x y = grind (arith, nat_tests)

from_one : (x y : ℕ) → 0 < times x (y ∷ []) → x ≡ y
from_one x y e = grind (arith, nat_tests)

pub has_self : (x : ℕ) (xs : List ℕ) → has x (xs ++ x ∷ []) ≡ true
has_self x xs = has_from x (xs ++ x ∷ []) (omega (arith, times-append x xs (x ∷ []), one_there x x refl))

pub has_other : (x y : ℕ) (xs : List ℕ) → x ≢ y → has x (xs ++ y ∷ []) ≡ has x xs
has_other x y xs ne =
    let same : times x (xs ++ y ∷ []) ≡ times x xs = omega (arith, times-append x xs (y ∷ []), one_elsewhere x y ne) in
    ap (λ (n : ℕ). ltb 0 n) same

pub has_kept : (x y : ℕ) (xs : List ℕ) → has x xs ≡ true → has x (xs ++ y ∷ []) ≡ true
has_kept x y xs there = has_from x (xs ++ y ∷ []) (omega (arith, times-append x xs (y ∷ []), has_yes x xs there))

-- what is in a list with one more is in the list or is the one
pub has_either : (x y : ℕ) (xs : List ℕ) → has x (xs ++ y ∷ []) ≡ true → (has x xs ≡ true) ⊎ (x ≡ y)
has_either x y xs there = ⊎_elim (λ (some : 0 < times x xs). inl (has_from x xs some))
    (λ (none : times x xs ≤ 0). inr (from_one x y (omega (arith, times-append x xs (y ∷ []), has_yes x (xs ++ y ∷ []) there)))) (cases_lt 0 (times x xs))

start_from_more : (before : ℕ) (xs : List ℕ) (y : ℕ) → start_from before (xs ++ y ∷ []) ≡ start_after (start_from before xs) y
start_from_more before [] y = refl
start_from_more before (x ∷ xs) y = start_from_more (start_after before x) xs y

pub start_more : (xs : List ℕ) (y : ℕ) → start (xs ++ y ∷ []) ≡ start_after (start xs) y
start_more xs y = start_from_more 0 xs y

pub start_placed : (xs : List ℕ) (place : ℕ) → place < 4294967296 → start (xs ++ place ∷ []) ≡ start xs
start_placed xs place lt = start_more xs place ∙ ap (λ (b : Bool). cond b (place - 4294967296) (start xs)) (lt-leb 4294967296 place lt)

pub start_marked : (xs : List ℕ) (s : ℕ) → start (xs ++ mark_of s ∷ []) ≡ s
start_marked xs s =
    let less : 4294967296 ≤ 4294967296 + s = omega arith in
    let rest : 4294967296 + s - 4294967296 ≡ s = omega arith in
    start_more xs (mark_of s) ∙ ap (λ (b : Bool). cond b (mark_of s - 4294967296) (start xs)) (le-leb 4294967296 (mark_of s) less) ∙ rest

goes_more : (capacity : ℕ) (before xs : List ℕ) (y : ℕ) → GoesOn capacity before xs → IsNewPlace capacity (before ++ xs) y ⊎ IsNewMark (before ++ xs) y → GoesOn capacity before (xs ++ y ∷ [])
goes_more capacity before [] y goes new = (subst (λ (l : List ℕ). IsNewPlace capacity l y ⊎ IsNewMark l y) (append-nil before) new, tt)
goes_more capacity before (x ∷ xs) y goes new =
    (goes.0, goes_more capacity (before ++ x ∷ []) xs y goes.1 (subst (λ (l : List ℕ). IsNewPlace capacity l y ⊎ IsNewMark l y) (sym (append_assoc before (x ∷ []) xs)) new))

pub journal_placed : (capacity : ℕ) (journal : List ℕ) (place : ℕ) → IsJournal capacity journal → place < capacity → has place journal ≡ false → IsJournal capacity (journal ++ place ∷ [])
journal_placed capacity journal place legal lt free = goes_more capacity [] journal place legal (inl (record { below = lt; new = free }))

pub journal_marked : (capacity : ℕ) (journal : List ℕ) (s : ℕ) → IsJournal capacity journal → s % 64 ≡ 0 → start journal < s → s ≤ prefix journal → IsJournal capacity (journal ++ mark_of s ∷ [])
journal_marked capacity journal s legal whole above within = goes_more capacity [] journal (mark_of s) legal (inr (record { start_at = s; mark = refl; whole = whole; above = above; within = within }))

-- ---- what a legal journal has

-- the places of a journal
abbrev places : List ℕ → List ℕ
places [] = []
places (x ∷ xs) = cond (ltb x 4294967296) (x ∷ places xs) (places xs)

places_more : (xs : List ℕ) (y : ℕ) → length (places (xs ++ y ∷ [])) ≡ length (places xs) + cond (ltb y 4294967296) 1 0
places_more [] y = by (ltb y 4294967296)
  where
    by : (b : Bool) → length (cond b (y ∷ []) []) ≡ 0 + cond b 1 0
    by true = omega arith
    by false = omega arith
places_more (x ∷ xs) y = by (ltb x 4294967296) (places_more xs y)
  where
    by : (b : Bool) → length (places (xs ++ y ∷ [])) ≡ length (places xs) + cond (ltb y 4294967296) 1 0
        → length (cond b (x ∷ places (xs ++ y ∷ [])) (places (xs ++ y ∷ []))) ≡ length (cond b (x ∷ places xs) (places xs)) + cond (ltb y 4294967296) 1 0
    by true e = omega (arith, e)
    by false e = e

times_places : (x : ℕ) (xs : List ℕ) → times x (places xs) ≤ times x xs
times_places x [] = omega arith
times_places x (y ∷ ys) = by (ltb y 4294967296) (times_places x ys)
  where
    by : (b : Bool) → times x (places ys) ≤ times x ys → times x (cond b (y ∷ places ys) (places ys)) ≤ times x (y ∷ ys)
    by true e = omega (arith, e)
    by false e = omega (arith, e)

big_places : (x : ℕ) (xs : List ℕ) → 4294967296 ≤ x → times x (places xs) ≡ 0
big_places x [] le = refl
big_places x (y ∷ ys) le = by (ltb y 4294967296) refl (big_places x ys le)
  where
    by : (b : Bool) → ltb y 4294967296 ≡ b → times x (places ys) ≡ 0 → times x (cond b (y ∷ places ys) (places ys)) ≡ 0
    by true lt e = let ne : times x (y ∷ []) ≡ 0 = one_elsewhere x y (λ (s : x ≡ y). absurd (grind (arith, nat_tests))) in omega (arith, e, ne)
    by false lt e = e

record Facts (capacity : ℕ) (journal : List ℕ) : Type 0 where
  once : (x : ℕ) → times x journal ≤ 1
  known : (x : ℕ) → has x journal ≡ true → (x < capacity) ⊎ ((4294967296 ≤ x) × (x ≤ mark_of (start journal)))
  whole : start journal % 64 ≡ 0
  within : start journal ≤ prefix journal
  few : length journal ≤ length (places journal) + start journal / 64

no_facts : (capacity : ℕ) → Facts capacity []
no_facts capacity = record {
  once = λ x. omega arith;
  known = λ x there. absurd cc;
  whole = refl;
  within = omega arith;
  few = omega arith;
}

-- an entry that is not there yet
once_new : (journal : List ℕ) (y : ℕ) → ((x : ℕ) → times x journal ≤ 1) → has y journal ≡ false → (x : ℕ) → times x (journal ++ y ∷ []) ≤ 1
once_new journal y once new x = ⊎_elim
    (λ (some : 0 < times x (y ∷ [])).
    let none : times x journal ≡ 0 = ap (λ (z : ℕ). times z journal) (from_one x y some) ∙ has_no y journal new in
    omega (arith, none, times-append x journal (y ∷ []), one_most x y))
    (λ (none : times x (y ∷ []) ≤ 0). omega (arith, times-append x journal (y ∷ []), once x)) (cases_lt 0 (times x (y ∷ [])))

prefix_more : (journal : List ℕ) (y : ℕ) → prefix journal ≤ prefix (journal ++ y ∷ [])
prefix_more journal y = prefix_grows journal (journal ++ y ∷ []) (λ place there. has_kept place y journal there)

place_facts : (capacity : ℕ) (journal : List ℕ) (place : ℕ) → capacity ≤ 65536 → Facts capacity journal → IsNewPlace capacity journal place → Facts capacity (journal ++ place ∷ [])
place_facts capacity journal place small f new =
    let stays = start_placed journal place (let lt = new.below in omega arith) in
    let one : 0 + cond (ltb place 4294967296) 1 0 ≡ 1 = (let lt = new.below in grind (arith, nat_tests)) in
    record {
      once = once_new journal place f.once new.new;
      known = λ x there. ⊎_elim
          (λ (was : has x journal ≡ true). subst (λ (s : ℕ). (x < capacity) ⊎ ((4294967296 ≤ x) × (x ≤ mark_of s))) (sym stays) (f.known x was))
          (λ (is : x ≡ place). inl (let lt = new.below in omega arith)) (has_either x place journal there);
      whole = ap (λ (s : ℕ). s % 64) stays ∙ f.whole;
      within = omega (arith, stays, f.within, prefix_more journal place);
      few = omega (arith, stays, f.few, places_more journal place, one, length-append journal (place ∷ []));
    }

mark_facts : (capacity : ℕ) (journal : List ℕ) (entry : ℕ) → capacity ≤ 65536 → Facts capacity journal → IsNewMark journal entry → Facts capacity (journal ++ entry ∷ [])
mark_facts capacity journal entry small f new = subst (λ (e : ℕ). Facts capacity (journal ++ e ∷ [])) (sym new.mark) (record {
  once = once_new journal (mark_of s) f.once absent;
  known = λ x there. ⊎_elim (λ (was : has x journal ≡ true). old x (f.known x was)) (λ (is : x ≡ mark_of s). inr (by_mark x is)) (has_either x (mark_of s) journal there);
  whole = ap (λ (n : ℕ). n % 64) rises ∙ new.whole;
  within = omega (arith, rises, new.within, prefix_more journal (mark_of s));
  few = omega (arith, rises, f.few, f.whole, new.above, new.whole, places_more journal (mark_of s), length-append journal (mark_of s ∷ []));
})
  where
    s : ℕ
    s = new.start_at

    rises : start (journal ++ mark_of new.start_at ∷ []) ≡ new.start_at
    rises = start_marked journal new.start_at

    absent : has (mark_of new.start_at) journal ≡ false
    absent = by (has (mark_of new.start_at) journal) refl
      where
        by : (b : Bool) → has (mark_of new.start_at) journal ≡ b → has (mark_of new.start_at) journal ≡ false
        by false e = e
        by true e = ⊎_elim (λ (lt : mark_of new.start_at < capacity). absurd (omega arith))
            (λ (marked : (4294967296 ≤ mark_of new.start_at) × (mark_of new.start_at ≤ mark_of (start journal))). let m = marked.1 in let a = new.above in absurd (omega arith)) (f.known (mark_of new.start_at) e)

    old : (x : ℕ) → (x < capacity) ⊎ ((4294967296 ≤ x) × (x ≤ mark_of (start journal))) → (x < capacity) ⊎ ((4294967296 ≤ x) × (x ≤ mark_of (start (journal ++ mark_of new.start_at ∷ []))))
    old x e = ⊎_elim (λ (lt : x < capacity). inl lt)
        (λ (marked : (4294967296 ≤ x) × (x ≤ mark_of (start journal))). inr (marked.0, (let m = marked.1 in let a = new.above in omega (arith, rises)))) e

    by_mark : (x : ℕ) → x ≡ mark_of new.start_at → (4294967296 ≤ x) × (x ≤ mark_of (start (journal ++ mark_of new.start_at ∷ [])))
    by_mark x is = (omega arith, omega (arith, rises))

facts_from : (capacity : ℕ) (before xs : List ℕ) → capacity ≤ 65536 → GoesOn capacity before xs → Facts capacity before → Facts capacity (before ++ xs)
facts_from capacity before [] small goes f = subst (Facts capacity) (sym (append-nil before)) f
facts_from capacity before (x ∷ xs) small goes f =
    subst (Facts capacity) (append_assoc before (x ∷ []) xs)
    (facts_from capacity (before ++ x ∷ []) xs small goes.1
    (⊎_elim (λ (place : IsNewPlace capacity before x). place_facts capacity before x small f place) (λ (mark : IsNewMark before x). mark_facts capacity before x small f mark) goes.0))

facts : (capacity : ℕ) (journal : List ℕ) → capacity ≤ 65536 → IsJournal capacity journal → Facts capacity journal
facts capacity journal small legal = facts_from capacity [] journal small legal (no_facts capacity)

-- ---- what follows

pub start_is_within : StartIsWithin
start_is_within capacity journal small legal = let f = facts capacity journal small legal in record { whole = f.whole; within = f.within }

pub start_whole : (capacity : ℕ) (journal : List ℕ) → capacity ≤ 65536 → IsJournal capacity journal → start journal % 64 ≡ 0
start_whole capacity journal small legal = (facts capacity journal small legal).whole

pub start_within : (capacity : ℕ) (journal : List ℕ) → capacity ≤ 65536 → IsJournal capacity journal → start journal ≤ prefix journal
start_within capacity journal small legal = (facts capacity journal small legal).within

pub entries_once : (capacity : ℕ) (journal : List ℕ) → capacity ≤ 65536 → IsJournal capacity journal → (x : ℕ) → times x journal ≤ 1
entries_once capacity journal small legal = (facts capacity journal small legal).once

-- a place of a legal journal is below the capacity
pub place_below : (capacity : ℕ) (journal : List ℕ) (place : ℕ) → capacity ≤ 65536 → IsJournal capacity journal → place < 4294967296 → has place journal ≡ true → place < capacity
place_below capacity journal place small legal less there = ⊎_elim (λ (lt : place < capacity). lt)
    (λ (marked : (4294967296 ≤ place) × (place ≤ mark_of (start journal))). let m = marked.0 in absurd (omega arith)) ((facts capacity journal small legal).known place there)

-- and so is no prefix above it
pub prefix_below : (capacity n : ℕ) (journal : List ℕ) → capacity ≤ 65536 → IsJournal capacity journal → IsPrefixOf journal n → n ≤ capacity
prefix_below capacity n journal small legal is = ⊎_elim
    (λ (more : capacity < n). let lt : capacity < capacity = place_below capacity journal capacity small legal (omega arith) (is.below capacity more) in absurd (omega arith))
    (λ (le : n ≤ capacity). le) (cases_lt capacity n)

-- a legal journal has at most so many entries
pub few_entries : (capacity : ℕ) (journal : List ℕ) → capacity ≤ 65536 → IsJournal capacity journal → length journal ≤ capacity + capacity / 64
few_entries capacity journal small legal =
    let f = facts capacity journal small legal in
    let most = prefix_below capacity (prefix journal) journal small legal (prefix_is_largest journal) in
    let count = length_once (places journal) capacity (λ x. place_once x) in
    omega (arith, f.few, f.within, most, count)
  where
    yes : (x : ℕ) → x < capacity → once_below x capacity ≡ 1
    yes x lt = grind (arith, nat_tests)

    place_once : (x : ℕ) → times x (places journal) ≤ once_below x capacity
    place_once x = ⊎_elim (λ (lt : x < capacity). omega (arith, yes x lt, times_places x journal, entries_once capacity journal small legal x))
        (λ (le : capacity ≤ x). ⊎_elim
        (λ (some : 0 < times x (places journal)).
        let there : has x journal ≡ true = has_from x journal (omega (arith, times_places x journal)) in
        ⊎_elim (λ (less : x < 4294967296). let lt : x < capacity = place_below capacity journal x small legal less there in absurd (omega arith))
        (λ (big : 4294967296 ≤ x). let none = big_places x journal big in absurd (omega arith)) (cases_lt x 4294967296))
        (λ (none : times x (places journal) ≤ 0). omega arith) (cases_lt 0 (times x (places journal)))) (cases_lt x capacity)

-- ---- journals without marks

no_start : (before : ℕ) (journal : List ℕ) → ((x : ℕ) → has x journal ≡ true → x < 4294967296) → start_from before journal ≡ before
no_start before [] below = refl
no_start before (x ∷ xs) below =
    let lt = below x (has_from x (x ∷ xs) (omega (arith, one_there x x refl))) in
    ap (λ (b : Bool). start_from (cond b (x - 4294967296) before) xs) (lt-leb 4294967296 x lt)
    ∙ no_start before xs (λ y there. below y (has_from y (x ∷ xs) (omega (arith, has_yes y xs there))))

pub no_mark_no_start : NoMarkNoStart
no_mark_no_start capacity journal small places = no_start 0 journal (λ x there. let lt = places x there in omega arith)

-- ---- a retirement

-- the start that it comes to
pub start_for_whole : (before : ℕ) (journal : List ℕ) → start_for before journal % 64 ≡ 0
start_for_whole before journal = omega arith

pub start_for_within : (before : ℕ) (journal : List ℕ) → start_for before journal ≤ prefix journal
start_for_within before journal = omega arith
