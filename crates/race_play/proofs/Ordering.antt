-- The order that is filled from what the writers wrote.
use Rattle.std.proofs.Common.{◌≡◌, ◌≢◌, ◌∙◌, refl, sym, ap, subst, ℕ, zero, suc, ◌+◌, ◌-◌, ◌%◌, ◌<◌, ◌≤◌, ◌⊎◌, inl, inr, ⊎_elim, Some, slice_get, List, [], ◌∷◌, ◌++◌, length, max, arith, length-append}
use Rattle.std.proofs.lemmas.Bool.Decides.{nat_tests}
use Rattle.std.proofs.lemmas.Option.{same_Some, slice_get_within}
use mathlib.Core.Logic.{dite}
use native.Mathlib.Decide.{ℕ_discrete}
use Rattle.list_facts.specs.Count.{once_below, times}
use Rattle.list_facts.proofs.Count.{length_once, once_below_most, times-append, times-once}
use Rattle.prg_chacha.specs.declared.seed.Seed.{Seed}
use Rattle.table_schema.specs.declared.rows.Row.{Row}
use Rattle.race_play.specs.Filled.{HaveWritten, IsGathered, all_places, filled, filled_all}
use Rattle.race_play.specs.Laws.{GatheredStands}
use Rattle.race_play.specs.Printed.{At}
use Rattle.race_play.specs.Turns.{IsRising, turns}
use Rattle.race_play.specs.Writes.{AreEntries, IsEntry, floor_over}
use Rattle.race_play.proofs.Filling.{Free, InPair, filled_at, filled_count, filled_keeps, filled_long, in_times, pair_of}
use Rattle.race_play.proofs.Sums.{length_total, times_total, tot_once, tot_ones, tsum, tsum_all}
use Rattle.race_play.proofs.Writing.{Below, entries_long, rising_snoc, turns_no, turns_yes}

-- ---- the turns of one writer

below_more : (m n : ℕ) (xs : List ℕ) → m ≤ n → Below m xs → Below n xs
below_more m n [] le b = tt
below_more m n (x ∷ xs) le b = (let lt = b.0 in omega arith, below_more m n xs le b.1)

below_snoc : (m : ℕ) (xs : List ℕ) (x : ℕ) → Below m xs → x < m → Below m (xs ++ x ∷ [])
below_snoc m [] x b lt = (lt, tt)
below_snoc m (y ∷ xs) x b lt = (b.0, below_snoc m xs x b.1 lt)

turns_below : (w many n : ℕ) → Below n (turns w many n)
turns_below w many zero = tt
turns_below w many (suc n) = dite (ℕ_discrete (n % many) w)
    (λ e. subst (λ (xs : List ℕ). Below (suc n) xs) (sym (turns_yes w many n e)) (below_snoc (suc n) (turns w many n) n (below_more n (suc n) (turns w many n) (omega arith) (turns_below w many n)) (omega arith)))
    (λ ne. subst (λ (xs : List ℕ). Below (suc n) xs) (sym (turns_no w many n ne)) (below_more n (suc n) (turns w many n) (omega arith) (turns_below w many n)))

turns_rising : (w many n : ℕ) → IsRising 0 (turns w many n)
turns_rising w many zero = tt
turns_rising w many (suc n) = dite (ℕ_discrete (n % many) w)
    (λ e. subst (λ (xs : List ℕ). IsRising 0 xs) (sym (turns_yes w many n e)) (rising_snoc 0 n (turns w many n) n (turns_rising w many n) (turns_below w many n) (omega arith) (omega arith)))
    (λ ne. subst (λ (xs : List ℕ). IsRising 0 xs) (sym (turns_no w many n ne)) (turns_rising w many n))

in_row : (is ps : List ℕ) (i a : ℕ) → InPair is ps i a → 0 < times i is
in_row [] ps i a h = absurd h
in_row (x ∷ is) [] i a h = absurd h
in_row (x ∷ is) (p ∷ ps) i a h = ⊎_elim
    (λ (e : (i ≡ x) × (a ≡ p)). let same = e.0 in grind (arith, nat_tests))
    (λ (t : InPair is ps i a). let r = in_row is ps i a t in let more = times-append i (x ∷ []) is in omega arith) h

turns_mod : (w many n i : ℕ) → 0 < times i (turns w many n) → i % many ≡ w
turns_mod w many zero i lt = absurd (omega arith)
turns_mod w many (suc n) i lt = dite (ℕ_discrete (n % many) w)
    (λ e. dite (ℕ_discrete i n) (λ same. ap (λ (k : ℕ). k % many) same ∙ e)
    (λ ne. turns_mod w many n i (let all = ap (times i) (turns_yes w many n e) in let sum = times-append i (turns w many n) (n ∷ []) in let none : times i (n ∷ []) ≡ 0 = grind (arith, nat_tests) in omega arith)))
    (λ ne. turns_mod w many n i (let all = ap (times i) (turns_no w many n ne) in omega arith))

-- ---- pairs in rising lists

place_above : (low : ℕ) (is ps : List ℕ) (i a : ℕ) → IsRising low ps → InPair is ps i a → low ≤ a
place_above low [] ps i a r h = absurd h
place_above low (x ∷ is) [] i a r h = absurd h
place_above low (x ∷ is) (p ∷ ps) i a r h = ⊎_elim (λ (e : (i ≡ x) × (a ≡ p)). let le = r.0 in let same = e.1 in omega arith) (λ (t : InPair is ps i a). let le = r.0 in let up = place_above (p + 1) is ps i a r.1 t in omega arith) h

row_above : (low : ℕ) (is ps : List ℕ) (i a : ℕ) → IsRising low is → InPair is ps i a → low ≤ i
row_above low [] ps i a r h = absurd h
row_above low (x ∷ is) [] i a r h = absurd h
row_above low (x ∷ is) (p ∷ ps) i a r h = ⊎_elim (λ (e : (i ≡ x) × (a ≡ p)). let le = r.0 in let same = e.0 in omega arith) (λ (t : InPair is ps i a). let le = r.0 in let up = row_above (x + 1) is ps i a r.1 t in omega arith) h

pair_rising : (low down : ℕ) (is ps : List ℕ) (i j a b : ℕ) → IsRising low is → IsRising down ps → InPair is ps i a → InPair is ps j b → a < b → i < j
pair_rising low down [] ps i j a b r s h k lt = absurd h
pair_rising low down (x ∷ is) [] i j a b r s h k lt = absurd h
pair_rising low down (x ∷ is) (p ∷ ps) i j a b r s h k lt = ⊎_elim
    (λ (e : (i ≡ x) × (a ≡ p)). ⊎_elim
    (λ (f : (j ≡ x) × (b ≡ p)). let u = e.1 in let v = f.1 in absurd (omega arith))
    (λ (t : InPair is ps j b). let up = row_above (x + 1) is ps j b r.1 t in let u = e.0 in omega arith) k)
    (λ (t : InPair is ps i a). ⊎_elim
    (λ (f : (j ≡ x) × (b ≡ p)). let up = place_above (p + 1) is ps i a s.1 t in let v = f.1 in absurd (omega arith))
    (λ (u : InPair is ps j b). pair_rising (x + 1) (p + 1) is ps i j a b r.1 s.1 t u lt) k) h

-- ---- all writers

module _ (rows : List Row) (master : Seed) (many : ℕ) (order : List (Row × Seed)) where
  n : ℕ
  n = length rows

  abbrev InWriter : ℕ → List (List ℕ) → ℕ → ℕ → Type 0
  InWriter w [] i a = ⊥
  InWriter w (ps ∷ more) i a = InPair (turns w many (length rows)) ps i a ⊎ InWriter (suc w) more i a

  abbrev Written : ℕ → List (List ℕ) → Type 0
  Written w places = HaveWritten rows master many order w places

  abbrev Once : List ℕ → Type 0
  Once ps = (x : ℕ) → times x ps ≤ 1

  once_left : (ps more : List ℕ) → Once (ps ++ more) → Once ps
  once_left ps more once x = let o = once x in let sum = times-append x ps more in omega arith

  once_right : (ps more : List ℕ) → Once (ps ++ more) → Once more
  once_right ps more once x = let o = once x in let sum = times-append x ps more in omega arith

  free_left : (blank : ℕ) (xs ps more : List ℕ) → Free blank xs (ps ++ more) → Free blank xs ps
  free_left blank xs ps more free x lt = free x (let sum = times-append x ps more in omega arith)

  free_right : (blank : ℕ) (xs is ps more : List ℕ) → Once (ps ++ more) → Free blank xs (ps ++ more) → Free blank (filled xs is ps) more
  free_right blank xs is ps more once free x lt =
      let o = once x in let sum = times-append x ps more in
      filled_keeps xs is ps x (omega arith) ∙ free x (omega arith)

  long_of : (w : ℕ) (ps : List ℕ) (more : List (List ℕ)) → Written w (ps ∷ more) → length ps ≡ length (turns w many (length rows))
  long_of w ps more h = entries_long rows master w order (turns w many (length rows)) ps h.0

  all_long : (w : ℕ) (places : List (List ℕ)) → Written w places → length (all_places places) ≡ tsum (λ (y : ℕ). 1) many w (length places) (length rows)
  all_long w [] h = refl
  all_long w (ps ∷ more) h =
      let a = length-append ps (all_places more) in let b = long_of w ps more h in let c = length_total (turns w many (length rows)) in let d = all_long (suc w) more h.2 in omega arith

  all_kept : (xs : List ℕ) (w : ℕ) (places : List (List ℕ)) (x : ℕ) → times x (all_places places) ≡ 0 → slice_get (filled_all many (length rows) xs w places) x ≡ slice_get xs x
  all_kept xs w [] x none = refl
  all_kept xs w (ps ∷ more) x none =
      let sum = times-append x ps (all_places more) in
      all_kept (filled xs (turns w many (length rows)) ps) (suc w) more x (omega arith) ∙ filled_keeps xs (turns w many (length rows)) ps x (omega arith)

  all_filled_long : (xs : List ℕ) (w : ℕ) (places : List (List ℕ)) → length (filled_all many (length rows) xs w places) ≡ length xs
  all_filled_long xs w [] = refl
  all_filled_long xs w (ps ∷ more) = all_filled_long (filled xs (turns w many (length rows)) ps) (suc w) more ∙ filled_long xs (turns w many (length rows)) ps

  all_count : (blank : ℕ) (xs : List ℕ) (w : ℕ) (places : List (List ℕ)) (v : ℕ) → v ≢ blank → Written w places → Free blank xs (all_places places) → Once (all_places places)
      → times v (filled_all many (length rows) xs w places) ≡ times v xs + tsum (λ (y : ℕ). times v (y ∷ [])) many w (length places) (length rows)
  all_count blank xs w [] v ne h free once = omega arith
  all_count blank xs w (ps ∷ more) v ne h free once =
      let is = turns w many (length rows) in
      let rest = all_count blank (filled xs is ps) (suc w) more v ne h.2 (free_right blank xs is ps (all_places more) once free) (once_right ps (all_places more) once) in
      let here = filled_count blank xs is ps v (long_of w ps more h) (free_left blank xs ps (all_places more) free) (once_left ps (all_places more) once) ne in
      let same = times_total v is in omega arith

  all_at : (blank : ℕ) (xs : List ℕ) (w : ℕ) (places : List (List ℕ)) (i a : ℕ) → Free blank xs (all_places places) → Once (all_places places) → InWriter w places i a
      → slice_get (filled_all many (length rows) xs w places) a ≡ Some i
  all_at blank xs w [] i a free once h = absurd h
  all_at blank xs w (ps ∷ more) i a free once h =
      let is = turns w many (length rows) in ⊎_elim
      (λ (t : InPair is ps i a).
      let there = in_times is ps i a t in let o = once a in let sum = times-append a ps (all_places more) in
      all_kept (filled xs is ps) (suc w) more a (omega arith) ∙ filled_at blank xs is ps i a (free_left blank xs ps (all_places more) free) (once_left ps (all_places more) once) t)
      (λ (t : InWriter (suc w) more i a). all_at blank (filled xs is ps) (suc w) more i a (free_right blank xs is ps (all_places more) once free) (once_right ps (all_places more) once) t) h

  all_in : (w : ℕ) (places : List (List ℕ)) (a : ℕ) → Written w places → 0 < times a (all_places places) → (i : ℕ) × InWriter w places i a
  all_in w [] a h lt = absurd (omega arith)
  all_in w (ps ∷ more) a h lt =
      let is = turns w many (length rows) in
      let sum = times-append a ps (all_places more) in dite (ℕ_discrete (times a ps) 0)
      (λ none. let r = all_in (suc w) more a h.2 (omega arith) in (r.0, inr r.1))
      (λ some. let r = pair_of is ps a (long_of w ps more h) (omega arith) in (r.0, inl r.1))

  later : (w : ℕ) (places : List (List ℕ)) (i a : ℕ) → InWriter w places i a → w ≤ i % many
  later w [] i a h = absurd h
  later w (ps ∷ more) i a h = ⊎_elim (λ (t : InPair (turns w many (length rows)) ps i a). let e = turns_mod w many (length rows) i (in_row (turns w many (length rows)) ps i a t) in omega arith)
      (λ (t : InWriter (suc w) more i a). let r = later (suc w) more i a t in omega arith) h

  entry_pair : (w : ℕ) (is ps : List ℕ) (i a : ℕ) → AreEntries rows master w order is ps → InPair is ps i a → IsEntry rows master w order i a
  entry_pair w [] ps i a e h = absurd h
  entry_pair w (x ∷ is) [] i a e h = absurd h
  entry_pair w (x ∷ is) (p ∷ ps) i a e h = ⊎_elim
      (λ (f : (i ≡ x) × (a ≡ p)). subst (λ (k : ℕ). IsEntry rows master w order k a) (sym f.0) (subst (λ (k : ℕ). IsEntry rows master w order x k) (sym f.1) e.0))
      (λ (t : InPair is ps i a). entry_pair w is ps i a e.1 t) h

  entry_in : (w : ℕ) (places : List (List ℕ)) (i a : ℕ) → Written w places → InWriter w places i a → IsEntry rows master (i % many) order i a
  entry_in w [] i a h t = absurd t
  entry_in w (ps ∷ more) i a h t =
      let is = turns w many (length rows) in ⊎_elim
      (λ (u : InPair is ps i a). subst (λ (k : ℕ). IsEntry rows master k order i a) (sym (turns_mod w many (length rows) i (in_row is ps i a u))) (entry_pair w is ps i a h.0 u))
      (λ (u : InWriter (suc w) more i a). entry_in (suc w) more i a h.2 u) t

  rising_in : (w : ℕ) (places : List (List ℕ)) (i j a b : ℕ) → Written w places → InWriter w places i a → InWriter w places j b → i % many ≡ j % many → a < b → i < j
  rising_in w [] i j a b h t u same lt = absurd t
  rising_in w (ps ∷ more) i j a b h t u same lt =
      let is = turns w many (length rows) in ⊎_elim
      (λ (p : InPair is ps i a). ⊎_elim
      (λ (q : InPair is ps j b). pair_rising 0 0 is ps i j a b (turns_rising w many (length rows)) h.1 p q lt)
      (λ (q : InWriter (suc w) more j b). let e = turns_mod w many (length rows) i (in_row is ps i a p) in let l = later (suc w) more j b q in absurd (omega arith)) u)
      (λ (p : InWriter (suc w) more i a). ⊎_elim
      (λ (q : InPair is ps j b). let e = turns_mod w many (length rows) j (in_row is ps j b q) in let l = later (suc w) more i a p in absurd (omega arith))
      (λ (q : InWriter (suc w) more j b). rising_in (suc w) more i j a b h.2 p q same lt) u) t

  -- the places of a writer's rows are its own
  own_in : (w k : ℕ) (places : List (List ℕ)) (own : List ℕ) (i a : ℕ) → InWriter w places i a → i % many ≡ w + k → slice_get places k ≡ Some own → 0 < times a own
  own_in w k [] own i a t is at = absurd t
  own_in w zero (ps ∷ more) own i a t is at = ⊎_elim
      (λ (p : InPair (turns w many (length rows)) ps i a). let r = in_times (turns w many (length rows)) ps i a p in let same : ps ≡ own = same_Some ps own at in let e : times a ps ≡ times a own = ap (times a) same in omega arith)
      (λ (p : InWriter (suc w) more i a). let l = later (suc w) more i a p in absurd (omega arith)) t
  own_in w (suc k) (ps ∷ more) own i a t is at = ⊎_elim
      (λ (p : InPair (turns w many (length rows)) ps i a). let e = turns_mod w many (length rows) i (in_row (turns w many (length rows)) ps i a p) in absurd (omega arith))
      (λ (p : InWriter (suc w) more i a). own_in (suc w) k more own i a p (omega arith) at) t

  in_own : (w k : ℕ) (places : List (List ℕ)) (own : List ℕ) (a : ℕ) → Written w places → slice_get places k ≡ Some own → 0 < times a own → (i : ℕ) × InWriter w places i a × (i % many ≡ w + k)
  in_own w k [] own a h at lt = absurd cc
  in_own w zero (ps ∷ more) own a h at lt =
      let is = turns w many (length rows) in
      let same : ps ≡ own = same_Some ps own at in let e : times a ps ≡ times a own = ap (times a) same in
      let r = pair_of is ps a (long_of w ps more h) (omega arith) in
      let m = turns_mod w many (length rows) r.0 (in_row is ps r.0 a r.1) in (r.0, inl r.1, omega arith)
  in_own w (suc k) (ps ∷ more) own a h at lt = let r = in_own (suc w) k more own a h.2 at lt in let m = r.2 in (r.0, inr r.1, omega arith)

-- ---- floors

here : (a : ℕ) (ps : List ℕ) → 0 < times a (a ∷ ps)
here a ps = grind (arith, nat_tests)

floor_up : (floor : ℕ) (ps : List ℕ) → floor ≤ floor_over floor ps
floor_up floor [] = omega arith
floor_up floor (p ∷ ps) = let r = floor_up (max floor (p + 1)) ps in let m : floor ≤ max floor (p + 1) = grind (arith, nat_tests) in omega arith

floor_above : (floor : ℕ) (ps : List ℕ) (a : ℕ) → 0 < times a ps → a < floor_over floor ps
floor_above floor [] a lt = absurd (omega arith)
floor_above floor (p ∷ ps) a lt = dite (ℕ_discrete a p)
    (λ e. let r = floor_up (max floor (p + 1)) ps in let m : p + 1 ≤ max floor (p + 1) = grind (arith, nat_tests) in omega arith)
    (λ ne. floor_above (max floor (p + 1)) ps a (let none : times a (p ∷ []) ≡ 0 = grind (arith, nat_tests) in let sum = times-append a (p ∷ []) ps in omega arith))

floor_last : (floor : ℕ) (ps : List ℕ) → (floor_over floor ps ≡ floor) ⊎ ((a : ℕ) × (0 < times a ps) × (a + 1 ≡ floor_over floor ps))
floor_last floor [] = inl refl
floor_last floor (p ∷ ps) = ⊎_elim
    (λ (e : floor_over (max floor (p + 1)) ps ≡ max floor (p + 1)). ⊎_elim
    (λ (same : max floor (p + 1) ≡ floor). inl (e ∙ same))
    (λ (up : max floor (p + 1) ≡ p + 1). inr (p, here p ps, sym (e ∙ up))) (max_is floor (p + 1)))
    (λ (r : (a : ℕ) × (0 < times a ps) × (a + 1 ≡ floor_over (max floor (p + 1)) ps)). inr (r.0, (let some = r.1 in let sum = times-append r.0 (p ∷ []) ps in omega arith), r.2)) (floor_last (max floor (p + 1)) ps)
  where
    max_is : (a b : ℕ) → (max a b ≡ a) ⊎ (max a b ≡ b)
    max_is a b = dite (ℕ_discrete (max a b) a) (λ e. inl e) (λ ne. inr (grind (arith, nat_tests)))

-- ---- the whole

below_of : (x n : ℕ) → 0 < once_below x n → x < n
below_of x n lt = grind (arith, nat_tests)

none_blank : (n v : ℕ) (xs : List ℕ) → v ≢ n → ((x : ℕ) → x < length xs → slice_get xs x ≡ Some n) → times v xs ≡ 0
none_blank n v [] ne all = refl
none_blank n v (x ∷ xs) ne all =
    let is : x ≡ n = same_Some x n (all 0 (omega arith)) in
    let rest = none_blank n v xs ne (λ y lt. all (suc y) (omega arith)) in
    let one : times v (x ∷ []) ≡ 0 = grind (arith, nat_tests) in let sum = times-append v (x ∷ []) xs in omega arith

pub whole_length : (rows : List Row) (master : Seed) (many : ℕ) (order : List (Row × Seed)) (places : List (List ℕ)) → IsGathered rows master many order places → length (all_places places) ≡ length rows
whole_length rows master many order places g =
    all_long rows master many order 0 places g.wrote ∙ ap (λ (k : ℕ). tsum (λ (y : ℕ). 1) many 0 k (length rows)) g.each ∙ tsum_all (λ (y : ℕ). 1) many (length rows) g.some ∙ tot_ones (length rows)

pub gathered_stands : GatheredStands
gathered_stands rows master many order places blanks g b = record {
  same = same;
  is_order = record {
    long = all_filled_long rows master many order blanks 0 places ∙ b.long;
    once = once_row;
    rising = λ x y i j lt at at' turn. rising_in rows master many order 0 places i j x y g.wrote (found x i at) (found y j at') turn lt;
  };
  entries = λ place i at. entry_in rows master many order 0 places i place g.wrote (found place i at);
  past = λ w own at. record {
    above = λ place i there turn. floor_above 0 own place (own_in rows master many order 0 w places own i place (found place i there) (let e = turn in omega arith) at);
    last = λ some. ⊎_elim (λ (e : floor_over 0 own ≡ 0). absurd (omega arith))
        (λ (r : (a : ℕ) × (0 < times a own) × (a + 1 ≡ floor_over 0 own)).
        let t = in_own rows master many order 0 w places own r.0 g.wrote at r.1 in
        let e = r.2 in let m = t.2 in
        let spot : r.0 ≡ floor_over 0 own - 1 = omega arith in
        (t.0, subst (λ (k : ℕ). At printed k t.0) spot (all_at rows master many order (length rows) blanks 0 places t.0 r.0 free once t.1), omega arith)) (floor_last 0 own);
  };
  others = λ w own place i at there none turn. let some = own_in rows master many order 0 w places own i place (found place i there) (let e = turn in omega arith) at in absurd (omega arith);
}
  where
    printed : List ℕ
    printed = filled_all many (length rows) blanks 0 places

    all : length (all_places places) ≡ length rows
    all = all_long rows master many order 0 places g.wrote ∙ ap (λ (k : ℕ). tsum (λ (y : ℕ). 1) many 0 k (length rows)) g.each ∙ tsum_all (λ (y : ℕ). 1) many (length rows) g.some ∙ tot_ones (length rows)

    same : length order ≡ length rows
    same = let most = length_once (all_places places) (length order) g.apart in let few = g.few in let e = all in omega arith

    once : (x : ℕ) → times x (all_places places) ≤ 1
    once x = let a = g.apart x in let m = once_below_most x (length order) in omega arith

    free : Free (length rows) blanks (all_places places)
    free x lt = b.blank x (let a = g.apart x in let e = same in let l = below_of x (length order) (omega arith) in omega arith)

    once_row : (i : ℕ) → i < length rows → times i printed ≡ 1
    once_row i lt =
        let count = all_count rows master many order (length rows) blanks 0 places i (λ e. absurd (omega arith)) g.wrote free once in
        let none = none_blank (length rows) i blanks (λ e. absurd (omega arith)) (λ x l. b.blank x (let e = b.long in omega arith)) in
        let sum : tsum (λ (y : ℕ). times i (y ∷ [])) many 0 (length places) (length rows) ≡ 1 = ap (λ (k : ℕ). tsum (λ (y : ℕ). times i (y ∷ [])) many 0 k (length rows)) g.each ∙ tsum_all (λ (y : ℕ). times i (y ∷ [])) many (length rows) g.some ∙ tot_once i (length rows) lt in
        omega arith

    found : (x i : ℕ) → At printed x i → InWriter rows master many order 0 places i x
    found x i at =
        let within = slice_get_within printed x i at in
        let long = all_filled_long rows master many order blanks 0 places in
        let lt : x < length order = let e = same in let f = b.long in omega arith in
        let one = times-once (all_places places) (length order) g.apart (let e = all in let f = same in omega arith) x lt in
        let r = all_in rows master many order 0 places x g.wrote (omega arith) in
        let there = all_at rows master many order (length rows) blanks 0 places r.0 x free once r.1 in
        let is : r.0 ≡ i = same_Some r.0 i (sym there ∙ at) in
        subst (λ (k : ℕ). InWriter rows master many order 0 places k x) is r.1
