-- Journals that gain a place.
use Rattle.std.proofs.Common.{◌≡◌, ◌≢◌, ◌∙◌, refl, ap, ℕ, ◌+◌, ◌≤◌, ⊎_elim, Bool, true, false, cond, ltb, List, [], ◌∷◌, ◌++◌, arith}
use Rattle.std.proofs.lemmas.Bool.{cases_eq}
use Rattle.std.proofs.lemmas.Bool.Decides.{nat_tests}
use Rattle.list_facts.specs.Count.{has, times}
use Rattle.list_facts.proofs.Count.{has_from, has_no, has_yes, times-append}
use Rattle.waldo_core.specs.Step.{with_place}

-- a journal after another one: it may have gained this place, and each place is still there at most once
pub record Grown (place : ℕ) (old new : List ℕ) : Type 0 where
  pub keeps : (x : ℕ) → has x old ≡ true → has x new ≡ true
  pub others : (x : ℕ) → x ≢ place → has x new ≡ has x old
  pub once : ((x : ℕ) → times x old ≤ 1) → (x : ℕ) → times x new ≤ 1

pub grown_same : (place : ℕ) (journal : List ℕ) → Grown place journal journal
grown_same place journal = record { keeps = λ x h. h; others = λ x ne. refl; once = λ all. all }

one_there : (x y : ℕ) → x ≡ y → times x (y ∷ []) ≡ 1
one_there x y e = grind (arith, nat_tests)

one_elsewhere : (x y : ℕ) → x ≢ y → times x (y ∷ []) ≡ 0
one_elsewhere x y ne = grind (arith, nat_tests)

module _ (place : ℕ) (journal : List ℕ) where
  elsewhere : (x : ℕ) → x ≢ place → times x (journal ++ place ∷ []) ≡ times x journal
  elsewhere x ne = omega (arith, times-append x journal (place ∷ []), one_elsewhere x place ne)

  here : (x : ℕ) → x ≡ place → times x (journal ++ place ∷ []) ≡ times x journal + 1
  here x e = omega (arith, times-append x journal (place ∷ []), one_there x place e)

  appended : has place journal ≡ false → Grown place journal (journal ++ place ∷ [])
  appended missing = record {
    keeps = λ x h. has_from x (journal ++ place ∷ []) (omega (arith, has_yes x journal h, times-append x journal (place ∷ [])));
    others = λ x ne. ap (λ (n : ℕ). ltb 0 n) (elsewhere x ne);
    once = λ all x. ⊎_elim
        (λ (e : x ≡ place). let none : times x journal ≡ 0 = ap (λ (y : ℕ). times y journal) e ∙ has_no place journal missing in omega (arith, here x e))
        (λ (ne : x ≢ place). let one : times x journal ≤ 1 = all x in omega (arith, elsewhere x ne)) (cases_eq x place);
  }

  pub grown_more : Grown place journal (with_place place journal)
  grown_more = by (has place journal) refl
    where
      by : (b : Bool) → has place journal ≡ b → Grown place journal (cond b journal (journal ++ place ∷ []))
      by true there = grown_same place journal
      by false missing = appended missing

  pub placed_there : has place (with_place place journal) ≡ true
  placed_there = by (has place journal) refl
    where
      by : (b : Bool) → has place journal ≡ b → has place (cond b journal (journal ++ place ∷ [])) ≡ true
      by true there = there
      by false missing = has_from place (journal ++ place ∷ []) (omega (arith, here place refl))
