-- What holds of each element, read by place.
use Rattle.std.proofs.Common.{◌≡◌, ◌≢◌, ℕ, zero, suc, List, [], ◌∷◌, All, set, sym, refl, subst, arith}
use Rattle.std.proofs.lemmas.List.Elements.{All-cons, All-head, All-tail, All-nil}
use mathlib.Core.Option.{some, some-injective, some-ne-none}
use lib.ListN.{get_elem?}

module _ {A : Type 0} (P : A → Type 0) where
  pub All-at : (xs : List A) (i : ℕ) (v : A) → All P xs → get_elem? xs i ≡ some v → P v
  All-at [] i v all e = absurd (some-ne-none v (sym e))
  All-at (x ∷ xs) zero v all e = subst (λ (u : A). P u) (some-injective x v e) (All-head P x xs all)
  All-at (x ∷ xs) (suc i) v all e = All-at xs i v (All-tail P x xs all) e

  pub All-from_at : (xs : List A) → ((j : ℕ) (u : A) → get_elem? xs j ≡ some u → P u) → All P xs
  All-from_at [] all = All-nil P
  All-from_at (x ∷ xs) all = All-cons P x xs (all zero x refl) (All-from_at xs (λ j u e. all (suc j) u e))

  -- one element is replaced, and what is needed of the others is known of them
  pub All-set_others : (xs : List A) (i : ℕ) (w : A) → P w → ((j : ℕ) (u : A) → j ≢ i → get_elem? xs j ≡ some u → P u) → All P (set xs i w)
  All-set_others [] i w here others = All-nil P
  All-set_others (x ∷ xs) zero w here others = All-cons P w xs here (All-from_at xs (λ j u e. others (suc j) u (λ h. omega arith) e))
  All-set_others (x ∷ xs) (suc i) w here others =
      All-cons P x (set xs i w) (others zero x (λ h. omega arith) refl) (All-set_others xs i w here (λ j u ne e. others (suc j) u (λ h. ne (omega arith)) e))
