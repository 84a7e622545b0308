-- Elements of lists by their places.
use Rattle.std.proofs.Common.{◌≡◌, ◌∙◌, refl, sym, ap, ℕ, zero, suc, ◌⊎◌, inl, inr, Some, slice_get, List, [], ◌∷◌, ◌++◌, All, length, get_or, set, subst}
use Rattle.std.proofs.lemmas.List.{set-get_or}
use Rattle.std.proofs.lemmas.Option.{get_or_from_slice_get, slice_get_within}

-- the last one
pub slice_get_last : {A : Type 0} (xs : List A) (x : A) → slice_get (xs ++ x ∷ []) (length xs) ≡ Some x
slice_get_last [] x = refl
slice_get_last (y ∷ xs) x = slice_get_last xs x

-- after a write a place has what was written, or what it had
pub slice_get-set : {A : Type 0} (xs : List A) (i : ℕ) (y : A) (j : ℕ) (x : A) → slice_get (set xs i y) j ≡ Some x → (x ≡ y) ⊎ (slice_get xs j ≡ Some x)
slice_get-set [] i y j x e = absurd cc
slice_get-set (z ∷ xs) zero y zero x e = let same : x ≡ y = cc in inl same
slice_get-set (z ∷ xs) zero y (suc j) x e = inr e
slice_get-set (z ∷ xs) (suc i) y zero x e = inr e
slice_get-set (z ∷ xs) (suc i) y (suc j) x e = slice_get-set xs i y j x e

-- to write what is there changes nothing
pub set_there : {A : Type 0} (xs : List A) (i : ℕ) (x : A) → slice_get xs i ≡ Some x → set xs i x ≡ xs
set_there xs i x e = let same : get_or xs i x ≡ x = get_or_from_slice_get xs i x x e in ap (set xs i) (sym same) ∙ set-get_or xs i x

-- what holds of each element holds at a place
pub All-there : {A : Type 0} (P : A → Type 0) (xs : List A) (i : ℕ) (x : A) → All P xs → slice_get xs i ≡ Some x → P x
All-there P xs i x all e = subst (λ y. P y) (get_or_from_slice_get xs i x x e) (all i x (slice_get_within xs i x e))
