-- An item of a list by its place.
use Rattle.std.proofs.Common.{◌≡◌, ◌∙◌, refl, ℕ, zero, suc, ◌+◌, List, [], ◌∷◌, drop, Some, slice_get, add-one}

-- what is left from a place on begins with the item there
pub drop_item : {X : Type 0} (xs : List X) (i : ℕ) (x : X) → slice_get xs i ≡ Some x → drop i xs ≡ x ∷ drop (i + 1) xs
drop_item [] i x e = absurd cc
drop_item (y ∷ ys) zero x e = let same : y ≡ x = cc in rw same refl
drop_item (y ∷ ys) (suc i) x e = rw add-one (drop_item ys i x e ∙ rw add-one refl)
