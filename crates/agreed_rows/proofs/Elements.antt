-- Elements of lists.
use Rattle.std.proofs.Common.{◌≡◌, refl, ap, ℕ, zero, suc, ◌<◌, ◌⊎◌, inl, inr, ⊎_elim, Some, slice_get, List, [], ◌∷◌, get_or, set, take, arith}
use Rattle.std.specs.Prelude.{All}
use Rattle.std.proofs.lemmas.List.Elements.{All-cons, All-nil}
use mathlib.Core.List.{IsPrefix}

pub get_or-set : {A : Type 0} (xs : List A) (i : ℕ) (y : A) (j : ℕ) (d v : A) → get_or (set xs i y) j d ≡ v → ((j ≡ i) × (y ≡ v)) ⊎ (get_or xs j d ≡ v)
get_or-set [] i y j d v e = inr e
get_or-set (z ∷ xs) zero y zero d v e = inl (refl, e)
get_or-set (z ∷ xs) zero y (suc j) d v e = inr e
get_or-set (z ∷ xs) (suc i) y zero d v e = inr e
get_or-set (z ∷ xs) (suc i) y (suc j) d v e =
    ⊎_elim (λ (p : (j ≡ i) × (y ≡ v)). inl (ap suc p.0, p.1)) (λ (old : get_or xs j d ≡ v). inr old) (get_or-set xs i y j d v e)

-- what is there is there in a longer list
pub prefix_get : {A : Type 0} (xs ys : List A) (k : ℕ) (x : A) → IsPrefix xs ys → slice_get xs k ≡ Some x → slice_get ys k ≡ Some x
prefix_get [] ys k x p h = absurd cc
prefix_get (y ∷ xs) [] k x p h = absurd (cc (p.1))
prefix_get (y ∷ xs) (z ∷ ys) zero x p h = cc (p.1, h)
prefix_get (y ∷ xs) (z ∷ ys) (suc k) x p h = prefix_get xs ys k x (p.0, cc (p.1)) h

-- what holds of each element below n holds of the first n
pub all_below : {A : Type 0} (P : A → Type 0) (xs : List A) (n : ℕ) → ((i : ℕ) (x : A) → i < n → slice_get xs i ≡ Some x → P x) → All P (take n xs)
all_below P xs zero f = All-nil P
all_below P [] (suc n) f = All-nil P
all_below P (x ∷ xs) (suc n) f = All-cons P x (take n xs) (f 0 x (omega arith) refl) (all_below P xs n (λ i y lt there. f (suc i) y (omega arith) there))
