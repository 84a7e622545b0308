-- Actors by number, and the draws that they have open.
use Rattle.std.proofs.Common.{◌≡◌, ◌≢◌, ◌∙◌, ◌⊎◌, ⊎_elim, inl, inr, refl, sym, ap, subst, ℕ, zero, suc, List, [], ◌∷◌, All, set, Some, slice_get}
use Rattle.std.proofs.lemmas.Bool.{cases_eq}
use Rattle.std.proofs.lemmas.Option.{get_or_from_slice_get, none-some, same_Some, slice_get-get_or, slice_get_within}
use Rattle.waldo_core.specs.Core.{Actor, Core, Open, with_actor}
use Rattle.waldo_core.specs.Legal.{HasOpen}

-- ---- items of a list by number

module _ {A : Type 0} where
  pub get-set_same : (xs : List A) (i : ℕ) (x y : A) → slice_get xs i ≡ Some x → slice_get (set xs i y) i ≡ Some y
  get-set_same [] i x y e = absurd (none-some x e)
  get-set_same (z ∷ zs) zero x y e = refl
  get-set_same (z ∷ zs) (suc i) x y e = get-set_same zs i x y e

  pub get-set_other : (xs : List A) (i j : ℕ) (y : A) → j ≢ i → slice_get (set xs i y) j ≡ slice_get xs j
  get-set_other [] i j y ne = refl
  get-set_other (x ∷ xs) zero zero y ne = absurd (ne refl)
  get-set_other (x ∷ xs) zero (suc j) y ne = refl
  get-set_other (x ∷ xs) (suc i) zero y ne = refl
  get-set_other (x ∷ xs) (suc i) (suc j) y ne = get-set_other xs i j y (λ e. ne (ap suc e))

  -- after an item was replaced there is the new one at its number, and at others what there was
  pub get-set : (xs : List A) (i j : ℕ) (old y x : A) → slice_get xs i ≡ Some old → slice_get (set xs i y) j ≡ Some x
      → ((j ≡ i) × (y ≡ x)) ⊎ ((j ≢ i) × (slice_get xs j ≡ Some x))
  get-set xs i j old y x was e = ⊎_elim
      (λ (same : j ≡ i). inl (same, same_Some y x (sym (get-set_same xs i old y was) ∙ ap (λ (k : ℕ). slice_get (set xs i y) k) (sym same) ∙ e)))
      (λ (ne : j ≢ i). inr (ne, sym (get-set_other xs i j y ne) ∙ e)) (cases_eq j i)

  module _ (P : A → Type 0) where
    pub All-get : (xs : List A) (i : ℕ) (x : A) → All P xs → slice_get xs i ≡ Some x → P x
    All-get xs i x all e = subst P (get_or_from_slice_get xs i x x e) (all i x (slice_get_within xs i x e))

    pub All-from_get : (xs : List A) → ((i : ℕ) (x : A) → slice_get xs i ≡ Some x → P x) → All P xs
    All-from_get xs each i d lt = each i _ (slice_get-get_or xs i d lt)

    -- one item is replaced, and what is needed of the others is known of them
    pub All-set_but : (xs : List A) (i : ℕ) (old y : A) → slice_get xs i ≡ Some old → P y → ((j : ℕ) (x : A) → j ≢ i → slice_get xs j ≡ Some x → P x) → All P (set xs i y)
    All-set_but xs i old y was here others = All-from_get (set xs i y) (λ j x e. ⊎_elim
        (λ (q : (j ≡ i) × (y ≡ x)). subst P q.1 here)
        (λ (q : (j ≢ i) × (slice_get xs j ≡ Some x)). others j x q.0 q.1) (get-set xs i j old y x was e))

-- ---- open draws

-- an actor has an open draw of this place
abbrev pub HasDraw : Actor → ℕ → Type 0
HasDraw actor place = (draw : Open) × (actor.draw ≡ Some draw) × (draw.place ≡ place)

module _ (core : Core) (number : ℕ) (actor : Actor) (get : slice_get core.actors number ≡ Some actor) where
  pub open_own : (place : ℕ) → HasOpen core number place → HasDraw actor place
  open_own place h = (h.1, ap (λ (u : Actor). u.draw) (same_Some actor h.0 (sym get ∙ h.2)) ∙ h.3, h.4)

  pub open_of : (place : ℕ) → HasDraw actor place → HasOpen core number place
  open_of place h = (actor, h.0, get, h.1, h.2)

  -- what is open once the actor of this number is another one
  module _ (a : Actor) where
    pub open_after : (j place : ℕ) → HasOpen (with_actor core number a) j place → ((j ≡ number) × HasDraw a place) ⊎ ((j ≢ number) × HasOpen core j place)
    open_after j place h = ⊎_elim
        (λ (q : (j ≡ number) × (a ≡ h.0)). inl (q.0, (h.1, ap (λ (u : Actor). u.draw) q.1 ∙ h.3, h.4)))
        (λ (q : (j ≢ number) × (slice_get core.actors j ≡ Some h.0)). inr (q.0, (h.0, h.1, q.1, h.3, h.4))) (get-set core.actors number j actor a h.0 get h.2)

    pub open_here : (place : ℕ) → HasDraw a place → HasOpen (with_actor core number a) number place
    open_here place h = (a, h.0, get-set_same core.actors number actor a get, h.1, h.2)

    pub open_there : (j place : ℕ) → j ≢ number → HasOpen core j place → HasOpen (with_actor core number a) j place
    open_there j place ne h = (h.0, h.1, get-set_other core.actors number j a ne ∙ h.2, h.3, h.4)
