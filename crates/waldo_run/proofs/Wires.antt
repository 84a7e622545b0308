-- The wires of a run.
use Rattle.std.proofs.Common.{◌≡◌, refl, ◌⊎◌, inl, inr, ℕ, zero, suc, ◌+◌, ◌-◌, ◌^◌, min, nat_le, Bool, true, false, List, [], ◌∷◌, arith}
use Rattle.fault_count.specs.Causes.{Rose}
use Rattle.wire_line.specs.Carried.{went_none}
use Rattle.schedule_play.specs.Wires.{WiresWent}
use Rattle.wire_line.specs.Lists.{RoseAt, SomeRose}
use Rattle.wire_line.specs.Sights.{Sight, HasAltered, NonePasses}

rose_by : (a b : ℕ) (t : Bool) → nat_le (min (a + 1) (2 ^ 64 - 1)) b ≡ t → Rose a b ⊎ (Rose a b → ⊥)
rose_by a b true e = inl (grind arith)
rose_by a b false e = inr (λ rose. absurd (grind arith))

rose_or_not : (a b : ℕ) → Rose a b ⊎ (Rose a b → ⊥)
rose_or_not a b = rose_by a b _ refl

module _ {W : Type 0} (sight : Sight W) (none : NonePasses sight) where
  -- without a step all wires are as they were
  still_from : (actor : ℕ) (ws : List W) → WiresWent sight [] actor ws ws
  still_from actor [] = tt
  still_from actor (w ∷ ws) = (record { went = went_none sight w w refl refl (none w); still = λ _. refl }, still_from (actor + 1) ws)

  pub still_wires : (ws : List W) → WiresWent sight [] 0 ws ws
  still_wires ws = still_from 0 ws

module _ {W : Type 0} (sight : Sight W) where
  -- unless some wire's count rose, none did
  pub none_rose : (vs ws : List W) → (SomeRose sight vs ws → ⊥) → (actor : ℕ) → RoseAt sight actor vs ws → ⊥
  none_rose [] ws still actor rose = absurd rose
  none_rose (v ∷ vs) [] still actor rose = absurd rose
  none_rose (v ∷ vs) (w ∷ ws) still zero rose = still (inl rose)
  none_rose (v ∷ vs) (w ∷ ws) still (suc actor) rose = none_rose vs ws (λ some. still (inr some)) actor rose

  -- if it can't be that none rose, some did
  pub some_rose : (vs ws : List W) → (((actor : ℕ) → RoseAt sight actor vs ws → ⊥) → ⊥) → SomeRose sight vs ws
  some_rose [] ws f = absurd (f (λ actor rose. rose))
  some_rose (v ∷ vs) [] f = absurd (f (λ actor rose. rose))
  some_rose (v ∷ vs) (w ∷ ws) f = elim (rose_or_not (sight.alterations v) (sight.alterations w)) [
    | inl rose ↦ inl rose
    | inr not_here ↦ inr (some_rose vs ws (λ none. f (λ actor. by actor none not_here)))
  ]
    where
      by : (actor : ℕ) → ((a : ℕ) → RoseAt sight a vs ws → ⊥) → (HasAltered sight v w → ⊥) → RoseAt sight actor (v ∷ vs) (w ∷ ws) → ⊥
      by zero none here rose = here rose
      by (suc a) none here rose = none a rose

  -- if it can't be that no wire's count rose, some did
  pub rose_unless : (vs ws : List W) → ((SomeRose sight vs ws → ⊥) → ⊥) → SomeRose sight vs ws
  rose_unless vs ws f = some_rose vs ws (λ none. f (λ some. absurd (risen vs ws none some)))
    where
      risen : (vs ws : List W) → ((actor : ℕ) → RoseAt sight actor vs ws → ⊥) → SomeRose sight vs ws → ⊥
      risen [] ws none some = some
      risen (v ∷ vs) [] none some = some
      risen (v ∷ vs) (w ∷ ws) none some = elim some [ inl rose ↦ none 0 rose | inr later ↦ risen vs ws (λ actor. none (suc actor)) later ]
