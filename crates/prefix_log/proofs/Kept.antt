-- Slots, and what holds of one place and of all others.
use Rattle.std.proofs.Common.{◌≡◌, ◌≢◌, refl, ap, ℕ, zero, suc, ◌<◌, ◌≤◌, ◌⊎◌, ⊎_elim, true, false, List, [], ◌∷◌, length, get_or, set, arith}
use Rattle.std.specs.Prelude.{Option, Some, None, is_some}
use Rattle.std.proofs.lemmas.Bool.{cases_order}
use Rattle.std.proofs.lemmas.List.{get_or-set_same, get_or-set_other, get_or_past}
use Rattle.list_facts.specs.Listed.{listed}
use Rattle.list_facts.proofs.Listed.{get_or-listed, length-listed}
use Rattle.onehot_column.specs.declared.piece.Piece.{Piece}
use Rattle.prefix_log.specs.Logs.{piece_at}

pub any_default : {A : Type 0} (xs : List A) (i : ℕ) (d e : A) → i < length xs → get_or xs i d ≡ get_or xs i e
any_default [] i d e h = absurd (omega arith)
any_default (x ∷ xs) zero d e h = refl
any_default (x ∷ xs) (suc i) d e h = any_default xs i d e (omega arith)

pub some_of : {A : Type 0} (o : Option A) → is_some o ≡ true → (x : A) × (o ≡ Some x)
some_of None e = absurd cc
some_of (Some x) e = (x, refl)

pub same_some : {A : Type 0} (x y : A) → Some x ≡ Some y → x ≡ y
same_some x y e = cc

-- past the last slot there is no piece
pub none_past : (slots : List (Option Piece)) (place : ℕ) → length slots ≤ place → is_some (piece_at slots place) ≡ false
none_past slots place h = ap is_some (get_or_past slots place None h)

pub filled_below : (slots : List (Option Piece)) (place : ℕ) → is_some (piece_at slots place) ≡ true → place < length slots
filled_below slots place e = ⊎_elim (λ (same : place ≡ length slots). absurd (no (omega arith)))
    (λ (other : (place < length slots) ⊎ (length slots < place)). ⊎_elim (λ (less : place < length slots). less) (λ (more : length slots < place). absurd (no (omega arith))) other) (cases_order place (length slots))
  where
    no : length slots ≤ place → ⊥
    no le = let f : is_some (piece_at slots place) ≡ false = none_past slots place le in absurd cc

-- ---- a log without pieces

pub free_at : (n place : ℕ) → is_some (piece_at (listed n (λ (p : ℕ). None)) place) ≡ false
free_at n place = ⊎_elim (λ (same : place ≡ n). past (omega arith))
    (λ (other : (place < n) ⊎ (n < place)). ⊎_elim (λ (less : place < n). ap is_some (get_or-listed n place (λ (p : ℕ). None) None less)) (λ (more : n < place). past (omega arith)) other) (cases_order place n)
  where
    slots : List (Option Piece)
    slots = listed n (λ (p : ℕ). None)

    past : n ≤ place → is_some (piece_at (listed n (λ (p : ℕ). None)) place) ≡ false
    past le = none_past (listed n (λ (p : ℕ). None)) place (omega (arith, length-listed {A = Option Piece} n (λ (p : ℕ). None)))

-- ---- a placing

-- what holds where a piece is, and elsewhere
pub by_place : (place : ℕ) (P : ℕ → Type 0) → ((x : ℕ) → x ≡ place → P x) → ((x : ℕ) → x ≢ place → P x) → (x : ℕ) → P x
by_place place P same others x = ⊎_elim (λ (e : x ≡ place). same x e)
    (λ (o : (x < place) ⊎ (place < x)). ⊎_elim (λ (less : x < place). others x (omega arith)) (λ (more : place < x). others x (omega arith)) o) (cases_order x place)

module _ (slots : List (Option Piece)) (place : ℕ) (piece : Piece) (there : place < length slots) where
  pub at_place : (x : ℕ) → x ≡ place → piece_at (set slots place (Some piece)) x ≡ Some piece
  at_place x e = rw e (get_or-set_same slots place (Some piece) None there)

  pub elsewhere : (x : ℕ) → x ≢ place → piece_at (set slots place (Some piece)) x ≡ piece_at slots x
  elsewhere x ne = get_or-set_other slots place x (Some piece) None ne
