-- What contracts see of a lock, a seat and a value that is out.
use Rattle.std.specs.Prelude.{◌≡◌, ℕ, Bool, true, false, List, [], ◌∷◌, ◌++◌, ◌⊎◌, None, Option}
use Rattle.atomic_table.specs.Table.{Me}
use Rattle.atomic_table.specs.Seated.{TableId}
use Rattle.journal_lock.specs.declared.knows.Knows.{Knows}

-- which lock it is of, whether it has the value, the journal that it has seen, its loads of the count while it had the value, and its tries
-- that failed
pub record Seen : Type 0 where
  pub lock : TableId
  pub holds : Bool
  pub seen : List ℕ
  pub looks : ℕ
  pub tries : ℕ

-- which lock it is, and the tag of the value behind it
pub record Named (T : Type 0) : Type 0 where
  pub id : TableId
  pub tag : T

-- a value that is out: the lock that it was taken from, the value, and its journal as it was taken
pub record Out (S : Type 0) : Type 0 where
  pub lock : TableId
  pub value : S
  pub journal : List ℕ

module _ {S : Type 0} where
  -- where a seat has the value, it is out of the slot and its journal was seen
  abbrev pub Rests : Bool → Me (Option S) Knows → Type 0
  Rests true m = (m.1 ≡ (0, None) ∷ []) × (m.0.seen ≡ m.0.held)
  Rests false m = m.1 ≡ []

-- the list is the old one, or that one with one entry more at its end
abbrev pub OneMore : List ℕ → List ℕ → Type 0
OneMore xs ys = (ys ≡ xs) ⊎ ((entry : ℕ) × (ys ≡ xs ++ entry ∷ []))
