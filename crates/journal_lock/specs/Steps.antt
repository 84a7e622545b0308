-- What each step on the lock's words says to the seat that makes it: `m` is the seat before it, `m'` after it, and `found` the word that it
-- found.
use Rattle.std.specs.Prelude.{◌≡◌, ◌≢◌, ℕ, ◌+◌, true, false, List, [], ◌∷◌, length, Option, Some}
use mathlib.Core.List.{IsPrefix}
use Rattle.atomic_table.specs.Table.{Me, Step}
use Rattle.list_facts.specs.Count.{longer}
use Rattle.journal_lock.specs.declared.knows.Knows.{Knows}
use Rattle.journal_lock.specs.Desk.{rested}

module _ {S : Type 0} where
  -- the seat has the value, whose journal begins with what was seen
  pub record Took (journal : S → List ℕ) (fits : S → Type 0) (m m' : Me (Option S) Knows) : Type 0 where
    pub value : S
    pub out : m'.1 ≡ (0, Some value) ∷ []
    pub view : m'.0 ≡ record m.0 { holds = true; held = journal value }
    pub begins : IsPrefix m.0.seen (journal value)
    pub fit : fits value

  -- the turn was free, and the seat has the value; or it was not, and the seat is as before
  abbrev pub takes : (S → List ℕ) → (S → Type 0) → Step (Option S) → Me (Option S) Knows → ℕ → Me (Option S) Knows → Type 0
  takes journal fits st m found m' = (found ≡ 0 → Took journal fits m m') × (found ≢ 0 → m' ≡ m)

  -- the turn was free, and the seat has the value; or it was not, and the seat counts a try that failed
  abbrev pub tries : (S → List ℕ) → (S → Type 0) → Step (Option S) → Me (Option S) Knows → ℕ → Me (Option S) Knows → Type 0
  tries journal fits st m found m' = (found ≡ 0 → Took journal fits m m') × (found ≢ 0 → m' ≡ (record m.0 { tries = m.0.tries + 1 }, m.1))

  -- the value is at home, and the turn is free
  abbrev pub gives : Step (Option S) → Me (Option S) Knows → ℕ → Me (Option S) Knows → Type 0
  gives st m found m' = m' ≡ (record m.0 { holds = false; held = [] }, [])

  -- the count is the journal's length, and all of the journal is seen
  abbrev pub reads : Step (Option S) → Me (Option S) Knows → ℕ → Me (Option S) Knows → Type 0
  reads st m found m' = (found ≡ length m.0.held) × (m' ≡ (record m.0 { seen = m.0.held; looks = m.0.looks + 1 }, m.1))

  -- the journal is this one from now on
  abbrev pub grows : List ℕ → Step (Option S) → Me (Option S) Knows → ℕ → Me (Option S) Knows → Type 0
  grows after st m found m' = m' ≡ (record m.0 { held = after; seen = after }, m.1)

  -- what the two seats of a join had seen begins what is seen now
  abbrev pub notes : Step (Option S) → Me (Option S) Knows → ℕ → Me (Option S) Knows → Type 0
  notes st m found m' =
      (m' ≡ (record m.0 { left = []; right = [] }, m.1))
      × (m.0.seen ≡ longer m.0.left m.0.right → IsPrefix m.0.left m.0.seen × IsPrefix m.0.right m.0.seen)

-- the view of a seat that is split off
abbrev pub again : Knows → Knows
again v = rested v.seen

-- the view of a seat that took another in
abbrev pub joined : Knows → Knows → Knows
joined v w = record v { seen = longer v.seen w.seen; left = v.seen; right = w.seen }
