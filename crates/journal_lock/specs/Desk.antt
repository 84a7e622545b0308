-- What the seats know of the lock's words and slot, and the rule that ties it to them.
use Rattle.std.specs.Prelude.{◌≡◌, ℕ, ◌≤◌, if◌then◌else◌, true, false, List, [], ◌∷◌, length, All, Option, Some}
use mathlib.Core.List.{IsPrefix}
use mathlib.Core.Option.{some}
use lib.ListN.{get_elem?}
use Rattle.atomic_table.specs.Table.{State}
use Rattle.list_facts.specs.Count.{total}
use Rattle.journal_lock.specs.declared.knows.Knows.{Knows}

-- of a seat: 1 where it has the value
abbrev pub holding : Knows → ℕ
holding v = if v.holds then 1 else 0

-- a seat has seen a beginning of the journal, and so had the two that were joined. The seat that has the value knows all of it
pub record Fits (line : List ℕ) (v : Knows) : Type 0 where
  pub seen : IsPrefix v.seen line
  pub left : IsPrefix v.left line
  pub right : IsPrefix v.right line
  pub all : v.holds ≡ true → v.held ≡ line

-- There is one journal, whose length is the count. The turn is the number of seats that have the value, at most one.
-- Where it is 0 the value is at home, with that journal and the lock's tag
pub record Locked {S T : Type 0} (journal : S → List ℕ) (tag : S → T) (kind : T) (s : State (Option S) Knows) : Type 0 where
  pub line : List ℕ
  pub turn : ℕ
  pub words : s.words ≡ turn ∷ length line ∷ []
  pub one : turn ≤ 1
  pub held : total holding s.views ≡ turn
  pub fits : All (Fits line) s.views
  pub home : turn ≡ 0 → (value : S) × (get_elem? s.homes 0 ≡ some (some (Some value))) × (journal value ≡ line) × (tag value ≡ kind)

-- a seat that does not have the value
abbrev pub rested : List ℕ → Knows
rested seen = record { holds = false; held = []; seen = seen; looks = 0; tries = 0; left = []; right = [] }
