-- Which states of the core are legal.
use Rattle.std.specs.Prelude.{◌≡◌, ℕ, ◌<◌, ◌≤◌, ⊤, true, false, Some, All, length, slice_get}
use Rattle.list_facts.specs.Count.{times, has}
use Rattle.waldo_core.specs.Core.{Actor, Core, Fixes, Open, journal_of, prefix}
use Rattle.waldo_core.specs.Core.Fixes.{Unfixed, First, Second, Agreed}
use Rattle.waldo_core.specs.Step.{is_done}

-- the place of an open draw was drawn, its piece is missing at a server, and its place is in just the journals of the servers that have it
pub record IsOpen (core : Core) (draw : Open) : Type 0 where
  pub place : draw.place < length core.order
  pub zero : has draw.place core.zero ≡ draw.zero
  pub one : has draw.place core.one ≡ draw.one
  pub two : has draw.place core.two ≡ draw.two
  pub missing : is_done draw ≡ false

-- what was found is no less than the floor, and no more than what would be found now; what was agreed on is the floor
abbrev pub AreFixes : Core → ℕ → Fixes → Type 0
AreFixes core floor Unfixed = ⊤
AreFixes core floor (First p) = (floor ≤ p) × (p ≤ prefix core.zero)
AreFixes core floor (Second p q) = (floor ≤ p) × (p ≤ prefix core.zero) × (floor ≤ q) × (q ≤ prefix core.one)
AreFixes core floor (Agreed n) = (n ≡ floor) × (n ≤ prefix core.zero) × (n ≤ prefix core.one) × (n ≤ prefix core.two)

-- an actor has seen no more rows than were drawn, and its draw and its fixes are legal
pub record IsActor (core : Core) (actor : Actor) : Type 0 where
  pub floor : actor.floor ≤ length core.order
  pub draw : (draw : Open) → actor.draw ≡ Some draw → IsOpen core draw
  pub fixes : AreFixes core actor.floor actor.fixes

-- the actor of this number has an open draw of this place
abbrev pub HasOpen : Core → ℕ → ℕ → Type 0
HasOpen core number place = (actor : Actor) × (draw : Open) × (slice_get core.actors number ≡ Some actor) × (actor.draw ≡ Some draw)
    × (draw.place ≡ place)

-- A legal core: a journal has each place once, and just places that were drawn; actors are legal; no two open draws have the same
-- place; and a place that was drawn and is in no open draw is in all three journals.
pub record IsLegal (core : Core) : Type 0 where
  pub once : (k place : ℕ) → times place (journal_of core k) ≤ 1
  pub known : (k place : ℕ) → has place (journal_of core k) ≡ true → place < length core.order
  pub sixteen : length core.actors ≡ 16
  pub actors : All (IsActor core) core.actors
  pub apart : (a b place : ℕ) → HasOpen core a place → HasOpen core b place → a ≡ b
  pub closed : (k place : ℕ) → place < length core.order → ((number : ℕ) → ¬ HasOpen core number place)
      → has place (journal_of core k) ≡ true
