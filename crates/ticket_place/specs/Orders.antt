-- What the seats know of the book's word, and the rule that ties it to them.
use Rattle.std.specs.Prelude.{◌≡◌, ℕ, ◌+◌, ◌<◌, ◌≤◌, ◌^◌, List, [], ◌∷◌, length, All}
use mathlib.Core.List.{IsPrefix}
use Rattle.atomic_table.specs.Table.{State}
use Rattle.list_facts.specs.Count.{total, times, once_below}
use Rattle.prg_chacha.specs.declared.seed.Seed.{Seed}
use Rattle.table_schema.specs.declared.rows.Row.{Row}
use Rattle.ticket_place.specs.declared.known.Known.{Known}

-- what is seen and what may still be drawn is at most the capacity together, and the own places are places of what is seen, each once
pub record Sound (capacity : ℕ) (order : List (Row × Seed)) (room : ℕ) (own : List ℕ) : Type 0 where
  pub within : length order + room ≤ capacity
  pub once : (x : ℕ) → times x own ≤ once_below x (length order)

-- a seat has seen a beginning of the order, and so had the two that were joined. Its own places are places of what it has seen, each once
pub record Fits (order : List (Row × Seed)) (v : Known) : Type 0 where
  pub seen : IsPrefix v.order order
  pub left : IsPrefix v.left order
  pub right : IsPrefix v.right order
  pub own : (x : ℕ) → times x v.own ≤ once_below x (length v.order)

-- There is one order, whose length is the word. What was drawn and what may still be drawn through all seats is at most the capacity.
-- Each place of the order was drawn through one seat, once
pub record Ordered (capacity : ℕ) (s : State (Unit {0}) Known) : Type 0 where
  pub order : List (Row × Seed)
  pub word : s.words ≡ length order ∷ []
  pub fits : All (Fits order) s.views
  pub rooms : length order + total (λ v. v.room) s.views ≤ capacity
  pub owned : (x : ℕ) → total (λ v. times x v.own) s.views ≡ once_below x (length order)
  pub small : capacity < 2 ^ 32

-- a seat that has drawn nothing
abbrev pub fresh : List (Row × Seed) → ℕ → Known
fresh order room = record { order = order; room = room; own = []; looks = 0; left = []; right = [] }

abbrev pub SoundSeat : ℕ → Known → Type 0
SoundSeat capacity v = Sound capacity v.order v.room v.own
