-- What each step on the book's word says to the seat that makes it: `m` is the seat before it, `m'` after it, and `found` the word that it
-- found.
use Rattle.std.specs.Prelude.{◌≡◌, ℕ, ◌+◌, ◌-◌, ◌<◌, ◌^◌, List, [], ◌∷◌, ◌++◌, length, pos}
use mathlib.Core.List.{IsPrefix}
use Rattle.atomic_table.specs.Table.{Me, Step}
use Rattle.list_facts.specs.Count.{longer}
use Rattle.prg_chacha.specs.declared.seed.Seed.{Seed}
use Rattle.table_schema.specs.declared.rows.Row.{Row}
use Rattle.ticket_place.specs.declared.known.Known.{Known}
use Rattle.ticket_place.specs.Orders.{SoundSeat, fresh}

-- an entry that no draw makes
abbrev pub blank : Row × Seed
blank = (record { columns = 0; buckets = []; value = pos 0 }, record { words = [] })

-- the order is the old one, then what others drew, then the entry, at the place that was found
pub record Adds (entry : Row × Seed) (v : Known) (place : ℕ) (w : Known) : Type 0 where
  pub others : List (Row × Seed)
  pub order : w.order ≡ (v.order ++ others) ++ entry ∷ []
  pub at : place ≡ length (v.order ++ others)
  pub room : w.room + 1 ≡ v.room
  pub own : w.own ≡ v.own ++ place ∷ []
  pub rest : w ≡ record v { order = w.order; room = w.room; own = w.own }

abbrev pub draws : Row × Seed → ℕ → Step (Unit {0}) → Me (Unit {0}) Known → ℕ → Me (Unit {0}) Known → Type 0
draws entry capacity st m found m' = Adds entry m.0 found m'.0 × (m'.1 ≡ m.1) × SoundSeat capacity m'.0

-- the whole order is seen, whose length was found
abbrev pub looks : ℕ → Step (Unit {0}) → Me (Unit {0}) Known → ℕ → Me (Unit {0}) Known → Type 0
looks capacity st m found m' =
    IsPrefix m.0.order m'.0.order
    × (length m'.0.order ≡ found)
    × (m' ≡ (record m.0 { order = m'.0.order; looks = m.0.looks + 1 }, m.1))
    × SoundSeat capacity m'.0

-- what the two seats of a join had seen begins what is seen now
abbrev pub notes : ℕ → Step (Unit {0}) → Me (Unit {0}) Known → ℕ → Me (Unit {0}) Known → Type 0
notes capacity st m found m' =
    (m' ≡ (record m.0 { left = []; right = [] }, m.1))
    × (m.0.order ≡ longer m.0.left m.0.right → IsPrefix m.0.left m.0.order × IsPrefix m.0.right m.0.order)
    × SoundSeat capacity m.0
    × (m.0.room < 2 ^ 32)

-- the view of a seat that handed so much room over, and of the seat that got it
abbrev pub without_room : Known → ℕ → Known
without_room v n = record v { room = v.room - n }

abbrev pub handed : Known → ℕ → Known
handed v n = fresh v.order n

-- the view of a seat that took another in
abbrev pub joined : Known → Known → Known
joined v w = record v { order = longer v.order w.order; room = v.room + w.room; own = v.own ++ w.own; left = v.order; right = w.order }
