-- What contracts see of a book and of a sight.
use Rattle.std.specs.Prelude.{◌≡◌, ℕ, ◌+◌, List, [], ◌∷◌, ◌++◌, length}
use Rattle.atomic_table.specs.Seated.{TableId}
use Rattle.prg_chacha.specs.declared.seed.Seed.{Seed}
use Rattle.table_schema.specs.declared.rows.Row.{Row}
use Rattle.ticket_place.specs.Orders.{Sound}

-- which book it is, and how many draws it takes
pub record Named : Type 0 where
  pub id : TableId
  pub capacity : ℕ

-- which book it is of, the order that it has seen, the draws that it may still make, the places drawn through it, and its loads of the
-- order's length
pub record Seen : Type 0 where
  pub book : Named
  pub order : List (Row × Seed)
  pub room : ℕ
  pub own : List ℕ
  pub looks : ℕ

-- the order's length and the room are at most the book's capacity together, and the own places are places of the order, each once
abbrev pub IsSound : Seen → Type 0
IsSound s = Sound s.book.capacity s.order s.room s.own

-- the order is the old one, then what others drew, then the entry, at this place, which is now among the own ones; one draw less is
-- left, and the rest is as before
pub record Draws (entry : Row × Seed) (before : Seen) (place : ℕ) (after : Seen) : Type 0 where
  pub others : List (Row × Seed)
  pub order : after.order ≡ (before.order ++ others) ++ entry ∷ []
  pub at : place ≡ length (before.order ++ others)
  pub room : after.room + 1 ≡ before.room
  pub own : after.own ≡ before.own ++ place ∷ []
  pub rest : after ≡ record before { order = after.order; room = after.room; own = after.own }
