-- The order of draws, as its only sight sees it.
use Rattle.std.specs.Prelude.{◌≡◌, ℕ, ◌+◌, List, length}
use Rattle.prg_chacha.specs.declared.seed.Seed.{Seed}
use Rattle.table_schema.specs.declared.rows.Row.{Row}
use Rattle.ticket_place.specs.Sights.{Named, Seen}

-- the rows that were drawn, each with its seed, and how many there may be
pub record Entries : Type 0 where
  pub all : List (Row × Seed)
  pub capacity : ℕ

abbrev pub entries_in : Seen → Entries
entries_in sight = record { all = sight.order; capacity = sight.book.capacity }

-- the only sight of a book: what was drawn and what it may still draw is all that the book takes
pub record IsOnly (book : Named) (sight : Seen) : Type 0 where
  pub same : sight.book ≡ book
  pub whole : length sight.order + sight.room ≡ sight.book.capacity
