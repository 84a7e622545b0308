-- What the messages of a query rest on.
use Rattle.std.specs.Prelude.{ℕ, List}
use Rattle.query_plan.specs.Views.{View}
use Rattle.scan_chunks.specs.Pieces.{Pieces}
-- its sizes are those of a trace
pub use Rattle.visit_trace.specs.declared.sizes.Sizes.{Sizes}
pub use Rattle.visit_trace.specs.Sizes.{count_of, column_of}

-- what follows the products in a run: `further` further steps of the servers among themselves, and then the openings. The words of
-- a server in further step e, and in the opening, are of the run, of what it read, of its pieces, and of the pair of lists that it
-- holds after the step before
pub record Ending : Type 0 where
  pub further : ℕ
  pub words : ℕ → ℕ → View → Pieces → List ℕ → List ℕ → List ℕ
  pub last : ℕ → View → Pieces → List ℕ → List ℕ → List ℕ

-- a query at three servers: its sizes, how its runs end, the key words that the client makes for each server, what a server reads
-- from key words, and the pieces of each server's rows
pub record Setup : Type 0 where
  pub sizes : Sizes
  pub ending : Ending
  pub keys : ℕ → List ℕ
  pub read : List ℕ → View
  pub pieces : ℕ → Pieces

-- a query at servers with other pieces
abbrev pub with_pieces : Setup → (ℕ → Pieces) → Setup
with_pieces s pieces = record { sizes = s.sizes; ending = s.ending; keys = s.keys; read = s.read; pieces = pieces }
