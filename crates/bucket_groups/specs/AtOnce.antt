-- What a server's part of a step needs and gives, each in one fact.
use Rattle.std.specs.Prelude.{ℕ, ◌≡◌, ◌<◌, List, [], ◌∷◌, length, map, Result, IfOk}
use Rattle.ring128.specs.declared.memory.Memory.{Memory}
use Rattle.scan_chunks.specs.Shelf.{Held}
use Rattle.scan_chunks.specs.declared.visit.Visit.{Visit}
use Rattle.onehot_column.specs.Code.{width_of}
use Rattle.query_plan.specs.Views.{View}
use Rattle.transcript.specs.Setup.{Sizes}
use Rattle.server_rounds.specs.Groups.{Pairs, AreLong, first_of, second_of}
use Rattle.server_rounds.specs.Shelves.{AreShelves, pieces_of}
use Rattle.server_rounds.specs.Visits.{AreVisited}
use Rattle.bucket_groups.specs.Ending.{bucket_words, value_products}

-- a pair a row, and the server's shelves
pub record CanValue {S : Type 0} (held : S → Held) (z : Sizes) (chain : Pairs) (shelves : List S) : Type 0 where
  pub chain_long : AreLong z.rows chain
  pub rows : AreShelves z.widths z.rows (map held shelves)

-- the shelves before and after, and the numbers of the products with the values
pub record GivesValues {S : Type 0} (held : S → Held) (visited : S → List Visit) (z : Sizes) (chain : Pairs) (server : ℕ)
    (old new : List S) (result : Result (List ℕ) Memory) : Type 0 where
  pub same : map held new ≡ map held old
  pub long : IfOk result (λ w. length w ≡ z.rows)
  pub numbers : IfOk result (λ w. w ≡ value_products z (pieces_of (map held old)) (first_of chain server) (second_of chain server))
  pub visits : AreVisited held visited (z.widths.columns ∷ []) old new result

-- a run, a column of the table, a pair a row, and the server's shelves
pub record CanGroup {S : Type 0} (held : S → Held) (z : Sizes) (column run : ℕ) (pairs : Pairs) (shelves : List S) : Type 0 where
  pub one_of_two : run < 2
  pub there : column < z.widths.columns
  pub pairs_long : AreLong z.rows pairs
  pub rows : AreShelves z.widths z.rows (map held shelves)

-- the shelves before and after, and the words of the openings
pub record GivesBuckets {S : Type 0} (held : S → Held) (visited : S → List Visit) (z : Sizes) (column run : ℕ) (views : ℕ → View)
    (pairs : Pairs) (server : ℕ) (old new : List S) (result : Result (List ℕ) Memory) : Type 0 where
  pub same : map held new ≡ map held old
  pub long : IfOk result (λ w. length w ≡ width_of z.widths column)
  pub words : IfOk result (λ w. w ≡ bucket_words z column run (views server) (pieces_of (map held old))
      (first_of pairs server) (second_of pairs server))
  pub visits : AreVisited held visited (column ∷ []) old new result
