-- What a server's part of a step needs and gives, each in one fact.
use Rattle.std.specs.Prelude.{ℕ, ◌≡◌, ◌<◌, List, length, map, Result, Ok, IfOk}
use Rattle.ring128.specs.declared.memory.Memory.{Memory}
use Rattle.scan_chunks.specs.Shelf.{Held}
use Rattle.scan_chunks.specs.declared.visit.Visit.{Visit}
use Rattle.query_plan.specs.KeyMessages.{KeysRead}
use Rattle.query_plan.specs.Views.{View}
use Rattle.transcript.specs.Setup.{Sizes, count_of}
use Rattle.transcript.specs.Formulas.{opening_words}
use Rattle.server_rounds.specs.declared.carry.Trio.{Trio}
use Rattle.server_rounds.specs.Groups.{Pairs, AreLong, first_of, second_of}
use Rattle.server_rounds.specs.Plans.{HasTables}
use Rattle.server_rounds.specs.Rounds.{locals_at}
use Rattle.server_rounds.specs.Shelves.{AreShelves, pieces_of}
use Rattle.server_rounds.specs.Visits.{AreVisited, opened_columns}

-- a predicate of a run, keys with its tables, and the server's shelves
pub record CanScan {S : Type 0} (held : S → Held) (z : Sizes) (keys : KeysRead) (run j : ℕ) (shelves : List S) : Type 0 where
  pub one_of_two : run < 2
  pub there : j < count_of z
  pub tables : HasTables z keys
  pub rows : AreShelves z.widths z.rows (map held shelves)

-- how many pairs a server holds, where all hold equally many
abbrev pub count_in : Pairs → ℕ
count_in pairs = length pairs.zero.first

-- equally many pairs of each factor
pub record CanMultiply (chain bits : Pairs) : Type 0 where
  pub chain_long : AreLong (count_in chain) chain
  pub bits_long : AreLong (count_in chain) bits

-- a server's parts of a product
pub record GivesLocals (chain bits : Pairs) (server : ℕ) (result : Result (List ℕ) Memory) : Type 0 where
  pub long : IfOk result (λ w. length w ≡ count_in chain)
  pub numbers : IfOk result (λ w. w ≡ locals_at chain bits server)

-- a run, a pair a row, and the server's shelves
pub record CanOpen {S : Type 0} (held : S → Held) (z : Sizes) (run : ℕ) (chain : Pairs) (shelves : List S) : Type 0 where
  pub one_of_two : run < 2
  pub chain_long : AreLong z.rows chain
  pub rows : AreShelves z.widths z.rows (map held shelves)

-- the shelves before and after, and the word of the opening
pub record GivesOpening {S : Type 0} (held : S → Held) (visited : S → List Visit) (z : Sizes) (run : ℕ) (views : ℕ → View)
    (chain : Pairs) (server : ℕ) (old new : List S) (result : Result (List ℕ) Memory) : Type 0 where
  pub same : map held new ≡ map held old
  pub long : IfOk result (λ w. length w ≡ 1)
  pub words : IfOk result (λ w. w ≡ opening_words z run (views server) (pieces_of (map held old))
      (first_of chain server) (second_of chain server))
  pub visits : AreVisited held visited (opened_columns z.shape.aggregate z.widths.columns) old new result

-- the words of three servers, each of which had memory
pub record AreAll (zero one two : Result (List ℕ) Memory) (words : Trio) : Type 0 where
  pub at0 : zero ≡ Ok words.zero
  pub at1 : one ≡ Ok words.one
  pub at2 : two ≡ Ok words.two
