-- What a writer did.
use Rattle.std.specs.Prelude.{◌≡◌, ℕ, ◌+◌, ◌≤◌, ⊤, true, Some, List, [], ◌∷◌, ◌++◌, length, max, min, slice_get}
use Rattle.list_facts.specs.Count.{has}
use Rattle.prefix_log.specs.Journal.{prefix}
use Rattle.prg_chacha.specs.Prg.{derive_of}
use Rattle.prg_chacha.specs.declared.seed.Seed.{Seed}
use Rattle.report_lines.specs.declared.lines.Line.{Line}
use Rattle.report_lines.specs.declared.lines.Line.TheVariants as lines
use Rattle.table_schema.specs.declared.rows.Row.{Row}
use Rattle.waldo_table.specs.Tables.{Lacks, PassView, seat_of}
use Rattle.race_play.specs.Turns.{IsRising}

-- the entry at a place of the order is this input row, with the seed of the writer and the row
pub record IsEntry (rows : List Row) (master : Seed) (writer : ℕ) (order : List (Row × Seed)) (i place : ℕ) : Type 0 where
  pub row : Row
  pub is : slice_get rows i ≡ Some row
  pub there : slice_get order place ≡ Some (row, derive_of master 1 writer i)

-- the rows stand at these places, one each, in this order
abbrev pub AreEntries : List Row → Seed → ℕ → List (Row × Seed) → List ℕ → List ℕ → Type 0
AreEntries rows master writer order [] [] = ⊤
AreEntries rows master writer order [] (place ∷ places) = ⊥
AreEntries rows master writer order (i ∷ is) [] = ⊥
AreEntries rows master writer order (i ∷ is) (place ∷ places) =
    IsEntry rows master writer order i place × AreEntries rows master writer order is places

-- the three servers have a place, as the pass has seen
pub record IsThere (p : PassView) (place : ℕ) : Type 0 where
  pub zero : has place p.zero.seen ≡ true
  pub one : has place p.one.seen ≡ true
  pub two : has place p.two.seen ≡ true

abbrev pub AreThere : PassView → List ℕ → Type 0
AreThere p [] = ⊤
AreThere p (place ∷ places) = IsThere p place × AreThere p places

-- the floor once it is above some places
abbrev pub floor_over : ℕ → List ℕ → ℕ
floor_over floor [] = floor
floor_over floor (place ∷ places) = floor_over (max floor (place + 1)) places

-- rows were appended: the places are own, rise, have these rows in order, and are at the three servers; the floor is above them
pub record Wrote (rows : List Row) (master : Seed) (writer : ℕ) (is : List ℕ) (p : PassView) (places : List ℕ) (q : PassView) : Type 0 where
  pub own : q.sight.own ≡ p.sight.own ++ places
  pub room : q.sight.room + length is ≡ p.sight.room
  pub entries : AreEntries rows master writer q.sight.order is places
  pub rising : IsRising (length p.sight.order) places
  pub there : AreThere q places
  pub floor : q.floor ≡ floor_over p.floor places

-- the line of an agreement after that: Back with the pass's floor, the least prefix of the three seen journals; or BackAgain, of a server
-- that lacked a row below the floor
abbrev pub IsBack : ℕ → PassView → PassView → Line → Type 0
IsBack writer p q (lines.Back w n) =
    (w ≡ writer) × (n ≡ q.floor) × (p.floor ≤ n) × (n ≡ min (min (prefix q.zero.seen) (prefix q.one.seen)) (prefix q.two.seen))
    × ((k : ℕ) → k ≤ 2 → (seat_of k q).looks ≡ (seat_of k p).looks + 1)
IsBack writer p q (lines.BackAgain w k had floor) = (w ≡ writer) × (q.floor ≡ p.floor) × Lacks p q k had floor
IsBack writer p q line = ⊥

-- a writer wrote its rows and agreed once, with the pass as it was in between
pub record Wrote_back (rows : List Row) (master : Seed) (writer : ℕ) (is : List ℕ) (p : PassView)
    (places : List ℕ) (line : Line) (q : PassView) : Type 0 where
  pub between : PassView
  pub wrote : Wrote rows master writer is p places between
  pub sight : q.sight.own ≡ between.sight.own
  pub room : q.sight.room ≡ between.sight.room
  pub entries : AreEntries rows master writer q.sight.order is places
  pub there : AreThere q places
  pub back : IsBack writer between q line

-- Out of memory a writer has appended the first of its rows, and has agreed on nothing.
pub record WroteFirst (rows : List Row) (master : Seed) (writer : ℕ) (is : List ℕ) (p q : PassView) : Type 0 where
  pub done : List ℕ
  pub rest : List ℕ
  pub all : is ≡ done ++ rest
  pub places : List ℕ
  pub wrote : Wrote rows master writer done p places q
