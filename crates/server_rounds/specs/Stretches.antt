-- The words of the servers' bits over some of their shelves.
use Rattle.std.specs.Prelude.{ℕ, ◌≡◌, ◌+◌, ◌<◌, ◌≤◌, ◌^◌, List, [], ◌∷◌, ◌++◌, length, map, take, Result, IfOk, OnOk, OnErr}
use Rattle.std.specs.List.{AllZip, flat_map}
use Rattle.list_facts.specs.Count.{total}
use Rattle.ring128.specs.declared.memory.Memory.{Memory}
use Rattle.query_plan.specs.KeyMessages.{KeysRead, view_from}
use Rattle.query_plan.specs.Views.{View}
use Rattle.scan_chunks.specs.Halves.{AreReady}
use Rattle.scan_chunks.specs.Scan.{scan_of, visits_of, VisitsPart}
use Rattle.scan_chunks.specs.Shelf.{Held}
use Rattle.scan_chunks.specs.declared.tables.Tables.{Tables}
use Rattle.scan_chunks.specs.declared.visit.Visit.{Visit}
use Rattle.transcript.specs.Formulas.{bits_words}
use Rattle.transcript.specs.Setup.{Sizes, column_of}
use Rattle.server_rounds.specs.declared.keys.ThreeKeys.{ThreeKeys}
use Rattle.server_rounds.specs.declared.stretches.ThreeTables.{ThreeTables}
use Rattle.server_rounds.specs.Shelves.{pieces_of}
use Rattle.server_rounds.specs.Visits.{AreVisited}
use Rattle.server_rounds.specs.Zeros.{zeroed}

-- how many rows some shelves have
abbrev pub rows_in : {S : Type 0} → (S → Held) → List S → ℕ
rows_in held shelves = total (λ s. (held s).rows) shelves

-- shelves of a server with the tables' column, and a list with a place for each of their rows
pub record CanScanTo {S : Type 0} (held : S → Held) (column : ℕ) (tables : Tables) (shelves : List S) (to : List ℕ) : Type 0 where
  pub ready : AreReady held column tables.zero tables.one shelves
  pub long : length to ≡ rows_in held shelves

-- the numbers of all rows of some shelves
abbrev pub scans_of : {S : Type 0} → (S → Held) → ℕ → Tables → List S → List ℕ
scans_of held column tables shelves = flat_map (λ s. scan_of (held s) column tables.zero tables.one) shelves

-- the shelves of a server before and after a call that visits a column, and a list that then has these words, where there was memory
pub record WritesTo {S T : Type 0} (held : S → Held) (visited : S → List Visit) (column : ℕ) (words : List ℕ)
    (old new : List S) (to : T → List ℕ) (result : Result T Memory) : Type 0 where
  pub same : AllZip (λ s t. held t ≡ held s) old new
  pub written : IfOk result (λ t. to t ≡ words)
  pub visits : OnOk result (AllZip (λ s t. visited t ≡ visited s ++ visits_of (held s) column) old new)
  pub part : OnErr result (AllZip (λ s t. VisitsPart (visited s) (visited t) (visits_of (held s) column)) old new)

-- the three servers' shelves for the same rows, at most 65,536, with lists of their places, and counters for these
pub record CanFill {S : Type 0} (held : S → Held) (column : ℕ) (tables : ThreeTables) (start : ℕ) (zero one two : List S)
    (to0 to1 to2 : List ℕ) : Type 0 where
  pub at0 : CanScanTo held column tables.zero zero to0
  pub at1 : CanScanTo held column tables.one one to1
  pub at2 : CanScanTo held column tables.two two to2
  pub long1 : length to1 ≡ length to0
  pub long2 : length to2 ≡ length to0
  pub few : length to0 ≤ 65536
  pub counters : start + length to0 < 2 ^ 64

-- the numbers of each server's rows, each with its part of zero
pub record Fills {S T : Type 0} (held : S → Held) (visited : S → List Visit) (column : ℕ) (tables : ThreeTables) (keys : ThreeKeys)
    (start : ℕ) (zero zero' one one' two two' : List S) (to0 to1 to2 : T → List ℕ) (result : Result T Memory) : Type 0 where
  pub at0 : WritesTo held visited column (zeroed keys.zero start (scans_of held column tables.zero zero)) zero zero' to0 result
  pub at1 : WritesTo held visited column (zeroed keys.one start (scans_of held column tables.one one)) one one' to1 result
  pub at2 : WritesTo held visited column (zeroed keys.two start (scans_of held column tables.two two)) two two' to2 result

-- the same of shelves and lists that are given in two pieces
abbrev pub BothFill : {S T : Type 0} → (S → Held) → (S → List Visit) → ℕ → ThreeTables → ThreeKeys → ℕ
    → List S → List S → List S → List S → List S → List S → List ℕ → List ℕ → List ℕ
    → List S → List S → List S → List S → List S → List S → List ℕ → List ℕ → List ℕ → Result T Memory → Type 0
BothFill held visited column tables keys start z z' o o' t t' x y w rz rz' ro ro' rt rt' rx ry rw result =
    Fills held visited column tables keys start (z ++ rz) (z' ++ rz') (o ++ ro) (o' ++ ro') (t ++ rt) (t' ++ rt')
    (λ _. x ++ rx) (λ _. y ++ ry) (λ _. w ++ rw) result

-- the first shelves of each server have equally many rows
pub record AreCut {S : Type 0} (held : S → Held) (near cut : ℕ) (zero one two : List S) : Type 0 where
  pub some : 0 < near
  pub more : near < length zero
  pub within1 : near ≤ length one
  pub within2 : near ≤ length two
  pub rows0 : rows_in held (take near zero) ≡ cut
  pub rows1 : rows_in held (take near one) ≡ cut
  pub rows2 : rows_in held (take near two) ≡ cut

-- the tables of predicate j
pub record AreTables (view : View) (run j : ℕ) (tables : Tables) : Type 0 where
  pub zero : tables.zero ≡ view.party0 run j
  pub one : tables.one ≡ view.party1 run j

pub record AreAllTables (keys : ThreeKeys) (run j : ℕ) (tables : ThreeTables) : Type 0 where
  pub zero : AreTables (view_from keys.zero) run j tables.zero
  pub one : AreTables (view_from keys.one) run j tables.one
  pub two : AreTables (view_from keys.two) run j tables.two

-- a server's shelves before and after, and its words of the bits of predicate j
pub record GivesBits {S T : Type 0} (held : S → Held) (visited : S → List Visit) (z : Sizes) (keys : KeysRead) (run j : ℕ)
    (old new : List S) (words : T → List ℕ) (result : Result T Memory) : Type 0 where
  pub same : map held new ≡ map held old
  pub written : IfOk result (λ t. words t ≡ bits_words z run (view_from keys) (pieces_of (map held old)) j)
  pub visits : AreVisited held visited (column_of z j ∷ []) old new result
