-- What the definitions say together.
use Rattle.std.specs.Prelude.{◌≡◌, ℕ, ◌+◌, ◌-◌, ◌%◌, ◌<◌, ◌≤◌, Option, Some, None, List, [], All, take, drop, length, slice_get}
use Rattle.std.specs.Prelude.{if◌then◌else◌, nat_lt}
use Rattle.prg_chacha.specs.declared.seed.Seed.{Seed}
use Rattle.table_schema.specs.declared.rows.Row.{Row}
use Rattle.table_schema.specs.declared.widths.Widths.{Widths}
use Rattle.onehot_column.specs.Piece.{IsPiece}
use Rattle.onehot_column.specs.declared.piece.Piece.{Piece}
use Rattle.scan_chunks.specs.Shelf.{Held}
use Rattle.prefix_log.specs.Acts.{Act, IsWithin, after, first_at, journal_after}
use Rattle.prefix_log.specs.Journal.{HasNoMark, IsJournal, IsPrefixOf, prefix, start}
use Rattle.prefix_log.specs.Logs.{Log, empty_log, piece_at}
use Rattle.prefix_log.specs.Rows.{IsCut}
use Rattle.prefix_log.specs.Snapshots.{HoldsPieces, KeepsRows, pieces_in, firsts_of, seconds_of, shares_of}

-- a journal has one prefix
abbrev pub PrefixIsOne : Type 0
PrefixIsOne = (journal : List ℕ) (m n : ℕ) → IsPrefixOf journal m → IsPrefixOf journal n → m ≡ n

-- where no place is retired the journal's start is 0
abbrev pub NoMarkNoStart : Type 0
NoMarkNoStart = (capacity : ℕ) (journal : List ℕ) → capacity ≤ 65536 → HasNoMark capacity journal → start journal ≡ 0

-- the start of a legal journal is whole chunks, and at most its prefix
pub record StartsWithin (journal : List ℕ) : Type 0 where
  pub whole : start journal % 64 ≡ 0
  pub within : start journal ≤ prefix journal

abbrev pub StartIsWithin : Type 0
StartIsWithin = (capacity : ℕ) (journal : List ℕ) → capacity ≤ 65536 → IsJournal capacity journal → StartsWithin journal

-- After any list of placings below the capacity and of retirements the journal has what they put there, one after another, and is legal.
-- Each place that is not below its start has the first piece that came to it, and those below have none.
pub record HasFirsts (capacity : ℕ) (acts : List Act) (log : Log) : Type 0 where
  pub journal : log.journal ≡ journal_after [] acts
  pub legal : IsJournal capacity log.journal
  pub pieces : (place : ℕ) → place < capacity
      → piece_at log.slots place ≡ (if nat_lt place (start log.journal) then None else first_at place acts)

abbrev pub FirstsStay : Type 0
FirstsStay = (server : ℕ) (w : Widths) (capacity : ℕ) (acts : List Act) → capacity ≤ 65536 → All (IsWithin capacity) acts
    → HasFirsts capacity acts (after (empty_log server w capacity) acts)

-- the slots below n have the pieces of server k of these rows, each split by its seed
abbrev pub AreSharings : Widths → ℕ → ℕ → List (Row × Seed) → List (Option Piece) → Type 0
AreSharings w k n entries slots = (place : ℕ) (entry : Row × Seed) → place < n → slice_get entries place ≡ Some entry
    → (piece : Piece) × (piece_at slots place ≡ Some piece) × IsPiece w entry.0 entry.1 k piece

-- the pieces are as many as the rows, and at each column their cells are the parts of share k and of share k + 1 of the rows' codes
pub record AreCellsOf (w : Widths) (k : ℕ) (entries : List (Row × Seed)) (pieces : List Piece) : Type 0 where
  pub count : length pieces ≡ length entries
  pub first : (column : ℕ) → firsts_of w pieces column ≡ shares_of w k entries column
  pub second : (column : ℕ) → seconds_of w pieces column ≡ shares_of w ((k + 1) % 3) entries column

abbrev pub SharingsGiveCells : Type 0
SharingsGiveCells = (w : Widths) (k n : ℕ) (entries : List (Row × Seed)) (slots : List (Option Piece)) → n ≤ length entries
    → AreSharings w k n entries slots → AreCellsOf w k (take n entries) (pieces_in (take n slots))

-- a snapshot of slots that have a server's pieces of rows keeps these rows
abbrev pub SnapshotsKeepRows : Type 0
SnapshotsKeepRows = (w : Widths) (k n : ℕ) (entries : List (Row × Seed)) (slots : List (Option Piece)) (h : Held)
    → AreSharings w k n entries slots → n ≤ length entries
    → HoldsPieces w (pieces_in (take n slots)) h → KeepsRows w k (take n entries) h

-- and cut to rows from one to below another, it keeps these
abbrev pub CutKeepsRows : Type 0
CutKeepsRows = (w : Widths) (k low high : ℕ) (entries : List (Row × Seed)) (old new : Held) → KeepsRows w k entries old
    → high ≤ length entries → IsCut low high old new → KeepsRows w k (take (high - low) (drop low entries)) new
