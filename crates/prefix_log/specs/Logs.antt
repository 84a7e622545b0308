-- What contracts see of a server's log.
use Rattle.std.specs.Prelude.{◌≡◌, ℕ, ◌+◌, ◌-◌, ◌/◌, ◌<◌, ◌≤◌, Bool, false, if◌then◌else◌, Option, Some}
use Rattle.std.specs.Prelude.{None, is_some, List, [], ◌∷◌, ◌++◌, drop, length, nat_lt, replicate, slice_index_or, slice_set}
use Rattle.list_facts.specs.Count.{has}
use Rattle.list_facts.specs.Listed.{listed}
use Rattle.table_schema.specs.Widths.{Fits, column_bits}
use Rattle.table_schema.specs.declared.widths.Widths.{Widths}
use Rattle.onehot_column.specs.Piece.{HasWidths}
use Rattle.onehot_column.specs.declared.piece.Piece.{Piece}
use Rattle.prefix_log.specs.declared.tag.LogTag.{LogTag}
use Rattle.prefix_log.specs.Chunks.{Halves, stored_slots}
use Rattle.prefix_log.specs.Journal.{IsJournal, IsPrefixOf, is_kept, mark_of, start, start_for}

-- whose it is, the widths of the pieces, how many places there are, the journal, and at each place its piece
pub record Log : Type 0 where
  pub server : ℕ
  pub widths : Widths
  pub capacity : ℕ
  pub journal : List ℕ
  pub slots : List (Option Piece)

-- what never changes of a log
abbrev pub log_tag : Log → LogTag
log_tag log = record { server = log.server; widths = log.widths; capacity = log.capacity }

-- the piece at a place, if there is one
abbrev pub piece_at : List (Option Piece) → ℕ → Option Piece
piece_at slots place = slice_index_or slots place None

-- a piece of this server and of these widths
pub record IsOwn (k : ℕ) (w : Widths) (piece : Piece) : Type 0 where
  pub server : piece.server ≡ k
  pub widths : HasWidths w piece

-- the journal is legal, each of its places that is not retired has a piece, other places have none, and each piece is the server's own
pub record IsLog (log : Log) : Type 0 where
  pub fits : Fits (column_bits log.widths) log.capacity
  pub places : length log.slots ≡ log.capacity
  pub journal : IsJournal log.capacity log.journal
  pub kept : (place : ℕ) → place < log.capacity → is_some (piece_at log.slots place) ≡ is_kept place log.journal
  pub own : (place : ℕ) (piece : Piece) → piece_at log.slots place ≡ Some piece → IsOwn log.server log.widths piece

-- slots without the pieces below a start
abbrev pub slots_from : ℕ → List (Option Piece) → List (Option Piece)
slots_from first slots = replicate first None ++ drop first slots

-- the log of cells in chunks, the first one that of the start, of which those at filled places count
abbrev pub log_of : ℕ → Widths → ℕ → List ℕ → ℕ → List Bool → List (List Halves) → Log
log_of server w capacity journal first filled chunks = record {
  server = server;
  widths = w;
  capacity = capacity;
  journal = journal;
  slots = replicate first None ++ stored_slots server w (capacity - first) (drop first filled) chunks;
}

-- a log without pieces
abbrev pub empty_log : ℕ → Widths → ℕ → Log
empty_log server w capacity = record {
  server = server;
  widths = w;
  capacity = capacity;
  journal = [];
  slots = listed capacity (λ (place : ℕ). None);
}

-- the log after a piece came to a place: a place that is not in the journal takes it and stands at the journal's end; else nothing changes
abbrev pub placed : Log → ℕ → Piece → Log
placed log place piece = if has place log.journal then log
    else record log { journal = log.journal ++ place ∷ []; slots = slice_set log.slots place (Some piece) }

-- the log after the places below a number were retired: where the start rises its mark stands at the journal's end, and the pieces below
-- the new start are gone; else nothing changes
abbrev pub retired : Log → ℕ → Log
retired log before = if nat_lt (start log.journal) (start_for before log.journal)
    then record log {
      journal = log.journal ++ mark_of (start_for before log.journal) ∷ [];
      slots = slots_from (start_for before log.journal) log.slots;
    }
    else log

-- a log, with space for its journal, and the numbers and marks that are kept of it: its prefix, its start, and whether a place is in its
-- journal
pub record IsKept (space upto first : ℕ) (filled : List Bool) (log : Log) : Type 0 where
  pub legal : IsLog log
  pub room : log.capacity + log.capacity / 64 ≤ space
  pub reach : IsPrefixOf log.journal upto
  pub begin : start log.journal ≡ first
  pub marks : length filled ≡ log.capacity
  pub filled_are : (place : ℕ) → place < log.capacity → slice_index_or filled place false ≡ has place log.journal
