-- Logs after many placings and retirements.
use Rattle.std.specs.Prelude.{ℕ, ◌<◌, ◌==◌, ⊤, if◌then◌else◌, Option, Some, None, List, [], ◌∷◌}
use Rattle.onehot_column.specs.declared.piece.Piece.{Piece}
use Rattle.prefix_log.specs.Journal.{with_mark, with_place}
use Rattle.prefix_log.specs.Logs.{Log, placed, retired}

-- a piece comes to a place, or the places below a number are retired
pub data Act : Type 0 where
  Place : ℕ → Piece → Act
  Retire : ℕ → Act

-- the place of a placing is below the capacity
abbrev pub IsWithin : ℕ → Act → Type 0
IsWithin capacity (Act.Place place piece) = place < capacity
IsWithin capacity (Act.Retire before) = ⊤

-- the log after some of them, one after another
abbrev pub after : Log → List Act → Log
after log [] = log
after log (Act.Place place piece ∷ acts) = after (placed log place piece) acts
after log (Act.Retire before ∷ acts) = after (retired log before) acts

-- and its journal
abbrev pub journal_after : List ℕ → List Act → List ℕ
journal_after journal [] = journal
journal_after journal (Act.Place place piece ∷ acts) = journal_after (with_place place journal) acts
journal_after journal (Act.Retire before ∷ acts) = journal_after (with_mark before journal) acts

-- the first piece for a place
abbrev pub first_at : ℕ → List Act → Option Piece
first_at place [] = None
first_at place (Act.Place there piece ∷ acts) = if place == there then Some piece else first_at place acts
first_at place (Act.Retire before ∷ acts) = first_at place acts
