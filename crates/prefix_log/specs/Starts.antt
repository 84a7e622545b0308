-- The places of the rows of snapshots.
use Rattle.std.specs.Prelude.{◌≡◌, ℕ, ◌+◌, ⊤, List, [], ◌∷◌}
use Rattle.scan_chunks.specs.Shelf.{Held}
use Rattle.prefix_log.specs.declared.snapshot.Snapshot.{Snapshot}

-- the start of a snapshot: the place of its first row
abbrev pub start_of : Snapshot → ℕ
start_of snapshot = snapshot.rows.place

-- snapshots whose rows follow one another, from a place on: the start of each is that place and the rows of those before it
abbrev pub Follow : (Snapshot → Held) → ℕ → List Snapshot → Type 0
Follow held place [] = ⊤
Follow held place (s ∷ rest) = (start_of s ≡ place) × Follow held (place + (held s).rows) rest
