-- What a scan gives, and what it visits.
use Rattle.std.specs.Prelude.{◌≡◌, ℕ, ◌+◌, List, take, ◌++◌, map}
use Rattle.std.specs.List.{range_with_len}
use Rattle.list_facts.specs.Listed.{listed}
use Rattle.ring128.specs.Ring.{plus, dot_of}
use Rattle.scan_chunks.specs.Pieces.{row_of, chunks_of}
use Rattle.scan_chunks.specs.Shelf.{Held}
use Rattle.scan_chunks.specs.declared.visit.Visit.{Visit}

-- the number of row i: the dot product of its firsts with one table, and that of its seconds with the other
abbrev pub row_number : List ℕ → List ℕ → ℕ → List ℕ → List ℕ → ℕ → ℕ
row_number zero one width first second i = plus (dot_of zero (row_of width i first)) (dot_of one (row_of width i second))

-- the numbers of all rows of a column
abbrev pub scan_of : Held → ℕ → List ℕ → List ℕ → List ℕ
scan_of h column zero one = listed h.rows (row_number zero one (h.width column) (h.pieces.first column) (h.pieces.second column))

-- each chunk of a column once, rising
abbrev pub visits_of : Held → ℕ → List Visit
visits_of h column = map (λ c. record { column = column; chunk = h.start + c }) (range_with_len 0 (chunks_of h.rows))

-- the visits of a call that ran out of memory: the old ones, and the first of those that were to come
abbrev pub VisitsPart : List Visit → List Visit → List Visit → Type 0
VisitsPart old new wanted = (n : ℕ) × (new ≡ old ++ take n wanted)
