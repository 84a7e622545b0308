-- Shelves whose rows, one after another, are those of one.
use Rattle.std.specs.Prelude.{ℕ, ◌≡◌, ◌<◌, ◌+◌, ◌*◌, List, [], ◌∷◌, length, All}
use Rattle.std.specs.List.{flat_map}
use Rattle.list_facts.specs.Count.{total}
use Rattle.scan_chunks.specs.Pieces.{chunks_of}
use Rattle.scan_chunks.specs.Shelf.{Held}
use Rattle.scan_chunks.specs.Scan.{scan_of, visits_of}

-- at a column, shelves whose rows are those of a whole one
pub record AreParts (column : ℕ) (parts : List Held) (whole : Held) : Type 0 where
  pub count : whole.rows ≡ total (λ (h : Held). h.rows) parts
  pub wide : All (λ (h : Held). h.width column ≡ whole.width column) parts
  pub long : All (λ (h : Held). length (h.pieces.first column) ≡ h.rows * h.width column) parts
  pub also : All (λ (h : Held). length (h.pieces.second column) ≡ h.rows * h.width column) parts
  pub firsts : whole.pieces.first column ≡ flat_map (λ (h : Held). h.pieces.first column) parts
  pub seconds : whole.pieces.second column ≡ flat_map (λ (h : Held). h.pieces.second column) parts

-- shelves that begin at this chunk number and go on: each later one begins with the number after the last one of that before it,
-- and has whole chunks where rows follow
abbrev pub GoOn : ℕ → List Held → Type 0
GoOn start [] = Unit {0}
GoOn start (h ∷ hs) = (h.start ≡ start) × (0 < total (λ (k : Held). k.rows) hs → h.rows ≡ 64 * chunks_of h.rows)
    × GoOn (start + chunks_of h.rows) hs

-- the scans of the parts, one after another, are the scan of the whole
abbrev pub PartsScanAsWhole : Type 0
PartsScanAsWhole = (column : ℕ) (zeros ones : List ℕ) (parts : List Held) (whole : Held) → AreParts column parts whole
    → flat_map (λ (h : Held). scan_of h column zeros ones) parts ≡ scan_of whole column zeros ones

-- and so are their visits
abbrev pub PartsAreVisitedAsWhole : Type 0
PartsAreVisitedAsWhole = (column : ℕ) (parts : List Held) (whole : Held) → whole.rows ≡ total (λ (h : Held). h.rows) parts
    → GoOn whole.start parts
    → flat_map (λ (h : Held). visits_of h column) parts ≡ visits_of whole column
