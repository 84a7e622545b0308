-- What a scan of some shelves needs and gives, each in one fact.
use Rattle.std.specs.Prelude.{◌≡◌, ℕ, ◌≤◌, ◌++◌, List, length, All, Result, Ok, IfOk, OnOk, OnErr}
use Rattle.std.specs.List.{AllZip, flat_map}
use Rattle.ring128.specs.declared.memory.Memory.{Memory}
use Rattle.scan_chunks.specs.Shelf.{Held}
use Rattle.scan_chunks.specs.Scan.{scan_of, visits_of, VisitsPart}
use Rattle.scan_chunks.specs.declared.visit.Visit.{Visit}

-- each shelf has the column, as wide as the tables are long
pub record AreReady {S : Type 0} (held : S → Held) (column : ℕ) (zero one : List ℕ) (shelves : List S) : Type 0 where
  pub there : All (λ s. column ≤ (held s).columns) shelves
  pub zeros : All (λ s. length zero ≡ (held s).width column) shelves
  pub ones : All (λ s. length one ≡ (held s).width column) shelves

-- the shelves before and after a scan, and its result
pub record Scans {S : Type 0} (held : S → Held) (visited : S → List Visit) (column : ℕ) (zero one : List ℕ)
    (old new : List S) (result : Result (List ℕ) Memory) : Type 0 where
  pub same : AllZip (λ s t. held t ≡ held s) old new
  pub numbers : IfOk result (λ w. w ≡ flat_map (λ s. scan_of (held s) column zero one) old)
  pub visits : OnOk result (AllZip (λ s t. visited t ≡ visited s ++ visits_of (held s) column) old new)
  pub part : OnErr result (AllZip (λ s t. VisitsPart (visited s) (visited t) (visits_of (held s) column)) old new)

-- a scan of shelves that are given in two lists
abbrev pub ScansBoth : {S : Type 0} → (S → Held) → (S → List Visit) → ℕ → List ℕ → List ℕ → List S → List S → List S → List S
    → Result (List ℕ) Memory → Type 0
ScansBoth held visited column zero one front front' back back' result =
    Scans held visited column zero one (front ++ back) (front' ++ back') result

-- the numbers of two scans, one after the other
abbrev pub AreJoined : Result (List ℕ) Memory → Result (List ℕ) Memory → List ℕ → Type 0
AreJoined front back numbers = (xs : List ℕ) × (ys : List ℕ) × (front ≡ Ok xs) × (back ≡ Ok ys) × (numbers ≡ xs ++ ys)
