-- Whose turn an input row is, and places in rising order.
use Rattle.std.specs.Prelude.{ℕ, zero, suc, ◌+◌, ◌%◌, ◌≤◌, ◌==◌, ⊤, if◌then◌else◌, List, [], ◌∷◌, ◌++◌}

-- the rows below n that a writer writes, in order: those i with `i mod writers = writer`
abbrev pub turns : ℕ → ℕ → ℕ → List ℕ
turns writer writers zero = []
turns writer writers (suc n) = turns writer writers n ++ (if n % writers == writer then n ∷ [] else [])

-- numbers that rise, none below the first one given
abbrev pub IsRising : ℕ → List ℕ → Type 0
IsRising low [] = ⊤
IsRising low (x ∷ xs) = (low ≤ x) × IsRising (x + 1) xs
