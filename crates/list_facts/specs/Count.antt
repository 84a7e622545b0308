-- How often an element stands in a list, and sums over lists.
use Rattle.std.specs.Prelude.{ℕ, ◌+◌, ltb, eqb, if◌then◌else◌, Bool, List, [], ◌∷◌, length}

-- the numbers that f gives, added up
abbrev pub total : {A : Type 0} → (A → ℕ) → List A → ℕ
total f [] = 0
total f (v ∷ vs) = f v + total f vs

-- how often x stands in the list
abbrev pub times : ℕ → List ℕ → ℕ
times x [] = 0
times x (y ∷ ys) = (if eqb x y then 1 else 0) + times x ys

-- how often x stands among the numbers below n
abbrev pub once_below : ℕ → ℕ → ℕ
once_below x n = if ltb x n then 1 else 0

-- the longer of two lists
abbrev pub longer : {A : Type 0} → List A → List A → List A
longer xs ys = if ltb (length xs) (length ys) then ys else xs

-- whether x stands in the list
abbrev pub has : ℕ → List ℕ → Bool
has x xs = ltb 0 (times x xs)
