-- Arithmetic on numbers of 128 bits, modulo 2 ^ 128.
use Rattle.std.specs.Prelude.{ℕ, ◌+◌, ◌*◌, ◌-◌, ◌%◌, ◌^◌, List, [], ◌∷◌}

-- the sum
abbrev pub plus : ℕ → ℕ → ℕ
plus a b = (a + b) % 2 ^ 128

-- the negative: minus one is 2 ^ 128 - 1
abbrev pub negative : ℕ → ℕ
negative a = ((2 ^ 128 - 1) * a) % 2 ^ 128

-- the difference
abbrev pub minus : ℕ → ℕ → ℕ
minus a b = (a + (2 ^ 128 - 1) * b) % 2 ^ 128

-- the product
abbrev pub times : ℕ → ℕ → ℕ
times a b = (a * b) % 2 ^ 128

-- the sum of the products, place by place
abbrev pub dot_of : List ℕ → List ℕ → ℕ
dot_of [] ys = 0
dot_of (x ∷ xs) [] = 0
dot_of (x ∷ xs) (y ∷ ys) = plus (times x y) (dot_of xs ys)

-- the sums, place by place
abbrev pub sums : List ℕ → List ℕ → List ℕ
sums [] ys = []
sums (x ∷ xs) [] = []
sums (x ∷ xs) (y ∷ ys) = plus x y ∷ sums xs ys

-- each number times one factor
abbrev pub scaled : ℕ → List ℕ → List ℕ
scaled c [] = []
scaled c (x ∷ xs) = times x c ∷ scaled c xs

-- the sums of three lists, place by place
abbrev pub sums3 : List ℕ → List ℕ → List ℕ → List ℕ
sums3 xs ys zs = sums (sums xs ys) zs

-- the sum of a list
abbrev pub total_of : List ℕ → ℕ
total_of [] = 0
total_of (x ∷ xs) = plus x (total_of xs)
