-- Products of shared numbers.
use Rattle.std.specs.Prelude.{ℕ, ◌+◌, List, length, slice_index}
use Rattle.list_facts.specs.Listed.{listed}
use Rattle.prg_chacha.specs.declared.seed.Seed.{Seed}
use Rattle.ring128.specs.Ring.{plus, times, dot_of}
use Rattle.zero_share.specs.Zero.{part_of}

-- a server's part of a product, from its two shares of each factor
abbrev pub local_of : ℕ → ℕ → ℕ → ℕ → ℕ
local_of a a' b b' = plus (plus (times a b) (times a b')) (times a' b)

-- a server's parts of the products of two lists, place by place
abbrev pub locals_of : List ℕ → List ℕ → List ℕ → List ℕ → List ℕ
locals_of a a' b b' =
    listed (length a) (λ i. local_of (slice_index a i) (slice_index a' i) (slice_index b i) (slice_index b' i))

-- the same, each with a part of zero, whose counters begin at start
abbrev pub local_rows_of : List ℕ → List ℕ → List ℕ → List ℕ → Seed → Seed → ℕ → List ℕ
local_rows_of a a' b b' own next start =
    listed (length a)
    (λ i. plus (local_of (slice_index a i) (slice_index a' i) (slice_index b i) (slice_index b' i)) (part_of own next (start + i)))

-- a server's part of a dot product
abbrev pub inner_of : List ℕ → List ℕ → List ℕ → List ℕ → ℕ
inner_of a a' b b' = plus (plus (dot_of a b) (dot_of a b')) (dot_of a' b)
