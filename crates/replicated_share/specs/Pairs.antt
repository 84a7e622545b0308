-- Two neighbouring shares of a number.
use Rattle.std.specs.Prelude.{ℕ, List, slice_index}
use Rattle.ring128.specs.Ring.{plus, times}
use Rattle.replicated_share.specs.declared.pair.Pair.{Pair}

-- the number that servers 0, 1 and 2 share: the sum of the firsts
abbrev pub reveal_of : Pair → Pair → Pair → ℕ
reveal_of p0 p1 p2 = plus (plus p0.first p1.first) p2.first

-- the sum of two pairs
abbrev pub added_pair : Pair → Pair → Pair
added_pair a b = record { first = plus a.first b.first; second = plus a.second b.second }

-- a pair times a factor
abbrev pub scaled_pair : ℕ → Pair → Pair
scaled_pair by a = record { first = times a.first by; second = times a.second by }

-- what a server with these two lists has at a place
abbrev pub pair_at : List ℕ → List ℕ → ℕ → Pair
pair_at first second i = record { first = slice_index first i; second = slice_index second i }
