-- What the shares of three servers add up to.
use Rattle.std.specs.Prelude.{ℕ, ◌≡◌, ◌<◌, ◌+◌, ◌%◌, ◌^◌, List, ◌++◌, All, length, take, drop, slice_index}
use Rattle.prg_chacha.specs.declared.seed.Seed.{Seed}
use Rattle.ring128.specs.Ring.{plus, times}
use Rattle.replicated_share.specs.declared.pair.Pair.{Pair}
use Rattle.replicated_share.specs.Share.{share_of, AreShares}
use Rattle.replicated_share.specs.Pairs.{reveal_of, pair_at, added_pair, scaled_pair}

-- the shares of a split list, two at each server, are shares of the list
abbrev pub SplitShares : Type 0
SplitShares = (s : Seed) (values : List ℕ) → All (λ v. v < 2 ^ 128) values
    → AreShares (λ k. share_of k s values) (λ k. share_of ((k + 1) % 3) s values) values

-- shares of a list reveal it at each place
abbrev pub SharesReveal : Type 0
SharesReveal =
    (first second : ℕ → List ℕ) (whole : List ℕ) (i : ℕ) → AreShares first second whole → i < length whole
    → reveal_of (pair_at (first 0) (second 0) i) (pair_at (first 1) (second 1) i) (pair_at (first 2) (second 2) i) ≡ slice_index whole i

-- a part of shares is shares of the part
abbrev pub PartsShare : Type 0
PartsShare = (first second : ℕ → List ℕ) (whole : List ℕ) (start n : ℕ) → AreShares first second whole
    → AreShares (λ k. take n (drop start (first k))) (λ k. take n (drop start (second k))) (take n (drop start whole))

-- shares of two lists, one after the other, are shares of the lists one after the other
abbrev pub AppendedShare : Type 0
AppendedShare =
    (first second first' second' : ℕ → List ℕ) (whole whole' : List ℕ)
    → AreShares first second whole → AreShares first' second' whole'
    → AreShares (λ k. first k ++ first' k) (λ k. second k ++ second' k) (whole ++ whole')

-- the sums of pairs reveal the sum
abbrev pub AddedReveals : Type 0
AddedReveals =
    (a0 a1 a2 b0 b1 b2 : Pair)
    → reveal_of (added_pair a0 b0) (added_pair a1 b1) (added_pair a2 b2) ≡ plus (reveal_of a0 a1 a2) (reveal_of b0 b1 b2)

-- the scaled pairs reveal the product with the factor
abbrev pub ScaledReveals : Type 0
ScaledReveals =
    (by : ℕ) (a0 a1 a2 : Pair)
    → reveal_of (scaled_pair by a0) (scaled_pair by a1) (scaled_pair by a2) ≡ times (reveal_of a0 a1 a2) by
