-- The seeds and the weights of a query.
use Rattle.std.specs.Prelude.{ℕ, zero, suc, ◌+◌, ◌*◌, ◌/◌, ◌%◌, ◌^◌, List, [], ◌∷◌}
use Rattle.prg_chacha.specs.Prg.{derive_of, low_of}
use Rattle.prg_chacha.specs.declared.seed.Seed.{Seed}

-- the seed of server k's parts of zero
abbrev pub zero_seed : Seed → ℕ → Seed
zero_seed seed k = derive_of seed 16 k 0

-- the roots of the keys of predicate j for share k in a run: two for the key or an interval's upper one, two for its lower one;
-- of each two, that of party 0 comes first
abbrev pub roots_of : Seed → ℕ → ℕ → ℕ → List Seed
roots_of seed run j k =
    let root = λ (i : ℕ). derive_of seed 17 (4 * run + j) (4 * k + i) in
    root 0 ∷ root 1 ∷ root 2 ∷ root 3 ∷ []

-- the weight of a predicate in run 1: the number of the first two words of its seed, made odd
abbrev pub odd_weight : Seed → ℕ → ℕ
odd_weight seed j = low_of (derive_of seed 18 j 0) % 2 ^ 64 / 2 * 2 + 1

-- the weight of predicate j in a run
abbrev pub weights_of : Seed → ℕ → ℕ → ℕ
weights_of seed zero j = 1
weights_of seed (suc run) j = odd_weight seed j
