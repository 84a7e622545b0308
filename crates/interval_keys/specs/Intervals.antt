-- Keys of an interval, and what they are for.
use Rattle.std.specs.Prelude.{ℕ, ◌-◌, ◌==◌, ◌&&◌, cond, nat_le, List, [], slice_index_or}
use Rattle.prg_chacha.specs.declared.seed.Seed.{Seed}
use Rattle.ring128.specs.Ring.{minus}
use Rattle.ring128.specs.declared.party.Party.{Party}
use Rattle.compare_keys.specs.Compares as compares
use Rattle.interval_keys.specs.Keys.{Key}

-- the weight at each number from low to high, and 0 elsewhere
abbrev pub inside : ℕ → ℕ → ℕ → ℕ → ℕ
inside low high weight x = cond (nat_le low x && nat_le x high) weight 0

-- the value of a party at a number
abbrev pub value_of : Key → Party → ℕ → ℕ
value_of k party x = minus (compares.value_of k.upper party x) (compares.value_of k.lower party x)

-- the weight of the lower key, which is 0 where nothing is below the low end
abbrev pub weight_below : ℕ → ℕ → ℕ
weight_below low weight = cond (low == 0) 0 weight

-- root i of a list
abbrev pub root_at : List Seed → ℕ → Seed
root_at roots i = slice_index_or roots i (record { words = [] })

-- the key of a party for a weight from low to high, from four roots
abbrev pub interval_key : Party → ℕ → ℕ → ℕ → ℕ → List Seed → Key
interval_key party bits low high weight roots = record {
  upper = compares.compare_key party bits high weight (root_at roots 0) (root_at roots 1);
  lower = compares.compare_key party bits (low - 1) (weight_below low weight) (root_at roots 2) (root_at roots 3);
}
