-- What interval keys of any roots do.
use Rattle.std.specs.Prelude.{ℕ, ◌≡◌, ◌<◌, ◌≤◌, ◌^◌, List, length}
use Rattle.prg_chacha.specs.declared.seed.Seed.{Seed}
use Rattle.ring128.specs.Laws.{IsKeyPair}
use Rattle.ring128.specs.declared.party.Party.{Party}
use Rattle.ring128.specs.declared.party.Party.TheVariants.{Zero, One}
use Rattle.key_tree.specs.Seeds.{IsSeed}
use Rattle.interval_keys.specs.Intervals.{inside, interval_key, root_at, value_of}
use Rattle.interval_keys.specs.IntervalWords.{length_of, words_of_key, key_of_words}
use Rattle.interval_keys.specs.Keys.{Key}

-- the values of the two keys add up to the weight from low to high
abbrev pub KeysAddUp : Type 0
KeysAddUp =
    (bits low high weight : ℕ) (roots : List Seed) → low ≤ high → high < 2 ^ bits → weight < 2 ^ 128
    → IsKeyPair bits (value_of (interval_key Zero bits low high weight roots) Zero)
    (value_of (interval_key One bits low high weight roots) One)
    (inside low high weight)

-- a key of `bits` bits that its words give again
pub record IsReadBack (bits : ℕ) (k : Key) : Type 0 where
  pub levels : length k.upper.levels ≡ bits
  pub long : length (words_of_key k) ≡ length_of bits
  pub undone : key_of_words bits (words_of_key k) ≡ k

-- the words of a key give the key again
abbrev pub WordsReadBack : Type 0
WordsReadBack =
    (party : Party) (bits low high weight : ℕ) (roots : List Seed) → ((i : ℕ) → i < 4 → IsSeed (root_at roots i))
    → IsReadBack bits (interval_key party bits low high weight roots)
