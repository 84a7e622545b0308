-- What comparison keys of any roots do.
use Rattle.std.specs.Prelude.{ℕ, ◌≡◌, ◌<◌, ◌^◌, length}
use Rattle.prg_chacha.specs.declared.seed.Seed.{Seed}
use Rattle.ring128.specs.Laws.{IsKeyPair}
use Rattle.ring128.specs.declared.party.Party.{Party}
use Rattle.ring128.specs.declared.party.Party.TheVariants.{Zero, One}
use Rattle.key_tree.specs.Keys.{Key}
use Rattle.key_tree.specs.Seeds.{IsSeed}
use Rattle.compare_keys.specs.declared.level.CompareLevel.{CompareLevel}
use Rattle.compare_keys.specs.Compares.{value_of, compare_key, at_most}
use Rattle.compare_keys.specs.CompareWords.{length_of, words_of_key, key_of_words}

-- the values of the two keys add up to the weight at each number that is at most a
abbrev pub KeysAddUp : Type 0
KeysAddUp =
    (bits a weight : ℕ) (r s : Seed) → a < 2 ^ bits → weight < 2 ^ 128
    → IsKeyPair bits (value_of (compare_key Zero bits a weight r s) Zero)
    (value_of (compare_key One bits a weight r s) One) (at_most a weight)

-- a key of `bits` bits that its words give again
pub record IsReadBack (bits : ℕ) (k : Key CompareLevel) : Type 0 where
  pub levels : length k.levels ≡ bits
  pub long : length (words_of_key k) ≡ length_of bits
  pub undone : key_of_words bits (words_of_key k) ≡ k

-- the words of a key give the key again
abbrev pub WordsReadBack : Type 0
WordsReadBack = (party : Party) (bits a weight : ℕ) (r s : Seed) → IsSeed r → IsSeed s
    → IsReadBack bits (compare_key party bits a weight r s)
