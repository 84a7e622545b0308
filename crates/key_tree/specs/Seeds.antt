-- Seeds that are written as words and read back.
use Rattle.std.specs.Prelude.{ℕ, ◌≡◌, ◌<◌, ◌^◌, length, slice_index}
use Rattle.prg_chacha.specs.declared.seed.Seed.{Seed}
use Rattle.prg_chacha.specs.Prg.{derive_of}

-- a seed of eight words below 2 ^ 32
pub record IsSeed (s : Seed) : Type 0 where
  pub long : length s.words ≡ 8
  pub small : (i : ℕ) → slice_index s.words i < 2 ^ 32

-- each seed that is drawn for other uses is one
abbrev pub DerivedAreSeeds : Type 0
DerivedAreSeeds = (s : Seed) (kind a b : ℕ) → IsSeed (derive_of s kind a b)
