-- What the parts of three servers add up to.
use Rattle.std.specs.Prelude.{ℕ, ◌≡◌}
use Rattle.prg_chacha.specs.declared.seed.Seed.{Seed}
use Rattle.ring128.specs.Ring.{plus}
use Rattle.zero_share.specs.Zero.{part_of}

-- the parts of three servers at one counter add up to 0
abbrev pub PartsOfZero : Type 0
PartsOfZero = (s t u : Seed) (c : ℕ) → plus (plus (part_of s t c) (part_of t u c)) (part_of u s c) ≡ 0
