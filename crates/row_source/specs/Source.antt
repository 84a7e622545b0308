-- What a source in memory holds.
use Rattle.std.specs.Prelude.{ℕ, List}

-- a source in memory: the bytes left, the number of the next read, the numbers of the reads that fail, and the faults
pub record Input : Type 0 where
  pub left : List ℕ
  pub number : ℕ
  pub failing : List ℕ
  pub faults : ℕ
