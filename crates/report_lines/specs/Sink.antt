-- What a sink takes, and what a sink in memory holds.
use Rattle.std.specs.Prelude.{ℕ, List, take, Option, Result, MatchResult}
use Rattle.std.specs.Io.KnownBytes.{Appends}

-- a sink in memory: the bytes taken, how many it takes in all, the number of the next put, the numbers of those that fail, and the faults
pub record Output : Type 0 where
  pub taken : List ℕ
  pub room : ℕ
  pub number : ℕ
  pub failing : List ℕ
  pub faults : ℕ

-- known bytes grow by a prefix of the piece
abbrev pub AppendsFront : Option (List ℕ) → Option (List ℕ) → List ℕ → Type 0
AppendsFront old new piece = (n : ℕ) × Appends old new (take n piece)

-- the whole piece was taken where the put succeeded, else a prefix of it
abbrev pub Takes : {T E : Type 0} → Option (List ℕ) → Option (List ℕ) → Result T E → List ℕ → Type 0
Takes old new result piece = MatchResult result (λ _. Appends old new piece) (λ _. AppendsFront old new piece)
