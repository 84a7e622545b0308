-- Lists and functions that add up.
use Rattle.std.specs.Prelude.{ℕ, ◌≡◌, ◌<◌, ◌^◌, List, length}
use Rattle.ring128.specs.Ring.{plus}

-- three lists of one length
pub record IsThree (n : ℕ) (xs ys zs : List ℕ) : Type 0 where
  pub first : length xs ≡ n
  pub second : length ys ≡ n
  pub third : length zs ≡ n

-- two functions that add up to a third at each number of `bits` bits
abbrev pub IsKeyPair : ℕ → (ℕ → ℕ) → (ℕ → ℕ) → (ℕ → ℕ) → Type 0
IsKeyPair bits f g whole = (x : ℕ) → x < 2 ^ bits → plus (f x) (g x) ≡ whole x
