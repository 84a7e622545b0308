-- Which pairs of totals are accepted.
use Rattle.std.specs.Prelude.{ℕ, ℤ, ◌≡◌, ◌<◌, ◌^◌, ◌&&◌, ◌==◌, nat_lt, if◌then◌else◌, Result, Ok, Err}
use Rattle.ring128.specs.Ring.{times}
use Rattle.ring128.specs.Signed.{signed_of, size_of}
use Rattle.weighted_check.specs.declared.Altered.{Altered}

-- the weighted total is the key times the total, whose signed reading has a size below 2^63
pub record Accepts (total weighted key : ℕ) : Type 0 where
  pub weighs : weighted ≡ times key total
  pub small : size_of (signed_of total) < 2 ^ 63

-- the total's signed reading where the pair is accepted, else the pair
abbrev pub checked : ℕ → ℕ → ℕ → Result ℤ Altered
checked total weighted key =
    if weighted == times key total && nat_lt (size_of (signed_of total)) (2 ^ 63) then Ok (signed_of total)
    else Err (record { total = total; weighted = weighted })
