-- Parts of zero at the three servers.
use Rattle.std.specs.Prelude.{ℕ, ◌≡◌, ◌<◌, ◌+◌, ◌^◌, List, ◌++◌, length}
use Rattle.ring128.specs.Ring.{sums}
use Rattle.query_plan.specs.KeyMessages.{KeysRead}
use Rattle.zero_share.specs.Zero.{parts_of}
use Rattle.server_rounds.specs.declared.keys.ThreeKeys.{ThreeKeys}

-- a server's numbers, each with its part of zero; the counters begin at start
abbrev pub zeroed : KeysRead → ℕ → List ℕ → List ℕ
zeroed keys start numbers = sums numbers (parts_of keys.own keys.next start (length numbers))

-- lists of one length, and counters for their places
pub record CanZero (start : ℕ) (zero one two : List ℕ) : Type 0 where
  pub long1 : length one ≡ length zero
  pub long2 : length two ≡ length zero
  pub counters : start + length zero < 2 ^ 64

-- the lists of the three servers before and after
pub record AreZeroed (keys : ThreeKeys) (start : ℕ) (zero one two zero' one' two' : List ℕ) : Type 0 where
  pub at0 : zero' ≡ zeroed keys.zero start zero
  pub at1 : one' ≡ zeroed keys.one start one
  pub at2 : two' ≡ zeroed keys.two start two

-- each list is given in two pieces
abbrev pub BothZeroed : ThreeKeys → ℕ → List ℕ → List ℕ → List ℕ → List ℕ → List ℕ → List ℕ
    → List ℕ → List ℕ → List ℕ → List ℕ → List ℕ → List ℕ → Type 0
BothZeroed keys start z o t z' o' t' y n w y' n' w' =
    AreZeroed keys start (z ++ y) (o ++ n) (t ++ w) (z' ++ y') (o' ++ n') (t' ++ w')
