-- What the check says of a pair.
use Rattle.std.proofs.Common.{◌≡◌, ◌∙◌, refl, ap, ℕ, ℤ, pos, negsuc, ◌-◌, ◌^◌, ◌<◌, inl, inr, arith, eq-eqb}
use Rattle.std.specs.Prelude.{Result, Ok, Err, Bool, true, false, if◌then◌else◌, ◌==◌, ◌&&◌, nat_lt}
use Rattle.std.proofs.lemmas.Bool.{and_parts, cases_lt, eqb-true, le-ltb, lt-ltb, ltb-true}
use Rattle.ring128.specs.Ring.{times}
use Rattle.ring128.specs.Signed.{word_of, signed_of, size_of}
use Rattle.weighted_check.specs.Check.{Accepts, checked}
use Rattle.weighted_check.specs.declared.Altered.{Altered}

-- a number below 2^128 is that of its signed reading
pub word-signed : (word : ℕ) → word < 2 ^ 128 → word_of (signed_of word) ≡ word
word-signed word fits = elim (cases_lt word (2 ^ 127)) [
  | inl h ↦ let read : signed_of word ≡ pos word = rw (lt-ltb word (2 ^ 127) h) refl in ap word_of read ∙ omega (arith, fits)
  | inr h ↦
      let read : signed_of word ≡ negsuc (2 ^ 128 - 1 - word) = rw (le-ltb word (2 ^ 127) h) refl in
      ap word_of read ∙ omega (arith, fits, h)
]

chosen : (total weighted key size : ℕ) (read : ℤ) (other : Altered) → weighted ≡ times key total → size < 2 ^ 63
    → (if weighted == times key total && nat_lt size (2 ^ 63) then Ok read else Err other) ≡ Ok read
chosen total weighted key size read other weighs small =
    rw (weighs, eq-eqb (times key total) (times key total) refl, lt-ltb size (2 ^ 63) small) refl

-- where a pair is accepted the answer is the signed reading of its total
pub accepted : (total weighted key : ℕ) → Accepts total weighted key → checked total weighted key ≡ Ok (signed_of total)
accepted total weighted key a = chosen total weighted key (size_of (signed_of total)) (signed_of total) _ a.weighs a.small

by_test : (total weighted key size : ℕ) (read answer : ℤ) (other : Altered) (b : Bool) → (weighted == times key total && nat_lt size (2 ^ 63)) ≡ b
    → (if b then Ok read else Err other) ≡ Ok answer → (weighted ≡ times key total) × (size < 2 ^ 63) × (answer ≡ read)
by_test total weighted key size read answer other true test e =
    let parts = and_parts (weighted == times key total) (nat_lt size (2 ^ 63)) test in
    (eqb-true weighted (times key total) parts.0, ltb-true size (2 ^ 63) parts.1, cc)
by_test total weighted key size read answer other false test e = absurd cc

-- and where the answer is Ok, the pair is accepted
pub answered : (total weighted key : ℕ) (answer : ℤ) → checked total weighted key ≡ Ok answer → Accepts total weighted key × (answer ≡ signed_of total)
answered total weighted key answer e =
    let size = size_of (signed_of total) in
    let is = by_test total weighted key size (signed_of total) answer _ (weighted == times key total && nat_lt size (2 ^ 63)) refl e in
    (record { weighs = is.0; small = is.1 }, is.2)

other_is : (read : ℤ) (other fault : Altered) (b : Bool) → (if b then Ok read else Err other) ≡ Err fault → fault ≡ other
other_is read other fault true e = absurd cc
other_is read other fault false e = cc

-- what is refused is the pair itself
pub refused : (total weighted key : ℕ) (fault : Altered) → checked total weighted key ≡ Err fault → fault ≡ record { total = total; weighted = weighted }
refused total weighted key fault e = other_is (signed_of total) _ fault _ e

pub never : (total weighted key : ℕ) → ¬ Accepts total weighted key → checked total weighted key ≡ Err (record { total = total; weighted = weighted })
never total weighted key not = by (checked total weighted key) refl
  where
    by : (r : Result ℤ Altered) → checked total weighted key ≡ r → r ≡ Err (record { total = total; weighted = weighted })
    by (Ok answer) e = absurd (not (answered total weighted key answer e).0)
    by (Err fault) e = ap Err (refused total weighted key fault e)
