-- Which shifts pass the check.
use Rattle.std.proofs.Common.{◌≡◌, ◌≢◌, ℕ, ℤ, pos, negsuc, ◌+◌, ◌-◌, ◌%◌, ◌^◌, ◌<◌, ◌⊎◌, inl, inr, arith, SFits, w64, refl, sym, ap, ◌∙◌}
use Rattle.std.proofs.lemmas.Bool.{cases_lt, lt-ltb, le-ltb}
use Rattle.ring128.specs.Ring.{plus, times}
use Rattle.ring128.specs.Signed.{word_of, signed_of, size_of}
use Rattle.ring128.proofs.Laws.{inward, times_assoc}
use Rattle.weighted_check.specs.Shifts.{Passes, shifted_total}
use Rattle.weighted_check.proofs.Odd.{IsNear, odd_factor, near_factor}

keyed : (plain d key : ℕ) → times key (plus plain d) ≡ plus (times key plain) (times key d)
keyed plain d key = simp inward (omega arith)

-- a pair that passes
pub passing : (plain : ℤ) (d e key : ℕ) → e < 2 ^ 128 → Passes plain d e key → e ≡ times key d
passing plain d e key he p = omega (arith, p.weighs, keyed (word_of plain) d key)

pub passed : (plain : ℤ) (d e key : ℕ) → e ≡ times key d → size_of (signed_of (shifted_total plain d)) < 2 ^ 63 → Passes plain d e key
passed plain d e key same small = record { weighs = rw same (sym (keyed (word_of plain) d key)); small = small }

-- the total alone, or the weighted total alone
pub total_alone : (plain : ℤ) (d e key : ℕ) → d < 2 ^ 128 → key % 2 ≡ 1 → d ≢ 0 → e ≡ 0 → Passes plain d e key → ⊥
total_alone plain d e key hd odd some none p =
    some (odd_factor key d 0 odd hd (omega arith) (sym (passing plain d e key (omega arith) p) ∙ none ∙ omega arith))

pub weighted_alone : (plain : ℤ) (d e key : ℕ) → e < 2 ^ 128 → d ≡ 0 → e ≢ 0 → Passes plain d e key → ⊥
weighted_alone plain d e key he none some p = some (passing plain d e key he p ∙ ap (times key) none ∙ omega arith)

-- a number whose signed reading is small is small, or just below 2^128
small_reading : (word : ℕ) → size_of (signed_of word) < 2 ^ 63 → (word < 2 ^ 63) ⊎ (2 ^ 128 - 2 ^ 63 < word)
small_reading word small = elim (cases_lt word (2 ^ 127)) [
  | inl h ↦
      let size : size_of (signed_of word) ≡ word = rw (lt-ltb word (2 ^ 127) h) refl in inl (omega (arith, size, small))
  | inr h ↦
      let size : size_of (signed_of word) ≡ 2 ^ 128 - 1 - word + 1 = rw (le-ltb word (2 ^ 127) h) refl in
      inr (omega (arith, size, small))
]

-- so is the difference of two such numbers
near_between : (from d : ℕ) → d < 2 ^ 128 → (from < 2 ^ 63) ⊎ (2 ^ 128 - 2 ^ 63 - 1 < from) → from < 2 ^ 128
    → (plus from d < 2 ^ 63) ⊎ (2 ^ 128 - 2 ^ 63 < plus from d) → IsNear d
near_between from d hd start short end = elim (cases_lt d (2 ^ 64)) [
  | inl h ↦ inl h
  | inr h ↦ inr (omega (arith, start, end))
]

-- and the word of a number of 64 bits
word_near : (plain : ℤ) → SFits w64 plain → (word_of plain < 2 ^ 63) ⊎ (2 ^ 128 - 2 ^ 63 - 1 < word_of plain)
word_near (pos n) fits = inl (omega (arith, fits.sfits))
word_near (negsuc n) fits = inr (omega (arith, fits.sfits))

word_below : (plain : ℤ) → word_of plain < 2 ^ 128
word_below (pos n) = omega arith
word_below (negsuc n) = omega arith

-- one weight, the others being what they are
pub same_weight : (plain : ℤ) (d e others first second : ℕ) → SFits w64 plain → d < 2 ^ 128 → e < 2 ^ 128 → first < 2 ^ 64 → second < 2 ^ 64
    → d ≢ 0 → others % 2 ≡ 1 → Passes plain d e (times others first) → Passes plain d e (times others second) → first ≡ second
same_weight plain d e others first second hp hd he hf hs some odd p q =
    let same : times others (times first d) ≡ times others (times second d) =
    sym (times_assoc others first d) ∙ sym (passing plain d e (times others first) he p)
    ∙ passing plain d e (times others second) he q ∙ times_assoc others second d in
    let near = near_between (word_of plain) d hd (word_near plain hp) (word_below plain) (small_reading (shifted_total plain d) p.small) in
    near_factor d first second some hd near hf hs (odd_factor others (times first d) (times second d) odd (omega arith) (omega arith) same)
