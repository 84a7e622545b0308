-- An integer of a small size is the signed reading of its number.
use Rattle.std.proofs.Common.{◌≡◌, ℕ, ◌+◌, ◌-◌, ◌%◌, ◌^◌, ◌<◌, ◌≤◌, ℤ, pos, negsuc, refl, ap, ◌∙◌, arith}
use Rattle.std.proofs.lemmas.Bool.{lt-ltb, le-ltb}
use Rattle.ring128.specs.Ring.{negative}
use Rattle.ring128.specs.Signed.{word_of, signed_of, size_of}

negative-small : (n : ℕ) → n + 1 < 2 ^ 128 → negative (n + 1) ≡ 2 ^ 128 - 1 - n
negative-small n small = omega (arith, small)

pub signed-word : (z : ℤ) → size_of z < 2 ^ 127 → signed_of (word_of z) ≡ z
signed-word (pos n) small =
    let same : n % 2 ^ 128 ≡ n = omega (arith, small) in
    ap signed_of same ∙ rw (lt-ltb n (2 ^ 127) small) refl
signed-word (negsuc n) small =
    let high : 2 ^ 127 ≤ 2 ^ 128 - 1 - n = omega (arith, small) in
    let back : 2 ^ 128 - 1 - (2 ^ 128 - 1 - n) ≡ n = omega (arith, small) in
    ap signed_of (negative-small n (omega (arith, small))) ∙ rw (le-ltb (2 ^ 128 - 1 - n) (2 ^ 127) high) (ap negsuc back)
