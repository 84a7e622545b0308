-- Odd factors, and factors that are small, can be cancelled modulo 2^128.
use Rattle.std.proofs.Common.{◌≡◌, ◌≢◌, ℕ, zero, suc, ◌+◌, ◌*◌, ◌/◌, ◌-◌, ◌%◌, ◌^◌, ◌<◌, ◌≤◌, ◌⊎◌, arith, mul-add, inl, inr, sym, ap, ◌∙◌}
use Rattle.std.proofs.Math.Nat.{le-mul_of_pos_right, pow-succ'}
use Rattle.std.proofs.lemmas.Nat.{mul-lt, mul-mod}
use Rattle.std.proofs.lemmas.Bool.{cases_lt}
use Rattle.ring128.specs.Ring.{times}

odd_times : (a d : ℕ) → a % 2 ≡ 1 → (a * d) % 2 ≡ d % 2
odd_times a d odd = mul-mod a d 2 ∙ ap (λ n. (n * (d % 2)) % 2) odd ∙ omega arith

-- a power of two that divides the product with an odd number divides the other factor
pub odd_cancels : (k a d q : ℕ) → a % 2 ≡ 1 → a * d ≡ 2 ^ k * q → (r : ℕ) × (d ≡ 2 ^ k * r)
odd_cancels zero a d q odd e = (d, omega arith)
odd_cancels (suc k) a d q odd e =
    let twice : a * d ≡ 2 * (2 ^ k * q) = omega (arith, e, ap (λ n. n * q) (pow-succ' 2 k)) in
    let even : d % 2 ≡ 0 = omega (arith, twice, odd_times a d odd) in
    let half : d ≡ 2 * (d / 2) = omega (arith, even) in
    let left : a * (d / 2) ≡ 2 ^ k * q = omega (arith, twice, ap (λ n. a * n) half) in
    let r = odd_cancels k a (d / 2) q odd left in
    (r.0, omega (arith, half, r.1, ap (λ n. n * r.0) (pow-succ' 2 k)))

odd_more : (a x k : ℕ) → a % 2 ≡ 1 → x + k < 2 ^ 128 → times a x ≡ times a (x + k) → k ≡ 0
odd_more a x k odd small e =
    let whole : (a * k) % 2 ^ 128 ≡ 0 = omega (arith, e) in
    let r = odd_cancels 128 a k (a * k / 2 ^ 128) odd (omega (arith, whole)) in
    omega (arith, r.1, small)

-- an odd factor can be cancelled
pub odd_factor : (a x y : ℕ) → a % 2 ≡ 1 → x < 2 ^ 128 → y < 2 ^ 128 → times a x ≡ times a y → x ≡ y
odd_factor a x y odd hx hy e = elim (cases_lt x y) [
  | inl h ↦
      let s : y ≡ x + (y - x) = omega arith in
      let z = odd_more a x (y - x) odd (omega arith) (e ∙ ap (times a) s) in omega arith
  | inr h ↦
      let s : x ≡ y + (x - y) = omega arith in
      let z = odd_more a y (x - y) odd (omega arith) (sym e ∙ ap (times a) s) in omega arith
]

-- a small factor that isn't 0 leaves no other small one
none_left : (k d : ℕ) → d ≢ 0 → k < 2 ^ 64 → d < 2 ^ 64 → (k * d) % 2 ^ 128 ≡ 0 → k ≡ 0
none_left k d some hk hd whole =
    let least : k ≤ k * d = le-mul_of_pos_right k (omega arith) in
    let most : k * d < 2 ^ 64 * 2 ^ 64 = mul-lt k d (2 ^ 64) (2 ^ 64) hk hd in
    omega (arith, least, most, whole)

-- a factor that is small, or just below 2^128
abbrev pub IsNear : ℕ → Type 0
IsNear d = (d < 2 ^ 64) ⊎ (2 ^ 128 - d < 2 ^ 64)

none_near : (k d : ℕ) → d ≢ 0 → d < 2 ^ 128 → IsNear d → k < 2 ^ 64 → (k * d) % 2 ^ 128 ≡ 0 → k ≡ 0
none_near k d some hd near hk whole = elim near [
  | inl h ↦ none_left k d some hk h whole
  | inr h ↦
      let back : k * (2 ^ 128 - d) + k * d ≡ k * 2 ^ 128 = sym (mul-add k (2 ^ 128 - d) d) ∙ ap (λ n. k * n) (omega arith) in
      none_left k (2 ^ 128 - d) (omega arith) hk h (omega (arith, back, whole))
]

near_more : (d x k : ℕ) → d ≢ 0 → d < 2 ^ 128 → IsNear d → k < 2 ^ 64 → times x d ≡ times (x + k) d → k ≡ 0
near_more d x k some hd near hk e = none_near k d some hd near hk (omega (arith, e))

-- such a factor can be cancelled from two small numbers
pub near_factor : (d x y : ℕ) → d ≢ 0 → d < 2 ^ 128 → IsNear d → x < 2 ^ 64 → y < 2 ^ 64 → times x d ≡ times y d → x ≡ y
near_factor d x y some hd near hx hy e = elim (cases_lt x y) [
  | inl h ↦
      let s : y ≡ x + (y - x) = omega arith in
      let z = near_more d x (y - x) some hd near (omega arith) (e ∙ ap (λ n. times n d) s) in omega arith
  | inr h ↦
      let s : x ≡ y + (x - y) = omega arith in
      let z = near_more d y (x - y) some hd near (omega arith) (sym e ∙ ap (λ n. times n d) s) in omega arith
]
