-- The upper keys and the lower keys of an interval together.
use Rattle.std.proofs.Common.{◌≡◌, ℕ, zero, suc, ◌+◌, ◌-◌, ◌%◌, ◌^◌, ◌<◌, ◌≤◌, Bool, true, false, cond, ◌&&◌, leb, ⊎_elim, refl, ap, sym, ◌∙◌, arith}
use Rattle.std.proofs.lemmas.Bool.{le-leb, lt-leb, ne_eqb, cases_lt}
use Rattle.ring128.specs.Ring.{plus, minus}
use Rattle.compare_keys.specs.Compares.{at_most}
use Rattle.interval_keys.specs.Intervals.{inside, weight_below}

-- from the low end on nothing is taken away
from_low : (low w x : ℕ) → low ≤ x → at_most (low - 1) (weight_below low w) x ≡ 0
from_low zero w x h = elim (leb x 0) as (λ b. ◌≡◌ {A = ℕ} (cond b 0 0) 0) [ true ↦ refl | false ↦ refl ]
from_low (suc l) w x h =
    let e : suc l - 1 ≡ l = omega arith in
    ap (λ n. cond (leb x n) (weight_below (suc l) w) 0) e ∙ ap (λ b. cond b (weight_below (suc l) w) 0) (lt-leb x l (omega arith))

-- below the low end all is taken away
below_low : (low w x : ℕ) → x < low → at_most (low - 1) (weight_below low w) x ≡ w
below_low zero w x h = absurd (omega arith)
below_low (suc l) w x h =
    let e : suc l - 1 ≡ l = omega arith in
    ap (λ n. cond (leb x n) (weight_below (suc l) w) 0) e
    ∙ ap (λ b. cond b (weight_below (suc l) w) 0) (le-leb x l (omega arith))
    ∙ ap (λ b. cond b 0 w) (ne_eqb (suc l) 0 (λ z. omega arith))

rest : (b : Bool) (w : ℕ) → w < 2 ^ 128 → minus (cond b w 0) 0 ≡ cond b w 0
rest true w h = omega arith
rest false w h = omega arith

gone : (w : ℕ) → minus w w ≡ 0
gone w = omega arith

inside_is : (low high w x : ℕ) → low ≤ high → w < 2 ^ 128
    → minus (at_most high w x) (at_most (low - 1) (weight_below low w) x) ≡ inside low high w x
inside_is low high w x h i =
    ⊎_elim
    (λ below.
    ap (minus (at_most high w x)) (below_low low w x below)
    ∙ ap (λ b. minus (cond b w 0) w) (le-leb x high (omega arith))
    ∙ gone w
    ∙ sym (ap (λ b. cond (b && leb x high) w 0) (lt-leb low x below)))
    (λ from.
    ap (minus (at_most high w x)) (from_low low w x from)
    ∙ rest (leb x high) w i
    ∙ sym (ap (λ b. cond (b && leb x high) w 0) (le-leb low x from)))
    (cases_lt x low)

together : (p q r s : ℕ) → plus (minus p q) (minus r s) ≡ minus (plus p r) (plus q s)
together p q r s = omega arith

-- the values of the two parties add up to the interval, if those of the upper and of the lower keys add up to theirs
pub interval_adds_up : (low high w x u0 u1 l0 l1 : ℕ) → low ≤ high → w < 2 ^ 128
    → plus u0 u1 ≡ at_most high w x → plus l0 l1 ≡ at_most (low - 1) (weight_below low w) x
    → plus (minus u0 l0) (minus u1 l1) ≡ inside low high w x
interval_adds_up low high w x u0 u1 l0 l1 h i e f =
    together u0 l0 u1 l1
    ∙ ap (λ n. minus n (plus l0 l1)) e
    ∙ ap (minus (at_most high w x)) f
    ∙ inside_is low high w x h i
