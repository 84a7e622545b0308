-- The weights of a query, and the key.
use Rattle.std.proofs.Common.{◌≡◌, ℕ, zero, suc, ◌+◌, ◌*◌, ◌/◌, ◌%◌, ◌^◌, ◌<◌, refl, sym, ap, ◌∙◌, arith}
use Rattle.std.proofs.lemmas.Nat.{mul-mod_first}
use Rattle.prg_chacha.specs.declared.seed.Seed.{Seed}
use Rattle.prg_chacha.specs.Prg.{derive_of, low_of}
use Rattle.query_plan.specs.Laws.{KeysAreOdd}
use Rattle.query_plan.specs.Seeds.{odd_weight, weights_of}
use Rattle.query_plan.specs.Views.{key_from}

made_small : (n : ℕ) → n % 2 ^ 64 / 2 * 2 + 1 < 2 ^ 128
made_small n = omega arith

made_odd : (n : ℕ) → (n % 2 ^ 64 / 2 * 2 + 1) % 2 ≡ 1
made_odd n = omega arith

pub weight_small : (seed : Seed) (run j : ℕ) → weights_of seed run j < 2 ^ 128
weight_small seed zero j = omega arith
weight_small seed (suc run) j = made_small (low_of (derive_of seed 18 j 0))

odd_product : (a b : ℕ) → a % 2 ≡ 1 → b % 2 ≡ 1 → (a * b) % 2 ≡ 1
odd_product a b p q =
    let one : (1 * b) % 2 ≡ 1 = omega arith in
    sym (mul-mod_first a b 2) ∙ ap (λ (n : ℕ). (n * b) % 2) p ∙ one

odd_reduced : (n : ℕ) → n % 2 ≡ 1 → n % 2 ^ 128 % 2 ≡ 1
odd_reduced n h = omega arith

pub keys_are_odd : KeysAreOdd
keys_are_odd seed zero = refl
keys_are_odd seed (suc n) =
    odd_reduced _ (odd_product (key_from (weights_of seed 1) n) (odd_weight seed n) (keys_are_odd seed n) (made_odd (low_of (derive_of seed 18 n 0))))
