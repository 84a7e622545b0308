-- How often an element stands in a list, and sums over lists.
use Rattle.std.proofs.Common.{◌≡◌, ℕ, zero, suc, ◌+◌, ◌<◌, ◌≤◌, true, false, List, [], ◌∷◌, ◌++◌, length, set, sym, ap, ◌∙◌, arith}
use Rattle.std.proofs.lemmas.Bool.Decides.{nat_tests}
use mathlib.Core.Option.{some, some-injective, some-ne-none}
use mathlib.Core.Logic.{dite}
use native.Mathlib.Decide.{ℕ_discrete}
use lib.ListN.{get_elem?}
use Rattle.list_facts.specs.Count.{total, times, once_below, has}

module _ {A : Type 0} (f : A → ℕ) where
  pub total-append : (xs ys : List A) → total f (xs ++ ys) ≡ total f xs + total f ys
  total-append [] ys = omega arith
  total-append (x ∷ xs) ys = let r = total-append xs ys in omega arith

  pub total-set : (xs : List A) (i : ℕ) (v w : A) → get_elem? xs i ≡ some v → total f (set xs i w) + f v ≡ total f xs + f w
  total-set [] i v w e = absurd (some-ne-none v (sym e))
  total-set (x ∷ xs) zero v w e = let is : f x ≡ f v = ap f (some-injective x v e) in omega arith
  total-set (x ∷ xs) (suc i) v w e = let r = total-set xs i v w e in omega arith

  -- one of the summands
  pub total_has : (xs : List A) (i : ℕ) (v : A) → get_elem? xs i ≡ some v → f v ≤ total f xs
  total_has [] i v e = absurd (some-ne-none v (sym e))
  total_has (x ∷ xs) zero v e = let is : f x ≡ f v = ap f (some-injective x v e) in omega arith
  total_has (x ∷ xs) (suc i) v e = let r = total_has xs i v e in omega arith

pub times-append : (x : ℕ) (xs ys : List ℕ) → times x (xs ++ ys) ≡ times x xs + times x ys
times-append x [] ys = omega arith
times-append x (y ∷ xs) ys = let r = times-append x xs ys in omega arith

pub once_below-more : (x n : ℕ) → once_below x (n + 1) ≡ once_below x n + times x (n ∷ [])
once_below-more x n = grind (arith, nat_tests)

pub once_below_rises : (x m n : ℕ) → m ≤ n → once_below x m ≤ once_below x n
once_below_rises x m n le = grind (arith, nat_tests)

pub once_below_most : (x n : ℕ) → once_below x n ≤ 1
once_below_most x n = grind (arith, nat_tests)

-- two counts that are at most 1 together, and none past its own bound
pub once_below_both : (x m n k a b : ℕ) → m ≤ k → n ≤ k → a ≤ once_below x m → b ≤ once_below x n → a + b ≤ 1 → a + b ≤ once_below x k
once_below_both x m n k a b le le' p q one = grind (arith, nat_tests)

-- what g gives at 0 .. n - 1, added up
abbrev sum_below : (ℕ → ℕ) → ℕ → ℕ
sum_below g zero = 0
sum_below g (suc n) = sum_below g n + g n

sum_below_none : (n : ℕ) → sum_below (λ x. 0) n ≡ 0
sum_below_none zero = omega arith
sum_below_none (suc n) = let r = sum_below_none n in omega arith

once_below-next : (y n : ℕ) → once_below y n + times n (y ∷ []) ≡ once_below y (suc n)
once_below-next y n = grind (arith, nat_tests)

once_below_none : (y : ℕ) → once_below y 0 ≡ 0
once_below_none y = grind (arith, nat_tests)

sum_below-cons : (y : ℕ) (ys : List ℕ) (n : ℕ) → sum_below (λ x. times x (y ∷ ys)) n ≡ once_below y n + sum_below (λ x. times x ys) n
sum_below-cons y ys zero = omega (arith, once_below_none y)
sum_below-cons y ys (suc n) = let r = sum_below-cons y ys n in let e = once_below-next y n in omega arith

once_at : (y n : ℕ) (k : ℕ) → times y (y ∷ []) + k ≤ once_below y n → once_below y n ≡ 1
once_at y n k le = grind (arith, nat_tests)

counted : (xs : List ℕ) (n : ℕ) → ((x : ℕ) → times x xs ≤ once_below x n) → sum_below (λ x. times x xs) n ≡ length xs
counted [] n once = sum_below_none n
counted (y ∷ ys) n once =
    let r = counted ys n (λ x. let o = once x in omega arith) in
    let here : once_below y n ≡ 1 = once_at y n (times y ys) (let o = once y in omega arith) in
    let e = sum_below-cons y ys n in omega arith

sum_below_counts : (xs : List ℕ) (n : ℕ) → sum_below (λ x. times x xs) n ≤ length xs
sum_below_counts [] n = let e = sum_below_none n in omega arith
sum_below_counts (y ∷ ys) n = let r = sum_below_counts ys n in let e = sum_below-cons y ys n in let m = once_below_most y n in omega arith

sum_below_least : (g : ℕ → ℕ) (n : ℕ) → ((x : ℕ) → x < n → 0 < g x) → n ≤ sum_below g n
sum_below_least g zero each = omega arith
sum_below_least g (suc n) each = let r = sum_below_least g n (λ x lt. each x (omega arith)) in let h = each n (omega arith) in omega arith

sum_below_most : (g : ℕ → ℕ) (n : ℕ) → ((x : ℕ) → g x ≤ 1) → sum_below g n ≤ n
sum_below_most g zero most = omega arith
sum_below_most g (suc n) most = let r = sum_below_most g n most in let h = most n in omega arith

sum_below_full : (g : ℕ → ℕ) (n : ℕ) → ((x : ℕ) → g x ≤ 1) → n ≤ sum_below g n → (x : ℕ) → x < n → g x ≡ 1
sum_below_full g zero most all x lt = absurd (omega arith)
sum_below_full g (suc n) most all x lt =
    let rest = sum_below_most g n most in
    let here = most n in
    dite (ℕ_discrete x n) (λ e. ap g e ∙ (let l : g n ≡ 1 = omega arith in l)) (λ ne. sum_below_full g n most (omega arith) x (omega arith))

-- places below n, each once, are at most n
pub length_once : (xs : List ℕ) (n : ℕ) → ((x : ℕ) → times x xs ≤ once_below x n) → length xs ≤ n
length_once xs n once =
    let e = counted xs n once in
    let m = sum_below_most (λ x. times x xs) n (λ x. let o = once x in let b = once_below_most x n in omega arith) in omega arith

-- and where they are as many as n, each number below n is one of them
pub times-once : (xs : List ℕ) (n : ℕ) → ((x : ℕ) → times x xs ≤ once_below x n) → n ≤ length xs → (x : ℕ) → x < n → times x xs ≡ 1
times-once xs n once all x lt =
    let e = counted xs n once in
    sum_below_full (λ y. times y xs) n (λ y. let o = once y in let b = once_below_most y n in omega arith) (omega arith) x lt

-- a list in which each number below n stands has at least n entries
pub length_all : (xs : List ℕ) (n : ℕ) → ((x : ℕ) → x < n → 0 < times x xs) → n ≤ length xs
length_all xs n all =
    let l = sum_below_least (λ x. times x xs) n all in
    let c = sum_below_counts xs n in omega arith

pub has_yes : (x : ℕ) (xs : List ℕ) → has x xs ≡ true → 0 < times x xs
has_yes x xs e = grind (arith, nat_tests)

pub has_no : (x : ℕ) (xs : List ℕ) → has x xs ≡ false → times x xs ≡ 0
has_no x xs e = grind (arith, nat_tests)

pub has_from : (x : ℕ) (xs : List ℕ) → 0 < times x xs → has x xs ≡ true
has_from x xs e = grind (arith, nat_tests)

pub has_from_none : (x : ℕ) (xs : List ℕ) → times x xs ≡ 0 → has x xs ≡ false
has_from_none x xs e = grind (arith, nat_tests)
