-- Places in a journal, and its prefix.
use Rattle.std.proofs.Common.{◌≡◌, ◌≢◌, ◌∙◌, refl, sym, ap, ℕ, zero, suc, ◌+◌, ◌<◌, ◌≤◌, ◌⊎◌, ⊎_elim, Bool, true, false, List, [], ◌∷◌, length, get_or, take, arith}
use Rattle.std.proofs.lemmas.Bool.{cases_order}
use Rattle.std.proofs.lemmas.Bool.Decides.{nat_tests}
use Rattle.std.proofs.lemmas.List.{take_all, take_more}
use Rattle.list_facts.specs.Count.{has, times}
use Rattle.list_facts.proofs.Count.{has_from, has_from_none, has_yes, length_all, times-append}
use Rattle.prefix_log.specs.Laws.{PrefixIsOne}

one_other : (x y : ℕ) → y ≢ x → times x (y ∷ []) ≡ 0
one_other x y ne = grind (arith, nat_tests)

one_same : (x y : ℕ) → y ≡ x → 0 < times x (y ∷ [])
one_same x y e = grind (arith, nat_tests)

-- a place that isn't there yet, and isn't the next one either
pub absent_more : (x : ℕ) (xs : List ℕ) (i : ℕ) → i < length xs → times x (take i xs) ≡ 0 → get_or xs i 0 ≢ x → times x (take (i + 1) xs) ≡ 0
absent_more x xs i h none ne =
    ap (times x) (take_more xs i 0 h) ∙ omega (arith, none, times-append x (take i xs) (get_or xs i 0 ∷ []), one_other x (get_or xs i 0) ne)

pub absent : (x : ℕ) (xs : List ℕ) (i : ℕ) → length xs ≤ i → times x (take i xs) ≡ 0 → has x xs ≡ false
absent x xs i h none = has_from_none x xs (ap (times x) (sym (take_all i xs h)) ∙ none)

pub present : (x : ℕ) (xs : List ℕ) (i : ℕ) → i < length xs → get_or xs i 0 ≡ x → has x xs ≡ true
present x xs i h e = has_from x xs (at xs i h e)
  where
    at : (ys : List ℕ) (k : ℕ) → k < length ys → get_or ys k 0 ≡ x → 0 < times x ys
    at [] k lt is = absurd (omega arith)
    at (y ∷ ys) zero lt is = omega (arith, one_same x y is)
    at (y ∷ ys) (suc k) lt is = omega (arith, at ys k (omega arith) is)

-- places of a journal are at most as many as its entries, so where all below its length are there, that one is not
pub past_all : (xs : List ℕ) → ((k : ℕ) → k < length xs → has k xs ≡ true) → has (length xs) xs ≡ false
past_all xs all = by (has (length xs) xs) refl
  where
    below : has (length xs) xs ≡ true → (k : ℕ) → k < length xs + 1 → 0 < times k xs
    below e k lt = ⊎_elim (λ (same : k ≡ length xs). has_yes k xs (rw same e))
        (λ (other : (k < length xs) ⊎ (length xs < k)). ⊎_elim (λ (less : k < length xs). has_yes k xs (all k less)) (λ (more : length xs < k). absurd (omega arith)) other) (cases_order k (length xs))

    by : (b : Bool) → has (length xs) xs ≡ b → has (length xs) xs ≡ false
    by false e = e
    by true e = absurd (omega (arith, length_all xs (length xs + 1) (below e)))

pub prefix_is_one : PrefixIsOne
prefix_is_one journal m n p q = ⊎_elim (λ (same : m ≡ n). same)
    (λ (other : (m < n) ⊎ (n < m)). ⊎_elim (λ (less : m < n). let yes : has m journal ≡ true = q.below m less in let no : has m journal ≡ false = p.next in absurd cc)
    (λ (more : n < m). let yes : has n journal ≡ true = p.below n more in let no : has n journal ≡ false = q.next in absurd cc) other) (cases_order m n)
