-- The journal 0, 1, .., n - 1.
use Rattle.std.proofs.Common.{◌≡◌, ◌∙◌, refl, sym, ap, ℕ, zero, suc, ◌+◌, ◌<◌, ◌≤◌, ⊎_elim, true, false, List, [], ◌∷◌, ◌++◌, length, length-append, arith}
use Rattle.std.proofs.lemmas.Bool.{cases_lt}
use Rattle.std.proofs.lemmas.Bool.Decides.{nat_tests}
use Rattle.std.specs.List.{range_with_len}
use Rattle.list_facts.specs.Count.{times, has}
use Rattle.list_facts.proofs.Count.{times-append, has_from, has_from_none}
use Rattle.waldo_core.specs.Core.{gap_from, prefix}
use Rattle.schedule_play.proofs.Loops.{range_both}

-- the numbers below n, in order
abbrev pub numbers_below : ℕ → List ℕ
numbers_below zero = []
numbers_below (suc n) = numbers_below n ++ n ∷ []

-- the same list, made from its first number on
pub numbers_are : (n : ℕ) → numbers_below n ≡ range_with_len 0 n
numbers_are zero = refl
numbers_are (suc n) =
    let none : 0 + n ≡ n = omega arith in
    let on : n + 1 ≡ suc n = omega arith in
    ap (λ (l : List ℕ). l ++ n ∷ []) (numbers_are n) ∙ ap (λ (m : ℕ). range_with_len 0 n ++ m ∷ []) (sym none)
    ∙ sym (range_both 0 n 1) ∙ ap (range_with_len 0) on

length-numbers_below : (n : ℕ) → length (numbers_below n) ≡ n
length-numbers_below zero = refl
length-numbers_below (suc n) = let r = length-numbers_below n in let a = length-append (numbers_below n) (n ∷ []) in omega arith

times_other : (x n : ℕ) → n < x → times x (n ∷ []) ≡ 0
times_other x n above = grind (arith, nat_tests)

times_same : (x n : ℕ) → x ≡ n → times x (n ∷ []) ≡ 1
times_same x n e = grind (arith, nat_tests)

times_none : (n x : ℕ) → n ≤ x → times x (numbers_below n) ≡ 0
times_none zero x past = refl
times_none (suc n) x past =
    let before = times_none n x (omega arith) in
    let here = times_other x n (omega arith) in
    let both = times-append x (numbers_below n) (n ∷ []) in omega arith

times_some : (n x : ℕ) → x < n → 0 < times x (numbers_below n)
times_some zero x below = absurd (omega arith)
times_some (suc n) x below =
    let both = times-append x (numbers_below n) (n ∷ []) in
    ⊎_elim (λ (less : x < n). let before = times_some n x less in omega arith)
    (λ (more : n ≤ x). let here = times_same x n (omega arith) in omega arith) (cases_lt x n)

-- n is not there
pub missing : (n : ℕ) → has n (numbers_below n) ≡ false
missing n = has_from_none n (numbers_below n) (times_none n n (omega arith))

gap_past : (more n : ℕ) (journal : List ℕ) → ((x : ℕ) → x < n + more → has x journal ≡ true) → gap_from more n journal ≡ n + more
gap_past zero n journal all = omega arith
gap_past (suc more) n journal all =
    let on : n + 1 + more ≡ n + suc more = omega arith in
    rw (all n (omega arith)) (gap_past more (n + 1) journal (λ x below. all x (omega arith)) ∙ on)

-- and the prefix is n
pub prefix-numbers_below : (n : ℕ) → prefix (numbers_below n) ≡ n
prefix-numbers_below n =
    let none : 0 + n ≡ n = omega arith in
    ap (λ (more : ℕ). gap_from more 0 (numbers_below n)) (length-numbers_below n)
    ∙ gap_past n 0 (numbers_below n) (λ x below. has_from x (numbers_below n) (times_some n x (omega arith))) ∙ none
