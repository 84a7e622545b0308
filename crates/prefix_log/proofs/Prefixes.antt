-- The prefix of a journal.
use Rattle.std.proofs.Common.{◌≡◌, ◌∙◌, refl, ap, ℕ, zero, suc, ◌+◌, ◌<◌, ◌≤◌, ⊎_elim, Bool, true, false, cond, List, length, arith, below_more}
use Rattle.std.proofs.lemmas.Bool.{cases_lt}
use Rattle.list_facts.specs.Count.{has}
use Rattle.prefix_log.specs.Journal.{IsPrefixOf, PrefixIsLargest, gap_from, prefix}
use Rattle.prefix_log.proofs.Journals.{past_all, prefix_is_one}

-- the first gap from a number on is the prefix, where there is none below that number
gap_is : (more n : ℕ) (journal : List ℕ) → n + more ≡ length journal → ((place : ℕ) → place < n → has place journal ≡ true) → IsPrefixOf journal (gap_from more n journal)
gap_is zero n journal e below =
    let all : n ≡ length journal = omega arith in
    record { below = below; next = ap (λ (m : ℕ). has m journal) all ∙ past_all journal (λ place lt. below place (omega arith)) }
gap_is (suc more) n journal e below =
    by (has n journal) refl (λ there. gap_is more (n + 1) journal (omega arith) (below_more (λ (place : ℕ). has place journal ≡ true) n below there))
  where
    by : (b : Bool) → has n journal ≡ b → (has n journal ≡ true → IsPrefixOf journal (gap_from more (n + 1) journal)) → IsPrefixOf journal (cond b (gap_from more (n + 1) journal) n)
    by true there rest = rest there
    by false missing rest = record { below = below; next = missing }

pub prefix_is_largest : PrefixIsLargest
prefix_is_largest journal = gap_is (length journal) 0 journal (omega arith) (λ place lt. absurd (omega arith))

pub prefix_is : (journal : List ℕ) (n : ℕ) → IsPrefixOf journal n → prefix journal ≡ n
prefix_is journal n is = prefix_is_one journal (prefix journal) n (prefix_is_largest journal) is

-- a journal that has all places of another one has no smaller prefix
pub prefix_grows : (old new : List ℕ) → ((place : ℕ) → has place old ≡ true → has place new ≡ true) → prefix old ≤ prefix new
prefix_grows old new keeps = ⊎_elim (λ (less : prefix new < prefix old).
    let there : has (prefix new) new ≡ true = keeps (prefix new) ((prefix_is_largest old).below (prefix new) less) in
    let gap : has (prefix new) new ≡ false = (prefix_is_largest new).next in absurd cc)
    (λ (most : prefix old ≤ prefix new). most) (cases_lt (prefix new) (prefix old))

-- a journal of places below n has no prefix above n
pub prefix_most : (n : ℕ) (journal : List ℕ) → ((place : ℕ) → has place journal ≡ true → place < n) → prefix journal ≤ n
prefix_most n journal known = ⊎_elim (λ (more : n < prefix journal).
    let below : n < n = known n ((prefix_is_largest journal).below n more) in absurd (omega arith))
    (λ (most : prefix journal ≤ n). most) (cases_lt n (prefix journal))
