-- Parts of zero that are added to words, place by place.
use Rattle.std.proofs.Common.{◌≡◌, ℕ, ◌+◌, ◌<◌, ◌≤◌, List, length, get_or, slice_set, ⊎_elim, sym, ap, ◌∙◌, arith}
use Rattle.std.proofs.lemmas.List.{ext_get_or, get_or-set_other, get_or-set_same, length-set}
use Rattle.std.proofs.lemmas.Bool.{cases_lt}
use Rattle.list_facts.specs.Listed.{listed}
use Rattle.list_facts.proofs.Listed.{length-listed, get_or-listed}
use Rattle.prg_chacha.specs.declared.seed.Seed.{Seed}
use Rattle.prg_chacha.specs.Prg.{pad_of}
use Rattle.ring128.specs.Ring.{plus, minus, sums}
use Rattle.ring128.proofs.Laws.{length-sums, get_or-sums}
use Rattle.zero_share.specs.Zero.{part_of, parts_of}

-- the words before place i have their parts, and the others are as they were
pub record AreAdded (own next : Seed) (start i : ℕ) (old now : List ℕ) : Type 0 where
  pub long : length now ≡ length old
  pub added : (k : ℕ) → k < i → get_or now k 0 ≡ plus (get_or old k 0) (part_of own next (start + k))
  pub left : (k : ℕ) → i ≤ k → get_or now k 0 ≡ get_or old k 0

-- all have their parts
pub added_all : (own next : Seed) (start i : ℕ) (old now : List ℕ) → length old ≤ i → AreAdded own next start i old now
    → now ≡ sums old (parts_of own next start (length old))
added_all own next start i old now b are =
    let n = length old in
    let f = λ (k : ℕ). part_of own next (start + k) in
    let long : n ≡ length (listed n f) = sym (length-listed n f) in
    ext_get_or 0 _ _ (omega (arith, are.long, length-sums old (listed n f) long))
    (λ k h. let d : k < n = omega (arith, are.long) in
    are.added k (omega arith)
    ∙ sym (get_or-sums old (listed n f) k long d ∙ ap (λ (v : ℕ). plus (get_or old k 0) v) (get_or-listed n k f 0 d)))

-- one more has its part
pub added_more : (own next : Seed) (start i : ℕ) (old now : List ℕ) (v : ℕ) → i < length old → AreAdded own next start i old now
    → v ≡ plus (get_or now i 0) (part_of own next (start + i)) → AreAdded own next start (i + 1) old (slice_set now i v)
added_more own next start i old now v b are is =
    let here : get_or (slice_set now i v) i 0 ≡ plus (get_or old i 0) (part_of own next (start + i)) =
    get_or-set_same now i v 0 (omega (arith, are.long)) ∙ (is ∙ ap (λ (n : ℕ). plus n (part_of own next (start + i))) (are.left i (omega arith))) in
    record {
      long = length-set now i v ∙ are.long;
      added = λ k h.
          ⊎_elim
          (λ (d : k < i). get_or-set_other now i k v 0 (λ e. absurd (omega (arith, e))) ∙ are.added k d)
          (λ (d : i ≤ k). let e : k ≡ i = omega arith in rw e here)
          (cases_lt k i);
      left = λ k h. get_or-set_other now i k v 0 (λ e. absurd (omega (arith, e))) ∙ are.left k (omega arith);
    }

-- a part, from the two pads
pub part_is : (own next s t : Seed) (c a b p q v : ℕ) → v ≡ minus p q → p ≡ pad_of s a → q ≡ pad_of t b → s ≡ own → t ≡ next → a ≡ c → b ≡ c
    → v ≡ part_of own next c
part_is own next s t c a b p q v e ep eq es et ea eb = e ∙ rw (ep, eq, es, et, ea, eb)
