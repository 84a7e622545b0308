-- Parts of zero that are added to a list in two pieces.
use Rattle.std.proofs.Common.{◌≡◌, ◌∙◌, sym, ap, ℕ, ◌+◌, List, ◌++◌, length, length-append, arith}
use Rattle.list_facts.specs.Listed.{listed}
use Rattle.list_facts.proofs.Listed.{length-listed, listed-append, listed_same}
use Rattle.query_plan.specs.KeyMessages.{KeysRead}
use Rattle.ring128.specs.Ring.{sums}
use Rattle.replicated_share.proofs.Sharing.{sums-append}
use Rattle.zero_share.specs.Zero.{part_of}
use Rattle.server_rounds.specs.declared.keys.ThreeKeys.{ThreeKeys}
use Rattle.server_rounds.specs.Zeros.{AreZeroed, BothZeroed, zeroed}

pub zeroed-append : (keys : KeysRead) (start : ℕ) (xs ys : List ℕ) → zeroed keys start (xs ++ ys) ≡ zeroed keys start xs ++ zeroed keys (start + length xs) ys
zeroed-append keys start xs ys =
    let part = λ (i : ℕ). part_of keys.own keys.next i in
    let m = length xs in
    let n = length ys in
    ap (λ (k : ℕ). sums (xs ++ ys) (listed k (λ i. part (start + i)))) (length-append xs ys)
    ∙ ap (sums (xs ++ ys)) (listed-append m n (λ i. part (start + i)))
    ∙ ap (λ (l : List ℕ). sums (xs ++ ys) (listed m (λ i. part (start + i)) ++ l))
    (listed_same n (λ i. part (start + (m + i))) (λ i. part (start + m + i)) (λ i h. ap part (omega arith)))
    ∙ sums-append xs (listed m (λ i. part (start + i))) ys (listed n (λ i. part (start + m + i))) (sym (length-listed m _))

pub both_zeroed : (keys : ThreeKeys) (start later : ℕ) (z o t z' o' t' y n w y' n' w' : List ℕ) → later ≡ start + length z → length o ≡ length z → length t ≡ length z
    → AreZeroed keys start z o t z' o' t' → AreZeroed keys later y n w y' n' w' → BothZeroed keys start z o t z' o' t' y n w y' n' w'
both_zeroed keys start later z o t z' o' t' y n w y' n' w' e eo et front back = record {
  at0 = rw (front.at0, back.at0, e) (sym (zeroed-append keys.zero start z y));
  at1 = rw (front.at1, back.at1, e, sym eo) (sym (zeroed-append keys.one start o n));
  at2 = rw (front.at2, back.at2, e, sym et) (sym (zeroed-append keys.two start t w));
}
