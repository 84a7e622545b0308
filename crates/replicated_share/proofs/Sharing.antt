-- What the shares of three servers add up to.
use Rattle.std.proofs.Common.{◌≡◌, ℕ, zero, suc, ◌^◌, ◌<◌, List, [], ◌∷◌, ◌++◌, length, get_or, take, drop, refl, sym, ap, ◌∙◌, arith}
use Rattle.std.proofs.lemmas.List.{length-append, length-take, length-drop}
use Rattle.std.proofs.lemmas.List.Elements.{All-get_or}
use Rattle.list_facts.proofs.Listed.{length-listed}
use Rattle.prg_chacha.specs.declared.seed.Seed.{Seed}
use Rattle.ring128.specs.Ring.{plus, sums, sums3}
use Rattle.ring128.proofs.Laws.{inward, length-sums, get_or-sums3, listed_add_up}
use Rattle.replicated_share.specs.Share.{share_of}
use Rattle.replicated_share.specs.Laws.{SplitShares, SharesReveal, PartsShare, AppendedShare, ScaledReveals}

pub shares_add_up : (s : Seed) (values : List ℕ) → ((i : ℕ) → i < length values → get_or values i 0 < 2 ^ 128)
    → sums3 (share_of 0 s values) (share_of 1 s values) (share_of 2 s values) ≡ values
shares_add_up s values small = listed_add_up (length values) _ _ _ values refl (λ i h. omega (arith, small i h))

pub split_shares : SplitShares
split_shares s values small = record {
  next = λ k h. refl;
  long = record { first = length-listed _ _; second = length-listed _ _; third = length-listed _ _ };
  adds_up = shares_add_up s values (λ i h. All-get_or (λ v. v < 2 ^ 128) values i 0 h small);
}

pub shares_reveal : SharesReveal
shares_reveal first second whole i shares h =
    sym (get_or-sums3 (length whole) i (first 0) (first 1) (first 2) shares.long h) ∙ ap (λ (xs : List ℕ). get_or xs i 0) shares.adds_up

pub scaled_reveals : ScaledReveals
scaled_reveals by a0 a1 a2 = simp inward (omega arith)

-- sums place by place, of parts of lists and of lists one after the other

sums_none : (xs : List ℕ) → sums xs [] ≡ []
sums_none [] = refl
sums_none (x ∷ xs) = refl

take-sums : (k : ℕ) (xs ys : List ℕ) → take k (sums xs ys) ≡ sums (take k xs) (take k ys)
take-sums zero xs ys = refl
take-sums (suc k) [] ys = refl
take-sums (suc k) (x ∷ xs) [] = refl
take-sums (suc k) (x ∷ xs) (y ∷ ys) = ap (λ (l : List ℕ). plus x y ∷ l) (take-sums k xs ys)

drop-sums : (k : ℕ) (xs ys : List ℕ) → drop k (sums xs ys) ≡ sums (drop k xs) (drop k ys)
drop-sums zero xs ys = refl
drop-sums (suc k) [] ys = refl
drop-sums (suc k) (x ∷ xs) [] = sym (sums_none (drop k xs))
drop-sums (suc k) (x ∷ xs) (y ∷ ys) = drop-sums k xs ys

pub sums-append : (xs ys xs' ys' : List ℕ) → length xs ≡ length ys → sums (xs ++ xs') (ys ++ ys') ≡ sums xs ys ++ sums xs' ys'
sums-append [] [] xs' ys' e = refl
sums-append [] (y ∷ ys) xs' ys' e = absurd (omega arith)
sums-append (x ∷ xs) [] xs' ys' e = absurd (omega arith)
sums-append (x ∷ xs) (y ∷ ys) xs' ys' e = ap (λ (l : List ℕ). plus x y ∷ l) (sums-append xs ys xs' ys' (omega arith))

pub parts_share : PartsShare
parts_share first second whole start n shares = record {
  next = λ k h. ap (λ (l : List ℕ). take n (drop start l)) (shares.next k h);
  long = record {
    first = simp (length-take, length-drop, shares.long.first);
    second = simp (length-take, length-drop, shares.long.second);
    third = simp (length-take, length-drop, shares.long.third);
  };
  adds_up = simp (← take-sums, ← drop-sums) (ap (λ (l : List ℕ). take n (drop start l)) shares.adds_up);
}

pub appended_share : AppendedShare
appended_share first second first' second' whole whole' a b =
    let e : length (first 0) ≡ length (first 1) = omega (arith, a.long.first, a.long.second) in
    let f : length (sums (first 0) (first 1)) ≡ length (first 2) = omega (arith, length-sums (first 0) (first 1) e, a.long.first, a.long.third) in
    record {
      next = λ k h. rw (a.next k h, b.next k h) refl;
      long = record {
        first = omega (arith, length-append (first 0) (first' 0), length-append whole whole', a.long.first, b.long.first);
        second = omega (arith, length-append (first 1) (first' 1), length-append whole whole', a.long.second, b.long.second);
        third = omega (arith, length-append (first 2) (first' 2), length-append whole whole', a.long.third, b.long.third);
      };
      adds_up =
          ap (λ (l : List ℕ). sums l (first 2 ++ first' 2)) (sums-append (first 0) (first 1) (first' 0) (first' 1) e)
          ∙ sums-append (sums (first 0) (first 1)) (first 2) (sums (first' 0) (first' 1)) (first' 2) f
          ∙ rw (a.adds_up, b.adds_up) refl;
    }
