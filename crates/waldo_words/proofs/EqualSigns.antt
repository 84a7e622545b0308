-- A text cut at its first mark, in std's words.
use Rattle.std.proofs.Common.{◌≡◌, refl, ℕ, suc, ◌+◌, ◌<◌, Bool, true, false, eqb, List, ◌∷◌, [], length, Option, Some, None, arith, Bor, MatchOption}
use Rattle.std.proofs.lemmas.Str.Pattern.{IsSplitOnceResult, split_once_first}
use Rattle.std.specs.List.{after_first, before_first, position_or_len}
use Rattle.text_reading.specs.Cut.{cut_at}

abbrev pub before : ℕ → List ℕ → ℕ
before mark bs = position_or_len (λ b. eqb b mark) bs

none_more : (mark b : ℕ) (bs : List ℕ) (t : Bool) → eqb b mark ≡ t → (before mark bs ≡ length bs → cut_at mark bs ≡ (bs, None))
    → before mark (b ∷ bs) ≡ suc (length bs) → cut_at mark (b ∷ bs) ≡ (b ∷ bs, None)
none_more mark b bs true h rest e = let long : 0 ≡ suc (length bs) = rw h at e in absurd (omega (arith, long))
none_more mark b bs false h rest e =
    let long : 1 + before mark bs ≡ suc (length bs) = rw h at e in
    let same : cut_at mark bs ≡ (bs, None) = rest (omega (arith, long)) in
    rw (h, same) refl

pub cut_none : (mark : ℕ) (bs : List ℕ) → before mark bs ≡ length bs → cut_at mark bs ≡ (bs, None)
cut_none mark [] e = refl
cut_none mark (b ∷ bs) e = none_more mark b bs (eqb b mark) refl (cut_none mark bs) e

abbrev pub Cuts : ℕ → List ℕ → Type 0
Cuts mark bs = cut_at mark bs ≡ (before_first (λ b. eqb b mark) bs, Some (after_first (λ b. eqb b mark) bs))

some_more : (mark b : ℕ) (bs : List ℕ) (t : Bool) → eqb b mark ≡ t → (before mark bs < length bs → Cuts mark bs)
    → before mark (b ∷ bs) < suc (length bs) → Cuts mark (b ∷ bs)
some_more mark b bs true h rest lt = rw h refl
some_more mark b bs false h rest lt =
    let short : 1 + before mark bs < suc (length bs) = rw h at lt in
    let same : Cuts mark bs = rest (omega (arith, short)) in
    let one : 1 + before mark bs ≡ suc (before mark bs) = omega arith in
    let two : suc (before mark bs) + 1 ≡ suc (before mark bs + 1) = omega arith in
    rw (h, same, one, two) refl

pub cut_some : (mark : ℕ) (bs : List ℕ) → before mark bs < length bs → Cuts mark bs
cut_some mark [] lt = absurd (omega (arith, lt))
cut_some mark (b ∷ bs) lt = some_more mark b bs (eqb b mark) refl (cut_some mark bs) lt

-- what `split_once` gives, and what the cut gives
pub cut_split : (mark : ℕ) (bs : List ℕ) (r : Option (Bor (List ℕ) × Bor (List ℕ))) → IsSplitOnceResult mark bs r → mark < 128
    → MatchOption r (cut_at mark bs ≡ (bs, None)) (λ x. cut_at mark bs ≡ (x.0.now, Some x.1.now))
cut_split mark bs None h lt = cut_none mark bs (split_once_first mark bs None h lt)
cut_split mark bs (Some x) h lt =
    let p = split_once_first mark bs (Some x) h lt in
    rw (p.1, p.2) (cut_some mark bs p.0)
