-- Laws of cutting a text.
use Rattle.std.proofs.lemmas.Bool.{eqb-true, eq-eqb}
use Rattle.std.proofs.Common.{take-append-drop, ◌≡◌, ◌∙◌, ◌++◌, take, sym, refl, ap, ℕ, suc, ◌+◌, ◌<◌, Bool, true, false, eqb, List, [], ◌∷◌, length, drop, get_or, Some, arith, drop-cons, add-one}
use Rattle.std.specs.List.{onto_first}
use Rattle.text_reading.specs.Cut.{cut_at, pieces, pieces_left}

-- the pieces of a text are the first cut, and the pieces of what is left
pub pieces_cut : (mark : ℕ) (bs : List ℕ) → pieces mark bs ≡ (cut_at mark bs).0 ∷ pieces_left mark (cut_at mark bs).1
pieces_cut mark [] = refl
pieces_cut mark (b ∷ bs) = by (eqb b mark) refl (pieces_cut mark bs)
  where
    by : (t : Bool) → eqb b mark ≡ t → pieces mark bs ≡ (cut_at mark bs).0 ∷ pieces_left mark (cut_at mark bs).1
        → pieces mark (b ∷ bs) ≡ (cut_at mark (b ∷ bs)).0 ∷ pieces_left mark (cut_at mark (b ∷ bs)).1
    by true e h = rw e refl
    by false e h = rw (e, h) refl

-- one piece more where there is a mark, and else as many
pub pieces_hit : (mark i : ℕ) (bs : List ℕ) → i < length bs → eqb (get_or bs i 0) mark ≡ true → length (pieces mark (drop i bs)) ≡ length (pieces mark (drop (i + 1) bs)) + 1
pieces_hit mark i bs lt e = rw (drop-cons bs i 0 lt, e) (rw (add-one, add-one) refl)

onto : (x : ℕ) (ps : List (List ℕ)) → 0 < length ps → length (onto_first x ps) ≡ length ps
onto x [] h = absurd (omega (arith, h))
onto x (p ∷ ps) h = refl

-- a text has one piece more than what is left behind its first
pub pieces_fewer : (mark : ℕ) (bs : List ℕ) → length (pieces mark bs) ≡ suc (length (pieces_left mark (cut_at mark bs).1))
pieces_fewer mark bs = ap length (pieces_cut mark bs)

pub some_piece : (mark : ℕ) (bs : List ℕ) → 0 < length (pieces mark bs)
some_piece mark bs = rw (pieces_fewer mark bs) (omega arith)

pub pieces_miss : (mark i : ℕ) (bs : List ℕ) → i < length bs → eqb (get_or bs i 0) mark ≡ false → length (pieces mark (drop i bs)) ≡ length (pieces mark (drop (i + 1) bs))
pieces_miss mark i bs lt e = rw (drop-cons bs i 0 lt, e) (rw add-one (onto (get_or bs i 0) (pieces mark (drop (suc i) bs)) (some_piece mark (drop (suc i) bs))))

-- one byte further
pub cut_hit : (mark i : ℕ) (bs : List ℕ) → i < length bs → eqb (get_or bs i 0) mark ≡ true → cut_at mark (drop i bs) ≡ ([], Some (drop (i + 1) bs))
cut_hit mark i bs lt e = rw (drop-cons bs i 0 lt, e) (rw add-one refl)

pub cut_miss : (mark i : ℕ) (bs : List ℕ) → i < length bs → eqb (get_or bs i 0) mark ≡ false
    → cut_at mark (drop i bs) ≡ (get_or bs i 0 ∷ (cut_at mark (drop (i + 1) bs)).0, (cut_at mark (drop (i + 1) bs)).1)
cut_miss mark i bs lt e = rw (drop-cons bs i 0 lt, e) (rw add-one refl)

onto_append : (x : ℕ) (ps qs : List (List ℕ)) → 0 < length ps → onto_first x (ps ++ qs) ≡ onto_first x ps ++ qs
onto_append x [] qs h = absurd (omega (arith, h))
onto_append x (p ∷ ps) qs h = refl

-- the pieces of what stands on both sides of a mark
pub pieces_append : (mark : ℕ) (xs ys : List ℕ) → pieces mark (xs ++ mark ∷ ys) ≡ pieces mark xs ++ pieces mark ys
pieces_append mark [] ys = let yes : eqb mark mark ≡ true = eq-eqb mark mark refl in rw yes refl
pieces_append mark (x ∷ xs) ys = by (eqb x mark) refl (pieces_append mark xs ys)
  where
    by : (t : Bool) → eqb x mark ≡ t → pieces mark (xs ++ mark ∷ ys) ≡ pieces mark xs ++ pieces mark ys
        → pieces mark (x ∷ xs ++ mark ∷ ys) ≡ pieces mark (x ∷ xs) ++ pieces mark ys
    by true e h = rw (e, h) refl
    by false e h = rw (e, h) (onto_append x (pieces mark xs) (pieces mark ys) (some_piece mark xs))

-- a text without a mark from a place on is one piece there
pub last_miss : (mark i : ℕ) (bs : List ℕ) → i < length bs → eqb (get_or bs i 0) mark ≡ false → pieces mark (drop (i + 1) bs) ≡ drop (i + 1) bs ∷ []
    → pieces mark (drop i bs) ≡ drop i bs ∷ []
last_miss mark i bs lt e h =
    let g : pieces mark (drop (suc i) bs) ≡ drop (suc i) bs ∷ [] = rw add-one at h in
    rw (drop-cons bs i 0 lt, e) (rw g refl)

-- behind its last mark a text has one piece
pub last_hit : (mark i : ℕ) (bs : List ℕ) → i < length bs → eqb (get_or bs i 0) mark ≡ true → pieces mark (drop (i + 1) bs) ≡ drop (i + 1) bs ∷ []
    → pieces mark bs ≡ pieces mark (take i bs) ++ drop (i + 1) bs ∷ []
last_hit mark i bs lt e h =
    let is : get_or bs i 0 ≡ mark = eqb-true (get_or bs i 0) mark e in
    let more : drop i bs ≡ mark ∷ drop (i + 1) bs = drop-cons bs i 0 lt ∙ rw (is, add-one) refl in
    ap (pieces mark) (sym (take-append-drop i bs) ∙ ap (λ (l : List ℕ). take i bs ++ l) more)
    ∙ pieces_append mark (take i bs) (drop (i + 1) bs) ∙ ap (λ (l : List (List ℕ)). pieces mark (take i bs) ++ l) h
