-- What the parts of three servers add up to.
use Rattle.std.proofs.Common.{◌≡◌, ℕ, ◌+◌, ◌<◌, List, [], ◌∷◌, ◌++◌, length, get_or, take, drop, refl, sym, ap, ◌∙◌, arith}
use Rattle.std.proofs.Math.Seq.{take-append_seam}
use Rattle.std.proofs.lemmas.List.{drop_more}
use Rattle.list_facts.proofs.Listed.{length-listed, get_or-listed}
use Rattle.prg_chacha.specs.declared.seed.Seed.{Seed}
use Rattle.prg_chacha.specs.Prg.{pad_of}
use Rattle.ring128.specs.Ring.{plus, minus, times, dot_of, sums, sums3}
use Rattle.ring128.proofs.Laws.{inward, sums-listed, length-sums3, get_or-sums3, listed_add_up, dot_of-below, dot_of-sums3, dot_of-sums3_right}
use Rattle.zero_share.specs.Zero.{parts_of}
use Rattle.share_product.specs.Product.{local_of, locals_of, local_rows_of, inner_of}
use Rattle.share_product.specs.Laws.{LocalsAddUp, RowsAddUp, InnersAddUp, InnersJoin, ReshareShares}

pub locals_add_up : LocalsAddUp
locals_add_up a b c d e f = simp inward (omega arith)

-- the parts of one product, each with a part of zero
product_adds_up : (a b c d e f p q r : ℕ)
    → plus (plus (plus (local_of a b d e) (minus p q)) (plus (local_of b c e f) (minus q r))) (plus (local_of c a f d) (minus r p))
    ≡ times (plus (plus a b) c) (plus (plus d e) f)
product_adds_up a b c d e f p q r = simp inward (omega arith)

pub rows_add_up : RowsAddUp
rows_add_up n start a b c d e f s t u x y =
    rw (x.first, x.second, x.third)
    (listed_add_up n _ _ _ _ (length-listed n _)
    (λ i h.
    simp (get_or-listed, h, get_or-sums3 n i a b c x h, get_or-sums3 n i d e f y h)
    (product_adds_up (get_or a i 0) (get_or b i 0) (get_or c i 0) (get_or d i 0) (get_or e i 0) (get_or f i 0)
    (pad_of s (start + i)) (pad_of t (start + i)) (pad_of u (start + i)))))

pub inners_add_up : InnersAddUp
inners_add_up n a b c d e f x y =
    omega (arith, dot_of-sums3 n a b c (sums3 d e f) x, dot_of-sums3_right n a d e f y, dot_of-sums3_right n b d e f y, dot_of-sums3_right n c d e f y)

dot_of-append : (xs ys us vs : List ℕ) → length xs ≡ length ys → dot_of (xs ++ us) (ys ++ vs) ≡ plus (dot_of xs ys) (dot_of us vs)
dot_of-append [] [] us vs e = omega (arith, dot_of-below us vs)
dot_of-append [] (y ∷ ys) us vs e = absurd (omega arith)
dot_of-append (x ∷ xs) [] us vs e = absurd (omega arith)
dot_of-append (x ∷ xs) (y ∷ ys) us vs e = omega (arith, dot_of-append xs ys us vs (omega arith))

pub inners_join : InnersJoin
inners_join n a a' b b' c c' d d' e0 e1 e2 e3 =
    omega (arith, dot_of-append a b c d (omega arith), dot_of-append a b' c d' (omega arith), dot_of-append a' b c' d (omega arith))

pub reshare_shares : ReshareShares
reshare_shares part n three =
    let long = length-sums3 n (part 0) (part 1) (part 2) three in
    record {
      next = λ k h. refl;
      long = record { first = omega arith; second = omega arith; third = omega arith };
      adds_up = refl;
    }

-- the parts, then the parts of zero
pub rows_with_zero : (a a' b b' : List ℕ) (own next : Seed) (start n : ℕ) → n ≡ length a
    → sums (locals_of a a' b b') (parts_of own next start n) ≡ local_rows_of a a' b b' own next start
rows_with_zero a a' b b' own next start n e = rw e (sums-listed (length a) _ _)

-- the same, where the parts of zero are added to a vector, row by row in place
pub rows_in_place : (a a' b b' : List ℕ) (own next : Seed) (start len : ℕ) (rows lent words : List ℕ)
    → rows ≡ locals_of a a' b b' → len ≡ length rows → lent ≡ rows → words ≡ sums lent (parts_of own next start (length lent))
    → take len (words ++ drop (length words) rows) ≡ local_rows_of a a' b b' own next start
rows_in_place a a' b b' own next start len rows lent words made size same added =
    let long : length rows ≡ length a = ap length made ∙ length-listed (length a) _ in
    let whole : words ≡ local_rows_of a a' b b' own next start = added ∙ rw (same, long, made) (rows_with_zero a a' b b' own next start (length a) refl) in
    let seam : len ≡ length words = size ∙ (long ∙ sym (ap length whole ∙ length-listed (length a) _)) in
    rw seam (take-append_seam words _ ∙ whole)

-- a part of a product by two products
pub local_by_two : (a a' b b' : ℕ) → plus (times a (plus b b')) (times a' b) ≡ local_of a a' b b'
local_by_two a a' b b' = simp inward (omega arith)

-- the sum so far and the part for what is left, one place on
pub inner_of-more : (s t p i : ℕ) (a a' b b' : List ℕ) → length a' ≡ length a → length b ≡ length a → length b' ≡ length a → i < length a
    → t ≡ plus s p → p ≡ local_of (get_or a i 0) (get_or a' i 0) (get_or b i 0) (get_or b' i 0)
    → plus t (inner_of (drop (i + 1) a) (drop (i + 1) a') (drop (i + 1) b) (drop (i + 1) b')) ≡ plus s (inner_of (drop i a) (drop i a') (drop i b) (drop i b'))
inner_of-more s t p i a a' b b' ea eb eb' h e0 e1 =
    rw (e0, e1, drop_more a i 0 h, drop_more a' i 0 (omega arith), drop_more b i 0 (omega arith), drop_more b' i 0 (omega arith)) (omega arith)
