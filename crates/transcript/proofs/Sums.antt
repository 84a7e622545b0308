-- Sums of lists of three servers, without any message.
use Rattle.std.proofs.Common.{◌≡◌, ℕ, zero, suc, ◌+◌, ◌*◌, ◌%◌, ◌^◌, ◌<◌, ◌≤◌, true, false, cond, List, [], ◌∷◌, length, get_or, take, drop, map, refl, sym, ap, ⊎_elim, ◌∙◌, arith, eqb}
use Rattle.std.specs.List.{range_with_len, flat_map}
use Rattle.std.proofs.lemmas.Bool.{eqb-true, eqb-false, cases_Bool}
use Rattle.std.proofs.lemmas.Nat.{mul-le}
use Rattle.std.proofs.Math.Seq.{take-append_seam, drop-append-add}
use Rattle.std.proofs.lemmas.List.{length-take, length-drop}
use Rattle.ring128.specs.Ring.{plus, minus, dot_of, sums, total_of}
use Rattle.ring128.proofs.Laws.{length-sums, dot_of-sums, dot_of-sums3_right}
use Rattle.list_facts.specs.Listed.{listed}
use Rattle.ring128.specs.Ring.{sums3}
use Rattle.ring128.specs.Laws.{IsThree}
use Rattle.scan_chunks.specs.Pieces.{row_of}

total_of-sums : (xs ys : List ℕ) → length xs ≡ length ys → total_of (sums xs ys) ≡ plus (total_of xs) (total_of ys)
total_of-sums [] [] e = refl
total_of-sums [] (y ∷ ys) e = omega arith
total_of-sums (x ∷ xs) [] e = omega arith
total_of-sums (x ∷ xs) (y ∷ ys) e = omega (arith, total_of-sums xs ys (omega arith))

pub total_of-sums3 : (n : ℕ) (xs ys zs : List ℕ) → IsThree n xs ys zs → total_of (sums3 xs ys zs) ≡ plus (plus (total_of xs) (total_of ys)) (total_of zs)
total_of-sums3 n xs ys zs t =
    let e : length xs ≡ length ys = omega arith in
    let f : length (sums xs ys) ≡ length zs = omega (arith, length-sums xs ys e) in
    total_of-sums (sums xs ys) zs f ∙ ap (λ (v : ℕ). plus v (total_of zs)) (total_of-sums xs ys e)

-- the three servers' parts of the bits of a row, from three pairs of tables that add up to one
pub bits_add_up : (w : ℕ) (a0 a1 a2 b0 b1 b2 x y z whole : List ℕ) (p q r : ℕ) → IsThree w a0 a1 a2 → IsThree w b0 b1 b2 → IsThree w x y z
    → sums a0 b2 ≡ whole → sums a1 b0 ≡ whole → sums a2 b1 ≡ whole
    → plus
    (plus (plus (plus (dot_of a0 x) (dot_of b0 y)) (minus p q)) (plus (plus (dot_of a1 y) (dot_of b1 z)) (minus q r)))
    (plus (plus (dot_of a2 z) (dot_of b2 x)) (minus r p))
    ≡ dot_of whole (sums3 x y z)
bits_add_up w a0 a1 a2 b0 b1 b2 x y z whole p q r ta tb tx e0 e1 e2 =
    let f0 : dot_of whole x ≡ plus (dot_of a0 x) (dot_of b2 x) = ap (λ (l : List ℕ). dot_of l x) (sym e0) ∙ dot_of-sums a0 b2 x (omega arith) in
    let f1 : dot_of whole y ≡ plus (dot_of a1 y) (dot_of b0 y) = ap (λ (l : List ℕ). dot_of l y) (sym e1) ∙ dot_of-sums a1 b0 y (omega arith) in
    let f2 : dot_of whole z ≡ plus (dot_of a2 z) (dot_of b1 z) = ap (λ (l : List ℕ). dot_of l z) (sym e2) ∙ dot_of-sums a2 b1 z (omega arith) in
    let g = dot_of-sums3_right w whole x y z tx in
    omega (arith, f0, f1, f2, g)

-- a table at the one place where the code is 1
off_place : (f : ℕ → ℕ) (b a w : ℕ) → b < a
    → dot_of (map f (range_with_len a w)) (map (λ (x : ℕ). cond (eqb x b) 1 0) (range_with_len a w)) ≡ 0
off_place f b a zero h = refl
off_place f b a (suc w) h =
    let no : eqb a b ≡ false = grind arith in
    rw no (omega (arith, off_place f b (a + 1) w (omega arith)))

at_place : (f : ℕ → ℕ) (b a w : ℕ) → a ≤ b → b < a + w
    → dot_of (map f (range_with_len a w)) (map (λ (x : ℕ). cond (eqb x b) 1 0) (range_with_len a w)) ≡ f b % 2 ^ 128
at_place f b a zero h k = omega arith
at_place f b a (suc w) h k =
    ⊎_elim
    (λ (yes : eqb a b ≡ true). let e : a ≡ b = eqb-true a b yes in
    let none = off_place f b (a + 1) w (omega arith) in
    rw yes (omega (arith, none, ap f e)))
    (λ (no : eqb a b ≡ false). let apart : a ≡ b → ⊥ = eqb-false a b no in
    let less : a < b = omega arith in
    rw no (omega (arith, at_place f b (a + 1) w (omega arith) (omega arith))))
    (cases_Bool (eqb a b))

pub dot_of-code : (f : ℕ → ℕ) (b w : ℕ) → b < w → dot_of (listed w f) (listed w (λ (x : ℕ). cond (eqb x b) 1 0)) ≡ f b % 2 ^ 128
dot_of-code f b w h = at_place f b 0 w (omega arith) (omega arith)

-- a row of some columns
take-sums : (k : ℕ) (xs ys : List ℕ) → take k (sums xs ys) ≡ sums (take k xs) (take k ys)
take-sums zero xs ys = refl
take-sums (suc k) [] ys = refl
take-sums (suc k) (x ∷ xs) [] = refl
take-sums (suc k) (x ∷ xs) (y ∷ ys) = ap (λ (l : List ℕ). plus x y ∷ l) (take-sums k xs ys)

sums_none : (xs : List ℕ) → sums xs [] ≡ []
sums_none [] = refl
sums_none (x ∷ xs) = refl

drop-sums : (k : ℕ) (xs ys : List ℕ) → drop k (sums xs ys) ≡ sums (drop k xs) (drop k ys)
drop-sums zero xs ys = refl
drop-sums (suc k) [] ys = refl
drop-sums (suc k) (x ∷ xs) [] = sym (sums_none (drop k xs))
drop-sums (suc k) (x ∷ xs) (y ∷ ys) = drop-sums k xs ys

pub row_of-sums3 : (w i : ℕ) (xs ys zs : List ℕ) → row_of w i (sums3 xs ys zs) ≡ sums3 (row_of w i xs) (row_of w i ys) (row_of w i zs)
row_of-sums3 w i xs ys zs = simp (drop-sums, take-sums)

pub length-row_of : (w i n : ℕ) (xs : List ℕ) → length xs ≡ n * w → i < n → length (row_of w i xs) ≡ w
length-row_of w i n xs e h =
    let fits : (i + 1) * w ≤ n * w = mul-le (i + 1) w n w (omega arith) (omega arith) in
    let more : (i + 1) * w ≡ i * w + w = omega arith in
    omega (arith, length-take w (drop (i * w) xs), length-drop (i * w) xs)

pub row_of-flat_map : {X : Type 0} (f : X → List ℕ) (w : ℕ) → ((x : X) → length (f x) ≡ w) → (xs : List X) (i : ℕ) (d : X) → i < length xs
    → row_of w i (flat_map f xs) ≡ f (get_or xs i d)
row_of-flat_map f w long [] i d h = absurd (omega arith)
row_of-flat_map f w long (x ∷ xs) zero d h =
    let none : zero * w ≡ 0 = omega arith in
    rw (none, ← long x) (take-append_seam (f x) (flat_map f xs))
row_of-flat_map f w long (x ∷ xs) (suc i) d h =
    let next : suc i * w ≡ length (f x) + i * w = omega (arith, long x) in
    rw (next, drop-append-add (f x) (flat_map f xs) (i * w)) (row_of-flat_map f w long xs i d (omega arith))
