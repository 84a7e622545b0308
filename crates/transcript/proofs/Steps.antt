-- What three servers hold after each step, over plain lists.
use Rattle.std.proofs.Common.{◌≡◌, ℕ, zero, suc, ◌+◌, ◌*◌, ◌-◌, ◌%◌, ◌^◌, ◌<◌, ◌≤◌, ltb, ⊎_elim, Bool, true, false, cond, ◌&&◌, ℤ, pos, negsuc, ◌+ℤ◌, List, [], ◌∷◌, length, get_or, map, refl, sym, ap, ◌∙◌, arith, eqb}
use Rattle.std.specs.List.{flat_map, list_all, count_by, filter}
use Rattle.std.proofs.lemmas.Bool.{cases_Bool}
use Rattle.std.proofs.lemmas.List.Sums.{sum_by-cons, length-filter}
use Rattle.std.proofs.lemmas.List.{get_or-map, length-map}
use Rattle.std.proofs.lemmas.List.Folds.{list_all-append}
use Rattle.prg_chacha.specs.declared.seed.Seed.{Seed}
use Rattle.prg_chacha.specs.Prg.{pad_of}
use Rattle.ring128.specs.Ring.{plus, minus, times, dot_of, sums, total_of}
use Rattle.ring128.proofs.Laws.{inward, listed_add_up}
use Rattle.list_facts.specs.Listed.{listed}
use Rattle.zero_share.specs.Zero.{part_of}
use Rattle.ring128.specs.Ring.{sums3}
use Rattle.ring128.specs.Laws.{IsThree}
use Rattle.list_facts.proofs.Listed.{listed_more}
use Rattle.table_schema.specs.declared.rows.Row.{Row}
use Rattle.ring128.specs.Signed.{word_of}
use Rattle.query_plan.specs.declared.query.Predicate.{Predicate}
use Rattle.transcript.specs.Plain.{sum_of}
use Rattle.query_plan.specs.Views.{key_from}
use Rattle.scan_chunks.specs.Pieces.{row_of}
use Rattle.transcript.proofs.Sums.{bits_add_up, dot_of-code, row_of-sums3, row_of-flat_map, length-row_of}

-- a server's words of the bits of a column, from its tables, its shares and its seeds of zero
abbrev pub bits_shares : ℕ → ℕ → List ℕ → List ℕ → List ℕ → List ℕ → Seed → Seed → ℕ → List ℕ
bits_shares n w a b x y s t start = listed n (λ i. plus (plus (dot_of a (row_of w i x)) (dot_of b (row_of w i y))) (part_of s t (start + i)))

pub bits_of_rows : (n w start : ℕ) (a0 a1 a2 b0 b1 b2 x y z : List ℕ) (s t u : Seed) (rows : List Row) (code : Row → List ℕ) (f : ℕ → ℕ) (bucket : Row → ℕ) (d : Row)
    → n ≡ length rows → IsThree w a0 a1 a2 → IsThree w b0 b1 b2 → IsThree (n * w) x y z
    → sums a0 b2 ≡ listed w f → sums a1 b0 ≡ listed w f → sums a2 b1 ≡ listed w f
    → sums3 x y z ≡ flat_map code rows → ((row : Row) → length (code row) ≡ w)
    → ((row : Row) → code row ≡ listed w (λ (c : ℕ). cond (eqb c (bucket row)) 1 0))
    → ((i : ℕ) → i < n → bucket (get_or rows i d) < w)
    → sums3 (bits_shares n w a0 b0 x y s t start) (bits_shares n w a1 b1 y z t u start) (bits_shares n w a2 b2 z x u s start)
    ≡ map (λ row. f (bucket row) % 2 ^ 128) rows
bits_of_rows n w start a0 a1 a2 b0 b1 b2 x y z s t u rows code f bucket d en ta tb tx e0 e1 e2 whole long is_code within =
    listed_add_up n _ _ _ _ (length-map rows (λ (row : Row). f (bucket row) % 2 ^ 128) ∙ sym en)
    (λ i h.
    let k : i < length rows = omega arith in
    let rx : IsThree w (row_of w i x) (row_of w i y) (row_of w i z) = record {
      first = length-row_of w i n x tx.first h;
      second = length-row_of w i n y tx.second h;
      third = length-row_of w i n z tx.third h;
    } in
    bits_add_up w a0 a1 a2 b0 b1 b2 (row_of w i x) (row_of w i y) (row_of w i z) (listed w f) (pad_of s (start + i)) (pad_of t (start + i)) (pad_of u (start + i)) ta tb rx e0 e1 e2
    ∙ ap (λ (l : List ℕ). dot_of (listed w f) l)
    (sym (row_of-sums3 w i x y z) ∙ ap (λ (l : List ℕ). row_of w i l) whole ∙ row_of-flat_map code w long rows i d k ∙ is_code (get_or rows i d))
    ∙ dot_of-code f (bucket (get_or rows i d)) w (within i h)
    ∙ sym (get_or-map (λ (row : Row). f (bucket row) % 2 ^ 128) rows i d 0 k))

-- three parts of zero in an opening
pub openings_add_up : (a b c p q r : ℕ) → plus (plus (plus a (minus p q)) (plus b (minus q r))) (plus c (minus r p)) ≡ plus (plus a b) c
openings_add_up a b c p q r = omega arith

-- the product of the bits of the first predicates
abbrev pub chain_of : (ℕ → Row → ℕ) → ℕ → Row → ℕ
chain_of bit zero row = bit 0 row
chain_of bit (suc j) row = times (chain_of bit j row) (bit (suc j) row)

times_cond : (p q : Bool) (a b : ℕ) → times (cond p a 0) (cond q b 0 % 2 ^ 128) ≡ cond (p && q) (times a b) 0
times_cond true true a b = simp inward (omega arith)
times_cond true false a b = omega arith
times_cond false true a b = omega arith
times_cond false false a b = omega arith

first_cond : (p : Bool) (b : ℕ) → cond p b 0 % 2 ^ 128 ≡ cond p (times 1 b) 0
first_cond true b = omega arith
first_cond false b = omega arith

pub key_from-below : (weights : ℕ → ℕ) (n : ℕ) → key_from weights n < 2 ^ 128
key_from-below weights zero = omega arith
key_from-below weights (suc n) = omega arith

and_true : (p : Bool) → (p && true) ≡ p
and_true true = refl
and_true false = refl

all_more : {X : Type 0} (test : X → Bool) (f : ℕ → X) (n : ℕ) → list_all test (listed (suc n) f) ≡ (list_all test (listed n f) && test (f n))
all_more test f n =
    let e : suc n ≡ n + 1 = omega arith in
    ap (λ (m : ℕ). list_all test (listed m f)) e ∙ ap (list_all test) (sym (listed_more n f))
    ∙ list_all-append test (listed n f) (f n ∷ []) ∙ ap (λ (b : Bool). list_all test (listed n f) && b) (and_true (test (f n)))

-- a row's chain is the key so far where it passes the first predicates
pub chain_is : (at : ℕ → Predicate) (weights : ℕ → ℕ) (inside : Predicate → Row → Bool) (row : Row) (j : ℕ)
    → chain_of (λ i r. cond (inside (at i) r) (weights i) 0 % 2 ^ 128) j row
    ≡ cond (list_all (λ p. inside p row) (listed (suc j) at)) (key_from weights (suc j)) 0
chain_is at weights inside row zero =
    rw (all_more (λ p. inside p row) at 0) (first_cond (inside (at 0) row) (weights 0))
chain_is at weights inside row (suc j) =
    rw (all_more (λ p. inside p row) at (suc j), chain_is at weights inside row j)
    (times_cond (list_all (λ p. inside p row) (listed (suc j) at)) (inside (at (suc j)) row) (key_from weights (suc j)) (weights (suc j)))

plus_times : (b : Bool) (key v n : ℕ) → plus (times (cond b key 0) v) (times key n) ≡ times key (plus (cond b v 0) n)
plus_times true key v n = simp inward (omega arith)
plus_times false key v n = simp inward (omega arith)

plus_one : (b : Bool) (key n : ℕ) → key < 2 ^ 128 → plus (cond b key 0) (times key n) ≡ times key (cond b 1 0 + n)
plus_one true key n h = simp inward (omega arith)
plus_one false key n h = simp inward (omega arith)

-- how many pass, each with the key
pub total_passing : {X : Type 0} (f : X → ℕ) (p : X → Bool) (key : ℕ) → key < 2 ^ 128 → ((x : X) → f x ≡ cond (p x) key 0) → (xs : List X)
    → total_of (map f xs) ≡ times key (length (filter p xs))
total_passing f p key small at [] = omega arith
total_passing f p key small at (x ∷ xs) =
    rw (at x, total_passing f p key small at xs, length-filter p (x ∷ xs), length-filter p xs, sum_by-cons (λ x. cond (p x) 1 0) x xs) (plus_one (p x) key (count_by p xs) small)

pub word_of-below : (a : ℤ) → word_of a < 2 ^ 128
word_of-below (pos a) = omega arith
word_of-below (negsuc a) = omega arith

word_of-cond : (a b : ℕ) → word_of (cond (ltb a b) (negsuc (b - suc a)) (pos (a - b))) ≡ minus a b
word_of-cond a b =
    ⊎_elim
    (λ (yes : ltb a b ≡ true). let less : a < b = grind arith in rw yes (omega arith))
    (λ (no : ltb a b ≡ false). let more : b ≤ a = grind arith in rw no (omega arith))
    (cases_Bool (ltb a b))

-- a sum of signed numbers as a word
pub word_of-plus : (a b : ℤ) → word_of (a +ℤ b) ≡ plus (word_of a) (word_of b)
word_of-plus (pos a) (pos b) = omega arith
word_of-plus (pos a) (negsuc b) = word_of-cond a (suc b) ∙ omega arith
word_of-plus (negsuc a) (pos b) = word_of-cond b (suc a) ∙ omega arith
word_of-plus (negsuc a) (negsuc b) = omega arith

word_more : {X : Type 0} (v : X → ℤ) (b : Bool) (x : X) (xs : List X)
    → plus (cond b (word_of (v x)) 0) (word_of (sum_of (map v xs))) ≡ word_of (sum_of (map v (cond b (x ∷ xs) xs)))
word_more v true x xs = sym (word_of-plus (v x) (sum_of (map v xs)))
word_more v false x xs = omega (arith, word_of-below (sum_of (map v xs)))

-- the values of those that pass, each with the key
pub dot_of_passing : {X : Type 0} (f : X → ℕ) (v : X → ℤ) (p : X → Bool) (key : ℕ) → ((x : X) → f x ≡ cond (p x) key 0) → (xs : List X)
    → dot_of (map f xs) (map (λ x. word_of (v x)) xs) ≡ times key (word_of (sum_of (map v (filter p xs))))
dot_of_passing f v p key at [] = omega arith
dot_of_passing f v p key at (x ∷ xs) =
    rw (at x, dot_of_passing f v p key at xs) (plus_times (p x) key (word_of (v x)) (word_of (sum_of (map v (filter p xs)))) ∙ ap (times key) (word_more v (p x) x (filter p xs)))
