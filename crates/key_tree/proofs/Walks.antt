-- Walks from a place down to a leaf.
use Rattle.std.proofs.Common.{◌≡◌, ℕ, suc, ◌+◌, ◌*◌, ◌/◌, ◌%◌, ◌^◌, ◌<◌, List, [], ◌∷◌, ◌++◌, length, set, refl, sym, ap, ◌∙◌, arith}
use Rattle.std.proofs.lemmas.Nat.{mod-pow-add, mod_below, pow_pos, same_from_place, div-mul-add, mod-mul-add}
use native.Mathlib.Nat.{pow-suc}
use Rattle.list_facts.specs.Listed.{listed}
use Rattle.list_facts.proofs.Listed.{listed-append, listed_same}
use Rattle.prg_chacha.specs.declared.side.Side.{Side}
use Rattle.prg_chacha.specs.declared.side.Side.TheVariants.{Left, Right}
use Rattle.key_tree.specs.Tree.{side_at, descend}
use Rattle.key_tree.proofs.Levels.{side_of}

-- the first step, where the number takes a side
pub descend_turn : {L P : Type 0} (below : L → Side → P → P) (l : L) (ls : List L) (k x : ℕ) (side : Side) (p : P)
    → length ls ≡ k → side_at x k ≡ side → descend below (l ∷ ls) x p ≡ descend below ls x (below l side p)
descend_turn below l ls k x side p long e = ap (λ (s : Side). descend below ls x (below l s p)) (ap (side_at x) long ∙ e)

low_bits : (n k : ℕ) → n % 2 ^ suc k ≡ n / 2 ^ k % 2 * 2 ^ k + n % 2 ^ k
low_bits n k = let e : suc k ≡ 1 + k = omega arith in rw e (mod-pow-add n 1 k)

-- a walk looks at as many of the lowest bits as there are levels
descend_low : {L P : Type 0} (below : L → Side → P → P) (ls : List L) (x y : ℕ) (p : P)
    → x % 2 ^ length ls ≡ y % 2 ^ length ls → descend below ls x p ≡ descend below ls y p
descend_low below [] x y p e = refl
descend_low below (l ∷ ls) x y p e =
    let k = length ls in
    let parts = same_from_place (x / 2 ^ k % 2) (x % 2 ^ k) (y / 2 ^ k % 2) (y % 2 ^ k) (2 ^ k) (mod_below x (2 ^ k) (pow_pos k)) (mod_below y (2 ^ k) (pow_pos k))
    (sym (low_bits x k) ∙ e ∙ low_bits y k) in
    descend_turn below l ls k x (side_at y k) p refl (ap side_of parts.0)
    ∙ descend_low below ls x y (below l (side_at y k) p) parts.1

left_at : (k x : ℕ) → x < 2 ^ k → side_at x k ≡ Left
left_at k x h = let e : x / 2 ^ k ≡ 0 = ap (λ n. n / 2 ^ k) (let f : x ≡ 0 * 2 ^ k + x = omega arith in f) ∙ div-mul-add 0 (2 ^ k) x h in ap (λ n. side_of (n % 2)) e

right_at : (k x : ℕ) → x < 2 ^ k → side_at (2 ^ k + x) k ≡ Right
right_at k x h = let e : (2 ^ k + x) / 2 ^ k ≡ 1 = ap (λ n. n / 2 ^ k) (let f : 2 ^ k + x ≡ 1 * 2 ^ k + x = omega arith in f) ∙ div-mul-add 1 (2 ^ k) x h in ap (λ n. side_of (n % 2)) e

same_low : (k x : ℕ) → x < 2 ^ k → (2 ^ k + x) % 2 ^ k ≡ x % 2 ^ k
same_low k x h =
    let f : 2 ^ k + x ≡ 1 * 2 ^ k + x = omega arith in
    let g : x ≡ 0 * 2 ^ k + x = omega arith in
    ap (λ n. n % 2 ^ k) f ∙ mod-mul-add 1 (2 ^ k) x h ∙ sym (ap (λ n. n % 2 ^ k) g ∙ mod-mul-add 0 (2 ^ k) x h)

-- what is read at the leaves below a place: first on its left side, then on its right side
pub leaves_halves : {L P : Type 0} (below : L → Side → P → P) (read : P → ℕ) (l : L) (ls : List L) (p : P)
    → listed (2 ^ length ls) (λ x. read (descend below ls x (below l Left p))) ++ listed (2 ^ length ls) (λ x. read (descend below ls x (below l Right p)))
    ≡ listed (2 ^ length (l ∷ ls)) (λ x. read (descend below (l ∷ ls) x p))
leaves_halves below read l ls p =
    let k = length ls in
    let n : 2 ^ suc k ≡ 2 ^ k + 2 ^ k = omega (arith, pow-suc 2 k) in
    sym
    (ap (λ m. listed m (λ x. read (descend below (l ∷ ls) x p))) n
    ∙ listed-append (2 ^ k) (2 ^ k) (λ x. read (descend below (l ∷ ls) x p))
    ∙ ap (λ xs. xs ++ listed (2 ^ k) (λ x. read (descend below (l ∷ ls) (2 ^ k + x) p)))
    (listed_same (2 ^ k) _ _ (λ x h. ap read (descend_turn below l ls k x Left p refl (left_at k x h))))
    ∙ ap (λ xs. listed (2 ^ k) (λ x. read (descend below ls x (below l Left p))) ++ xs)
    (listed_same (2 ^ k) _ _
    (λ x h. ap read (descend_turn below l ls k (2 ^ k + x) Right p refl (right_at k x h) ∙ descend_low below ls (2 ^ k + x) x (below l Right p) (same_low k x h)))))

-- the values below a leaf: its own
pub values_none : {L P : Type 0} (below : L → Side → P → P) (read : P → ℕ) (ls : List L) (p : P) (to : List ℕ) (v : ℕ)
    → length ls ≡ 0 → length to ≡ 2 ^ length ls → v ≡ read p → set to 0 v ≡ listed (2 ^ length ls) (λ x. read (descend below ls x p))
values_none below read [] p [] v none room e = absurd (omega arith)
values_none below read [] p (t ∷ []) v none room e = ap (λ (u : ℕ). u ∷ []) e
values_none below read [] p (t ∷ u ∷ ts) v none room e = absurd (omega arith)
values_none below read (l ∷ ls) p to v none room e = absurd (omega arith)

-- the values below a place: those below its two children
pub values_some : {L P : Type 0} (below : L → Side → P → P) (read : P → ℕ) (levels rest : List L) (l : L) (p left right : P) (low high : List ℕ)
    → levels ≡ l ∷ rest → left ≡ below l Left p → right ≡ below l Right p
    → low ≡ listed (2 ^ length rest) (λ x. read (descend below rest x left)) → high ≡ listed (2 ^ length rest) (λ x. read (descend below rest x right))
    → low ++ high ≡ listed (2 ^ length levels) (λ x. read (descend below levels x p))
values_some below read levels rest l p left right low high first e f g h =
    ap (λ xs. xs ++ high) (g ∙ ap (λ q. listed (2 ^ length rest) (λ x. read (descend below rest x q))) e)
    ∙ ap (λ xs. listed (2 ^ length rest) (λ x. read (descend below rest x (below l Left p))) ++ xs)
    (h ∙ ap (λ q. listed (2 ^ length rest) (λ x. read (descend below rest x q))) f)
    ∙ leaves_halves below read l rest p
    ∙ ap (λ ls. listed (2 ^ length ls) (λ x. read (descend below ls x p))) (sym first)
