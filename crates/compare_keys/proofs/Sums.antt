-- The two values of a key pair add up to the weight at each number that is at most a.
use Rattle.std.proofs.Common.{◌≡◌, ℕ, zero, suc, ◌+◌, ◌*◌, ◌-◌, ◌/◌, ◌%◌, ◌^◌, ◌<◌, Bool, true, false, not, cond, ◌==◌, List, [], ◌∷◌, ◌++◌, length, append_assoc, append-nil, refl, sym, ap, ⊎_elim, ◌∙◌, arith, leb}
use Rattle.std.proofs.lemmas.Bool.{eqb-true, le-leb, lt-leb, cases_Bool, cases_lt}
use Rattle.std.proofs.lemmas.Nat.{mod_below, mod-pow-add, pow_pos}
use Rattle.std.proofs.Math.Nat.{mod-eq_of_lt}
use Rattle.prg_chacha.specs.declared.seed.Seed.{Seed}
use Rattle.prg_chacha.specs.Prg.{strand_of}
use Rattle.ring128.specs.Ring.{plus, minus, negative}
use Rattle.ring128.specs.declared.party.Party.TheVariants.{Zero, One}
use Rattle.key_tree.specs.declared.node.Node.{Node}
use Rattle.key_tree.specs.Tree.{side_at, other, is_left, step, start, descend, signed, leaf_number, last_for}
use Rattle.key_tree.proofs.Leaves.{leaves_apart}
use Rattle.key_tree.proofs.Levels.{step_lost, step_kept, side_of, side_other}
use Rattle.key_tree.proofs.Walks.{descend_turn}
use Rattle.compare_keys.specs.declared.level.CompareLevel.{CompareLevel}
use Rattle.compare_keys.specs.declared.tally.Tally.{Tally}
use Rattle.compare_keys.specs.Generated.{added, compare_level, levels_of, last_of}
use Rattle.compare_keys.specs.Compares.{value_of, compare_key, at_most, corrected, below, number}

pub length-levels_of : (weight k a v : ℕ) (n m : Node) → length (levels_of weight k a v n m) ≡ k
length-levels_of weight zero a v n m = refl
length-levels_of weight (suc k) a v n m = ap suc (length-levels_of weight k a _ _ _)

-- the levels and the last word below two nodes, one step on
pub levels_of_more : (weight k a v : ℕ) (n m : Node) (done : List CompareLevel) → 0 < k
    → let keep = side_at a (k - 1) in let l = compare_level weight keep v n m in
    (done ++ l ∷ []) ++ levels_of weight (k - 1) a (added keep l.value v n m) (step l.level keep n) (step l.level keep m) ≡ done ++ levels_of weight k a v n m
levels_of_more weight zero a v n m done h = absurd (omega arith)
levels_of_more weight (suc k) a v n m done h = let e : suc k - 1 ≡ k = omega arith in rw e (append_assoc done (_ ∷ []) _)

pub last_of_more : (weight k a v : ℕ) (n m : Node) → 0 < k
    → let keep = side_at a (k - 1) in let l = compare_level weight keep v n m in
    last_of weight (k - 1) a (added keep l.value v n m) (step l.level keep n) (step l.level keep m) ≡ last_of weight k a v n m
last_of_more weight zero a v n m h = absurd (omega arith)
last_of_more weight (suc k) a v n m h = let e : suc k - 1 ≡ k = omega arith in rw e

pub levels_of_none : (weight k a v : ℕ) (n m : Node) (ls whole : List CompareLevel) → k ≡ 0 → ls ++ levels_of weight k a v n m ≡ whole → ls ≡ whole
levels_of_none weight zero a v n m ls whole z e = sym (append-nil ls) ∙ e
levels_of_none weight (suc k) a v n m ls whole z e = absurd (omega arith)

pub last_of_none : (weight k a v l : ℕ) (n m : Node) → k ≡ 0 → last_of weight k a v n m ≡ l → last_of weight 0 a v n m ≡ l
last_of_none weight zero a v l n m z e = e
last_of_none weight (suc k) a v l n m z e = absurd (omega arith)

-- a walk's place
abbrev tally : Node → ℕ → Tally
tally n s = record { node = n; total = s }

-- the number at the end of a walk
abbrev walk : List CompareLevel → ℕ → ℕ → Node → ℕ → ℕ
walk ls last x n s = number last (descend below ls x (tally n s))

regroup : (s c w v : ℕ) → w ≡ plus (plus s c) v → w ≡ plus s (plus (plus 0 c) v)
regroup s c w v e = omega arith

-- what was added before a walk is added to its end
walk_from : (ls : List CompareLevel) (last x : ℕ) (n : Node) (s : ℕ) → walk ls last x n s ≡ plus s (walk ls last x n 0)
walk_from [] last x n s = omega arith
walk_from (l ∷ ls) last x n s =
    let side = side_at x (length ls) in
    let c = corrected l.value n (strand_of n.seed side) in
    let next = step l.level side n in
    regroup s c _ _ (walk_from ls last x next (plus s c)) ∙ ap (plus s) (sym (walk_from ls last x next (plus 0 c)))

-- the kept side: what the parties add is what has been added
kept_apart : (add c d v s t : ℕ) (b u : Bool) → u ≡ not b → v ≡ minus s t
    → plus (plus (minus v d) c) (signed u add) ≡ minus (plus s (plus c (cond b add 0))) (plus t (plus d (cond u add 0)))
kept_apart add c d v s t true true e f = absurd cc
kept_apart add c d v s t true false e f = omega arith
kept_apart add c d v s t false true e f = omega arith
kept_apart add c d v s t false false e f = absurd cc

-- the lost side: what the parties have added is what is wanted there
lost_apart : (w c d v s t : ℕ) (b u : Bool) → u ≡ not b → v ≡ minus s t
    → minus (plus s (plus c (cond b (signed u (plus (minus (minus d c) v) w)) 0))) (plus t (plus d (cond u (signed u (plus (minus (minus d c) v) w)) 0)))
    ≡ w % 2 ^ 128
lost_apart w c d v s t true true e f = absurd cc
lost_apart w c d v s t true false e f = omega arith
lost_apart w c d v s t false true e f = omega arith
lost_apart w c d v s t false false e f = absurd cc

-- the same walk from two sums
same_walk : (s t p q r : ℕ) → p ≡ plus s r → q ≡ plus t r → minus p q ≡ minus s t
same_walk s t p q r e f = omega arith

at_leaves : (s t p q v w : ℕ) → v ≡ minus s t → plus v (minus p q) ≡ w → minus (plus s p) (plus t q) ≡ w
at_leaves s t p q v w e f = omega arith

-- whether a number is at most another at this many lowest bits, by their sides
abbrev pub at_most_path : ℕ → ℕ → ℕ → Bool
at_most_path zero a x = true
at_most_path (suc k) a x = cond (a / 2 ^ k % 2 == x / 2 ^ k % 2) (at_most_path k a x) (a / 2 ^ k % 2 == 1)

lost_left : (p : ℕ) → p < 2 → is_left (other (side_of p)) ≡ (p == 1)
lost_left zero h = refl
lost_left (suc zero) h = refl
lost_left (suc (suc p)) h = absurd (omega arith)

cond_mod : (b : Bool) (w : ℕ) → cond b w 0 % 2 ^ 128 ≡ cond b (w % 2 ^ 128) 0
cond_mod true w = refl
cond_mod false w = omega arith

-- one level on, where the number takes the kept side
turn_same : (weight last k a x v s t : ℕ) (ls : List CompareLevel) (n m : Node) (r : ℕ) → length ls ≡ k → side_at x k ≡ side_at a k
    → (let keep = side_at a k in let l = compare_level weight keep v n m in
    minus (number last (descend below ls x (below l keep (tally n s)))) (number last (descend below ls x (below l keep (tally m t)))) ≡ r)
    → (let l = compare_level weight (side_at a k) v n m in minus (walk (l ∷ ls) last x n s) (walk (l ∷ ls) last x m t) ≡ r)
turn_same weight last k a x v s t ls n m r long taken ih =
    let keep = side_at a k in
    let l = compare_level weight keep v n m in
    ap (λ (u : Tally). minus (number last u) (walk (l ∷ ls) last x m t)) (descend_turn below l ls k x keep (tally n s) long taken)
    ∙ ap (λ (u : Tally). minus (number last (descend below ls x (below l keep (tally n s)))) (number last u)) (descend_turn below l ls k x keep (tally m t) long taken)
    ∙ ih

-- one level on, where the number takes the lost side
turn_other : (weight last k a x v s t : ℕ) (ls : List CompareLevel) (n m : Node) → m.bit ≡ not n.bit → v ≡ minus s t → length ls ≡ k → side_at x k ≡ other (side_at a k)
    → (let l = compare_level weight (side_at a k) v n m in minus (walk (l ∷ ls) last x n s) (walk (l ∷ ls) last x m t))
    ≡ cond (a / 2 ^ k % 2 == 1) (weight % 2 ^ 128) 0
turn_other weight last k a x v s t ls n m e total long taken =
    let keep = side_at a k in
    let lose = other keep in
    let l = compare_level weight keep v n m in
    let s' = plus s (corrected l.value n (strand_of n.seed lose)) in
    let t' = plus t (corrected l.value m (strand_of m.seed lose)) in
    let u = step l.level lose m in
    same_walk s' t' _ _ (walk ls last x u 0)
    (ap (number last) (descend_turn below l ls k x lose (tally n s) long taken)
    ∙ ap (λ (w : Node). walk ls last x w s') (step_lost keep n m e)
    ∙ walk_from ls last x u s')
    (ap (number last) (descend_turn below l ls k x lose (tally m t) long taken) ∙ walk_from ls last x u t')
    ∙ lost_apart (cond (is_left lose) weight 0) (strand_of n.seed lose) (strand_of m.seed lose) v s t n.bit m.bit e total
    ∙ cond_mod (is_left lose) weight
    ∙ ap (λ (b : Bool). cond b (weight % 2 ^ 128) 0) (lost_left (a / 2 ^ k % 2) (mod_below _ 2 (omega arith)))

pub values_at : (weight k a x v s t : ℕ) (n m : Node) → m.bit ≡ not n.bit → v ≡ minus s t
    → minus (walk (levels_of weight k a v n m) (last_of weight k a v n m) x n s) (walk (levels_of weight k a v n m) (last_of weight k a v n m) x m t)
    ≡ cond (at_most_path k a x) (weight % 2 ^ 128) 0
values_at weight zero a x v s t n m e total =
    at_leaves s t (leaf_number (last_for weight v n m) n) (leaf_number (last_for weight v n m) m) v _ total (leaves_apart weight v n m e)
values_at weight (suc k) a x v s t n m e total =
    let keep = side_at a k in
    let l = compare_level weight keep v n m in
    let n' = step l.level keep n in
    let m' = step l.level keep m in
    let v' = added keep l.value v n m in
    let last = last_of weight k a v' n' m' in
    let ls = levels_of weight k a v' n' m' in
    let long = length-levels_of weight k a v' n' m' in
    ⊎_elim
    (λ b. rw b
    (turn_same weight last k a x v s t ls n m _ long (ap side_of (sym (eqb-true _ _ b)))
    (values_at weight k a x v' _ _ n' m' (step_kept keep n m e) (kept_apart l.value (strand_of n.seed keep) (strand_of m.seed keep) v s t n.bit m.bit e total))))
    (λ b. rw b
    (turn_other weight last k a x v s t ls n m e total long
    (side_other _ _ (mod_below _ 2 (omega arith)) (mod_below _ 2 (omega arith)) b)))
    (cases_Bool (a / 2 ^ k % 2 == x / 2 ^ k % 2))

leb_shift : (s x a : ℕ) → leb (s + x) (s + a) ≡ leb x a
leb_shift s x a =
    ⊎_elim
    (λ h. lt-leb (s + x) (s + a) (omega arith) ∙ sym (lt-leb x a h))
    (λ h. le-leb (s + x) (s + a) (omega arith) ∙ sym (le-leb x a h))
    (cases_lt a x)

-- two numbers in order, by a highest bit and what is below it
order_step : (p q t x a : ℕ) → p < 2 → q < 2 → x < t → a < t → leb (q * t + x) (p * t + a) ≡ cond (p == q) (leb x a) (p == 1)
order_step zero zero t x a h i j k = leb_shift (0 * t) x a
order_step zero (suc zero) t x a h i j k = lt-leb (1 * t + x) (0 * t + a) (omega arith)
order_step (suc zero) zero t x a h i j k = le-leb (0 * t + x) (1 * t + a) (omega arith)
order_step (suc zero) (suc zero) t x a h i j k = leb_shift (1 * t) x a
order_step (suc (suc p)) q t x a h i j k = absurd (omega arith)
order_step p (suc (suc q)) t x a h i j k = absurd (omega arith)

low_bits : (n k : ℕ) → n % 2 ^ suc k ≡ n / 2 ^ k % 2 * 2 ^ k + n % 2 ^ k
low_bits n k = let e : suc k ≡ 1 + k = omega arith in rw e (mod-pow-add n 1 k)

at_most_path_is : (k a x : ℕ) → at_most_path k a x ≡ leb (x % 2 ^ k) (a % 2 ^ k)
at_most_path_is zero a x = sym (le-leb (x % 1) (a % 1) (omega arith))
at_most_path_is (suc k) a x =
    rw (low_bits x k, low_bits a k, at_most_path_is k a x)
    (sym (order_step (a / 2 ^ k % 2) (x / 2 ^ k % 2) (2 ^ k) (x % 2 ^ k) (a % 2 ^ k)
    (mod_below _ 2 (omega arith)) (mod_below _ 2 (omega arith)) (mod_below x (2 ^ k) (pow_pos k)) (mod_below a (2 ^ k) (pow_pos k))))

-- the pair of keys adds up to "at most a"
pub compare_keys_add_up : (bits a weight x : ℕ) (r s : Seed) → a < 2 ^ bits → x < 2 ^ bits → weight < 2 ^ 128
    → plus (value_of (compare_key Zero bits a weight r s) Zero x) (value_of (compare_key One bits a weight r s) One x) ≡ at_most a weight x
compare_keys_add_up bits a weight x r s h i w =
    difference _ _
    ∙ values_at weight bits a x 0 0 0 (start Zero r) (start One s) refl refl
    ∙ ap (λ (b : Bool). cond b (weight % 2 ^ 128) 0) (at_most_path_is bits a x)
    ∙ ap (λ (y : ℕ). cond (leb y (a % 2 ^ bits)) (weight % 2 ^ 128) 0) (mod-eq_of_lt i)
    ∙ ap (λ (y : ℕ). cond (leb x y) (weight % 2 ^ 128) 0) (mod-eq_of_lt h)
    ∙ ap (λ (v : ℕ). cond (leb x a) v 0) (mod-eq_of_lt w)
  where
    difference : (p q : ℕ) → plus p (negative q) ≡ minus p q
    difference p q = omega arith
