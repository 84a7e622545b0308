-- The two values of a key pair add up to the point function.
use Rattle.std.proofs.Common.{◌≡◌, ℕ, zero, suc, ◌-◌, ◌/◌, ◌%◌, ◌^◌, ◌<◌, Bool, true, false, not, cond, ◌==◌, List, [], ◌∷◌, ◌++◌, length, append_assoc, append-nil, refl, sym, ap, ⊎_elim, ◌∙◌, arith}
use Rattle.std.proofs.lemmas.Bool.{eqb-true, cases_Bool}
use Rattle.std.proofs.lemmas.Nat.{mod_below}
use Rattle.std.proofs.Math.Nat.{mod-eq_of_lt}
use Rattle.prg_chacha.specs.declared.seed.Seed.{Seed}
use Rattle.ring128.specs.Ring.{plus, minus, negative}
use Rattle.ring128.specs.declared.party.Party.TheVariants.{Zero, One}
use Rattle.key_tree.specs.declared.node.Node.{Node}
use Rattle.key_tree.specs.declared.level.Level.{Level}
use Rattle.key_tree.specs.Tree.{side_at, other, step, level_between, descend, start, leaf_number}
use Rattle.key_tree.proofs.Leaves.{leaves_apart}
use Rattle.key_tree.proofs.Levels.{step_lost, step_kept, side_of, side_other, same_path, same_path_is}
use Rattle.key_tree.proofs.Walks.{descend_turn}
use Rattle.point_keys.specs.Points.{value_of, point_key, point_at, levels_of, last_of}

pub length-levels_of : (k a : ℕ) (n m : Node) → length (levels_of k a n m) ≡ k
length-levels_of zero a n m = refl
length-levels_of (suc k) a n m = ap suc (length-levels_of k a _ _)

-- the levels and the last word below two nodes, one step on
pub levels_of_more : (k a : ℕ) (n m : Node) (done : List Level) → 0 < k
    → let l = level_between (side_at a (k - 1)) n m in
    (done ++ l ∷ []) ++ levels_of (k - 1) a (step l (side_at a (k - 1)) n) (step l (side_at a (k - 1)) m) ≡ done ++ levels_of k a n m
levels_of_more zero a n m done h = absurd (omega arith)
levels_of_more (suc k) a n m done h = let e : suc k - 1 ≡ k = omega arith in rw e (append_assoc done (_ ∷ []) _)

pub last_of_more : (weight k a : ℕ) (n m : Node) → 0 < k
    → let l = level_between (side_at a (k - 1)) n m in
    last_of weight (k - 1) a (step l (side_at a (k - 1)) n) (step l (side_at a (k - 1)) m) ≡ last_of weight k a n m
last_of_more weight zero a n m h = absurd (omega arith)
last_of_more weight (suc k) a n m h = let e : suc k - 1 ≡ k = omega arith in rw e

pub levels_of_none : (k a : ℕ) (n m : Node) (ls whole : List Level) → k ≡ 0 → ls ++ levels_of k a n m ≡ whole → ls ≡ whole
levels_of_none zero a n m ls whole z e = sym (append-nil ls) ∙ e
levels_of_none (suc k) a n m ls whole z e = absurd (omega arith)

pub last_of_none : (weight k a : ℕ) (n m : Node) (l : ℕ) → k ≡ 0 → last_of weight k a n m ≡ l → last_of weight 0 a n m ≡ l
last_of_none weight zero a n m l z e = e
last_of_none weight (suc k) a n m l z e = absurd (omega arith)

-- the difference of what two leaves give
abbrev gap : ℕ → Node → Node → ℕ
gap last u v = plus 0 (minus (leaf_number last u) (leaf_number last v))

gone : (v : ℕ) → plus 0 (minus v v) ≡ 0
gone v = omega arith

-- one level on, where the number takes the kept side
turn_same : (last k a x : ℕ) (ls : List Level) (n m : Node) (r : ℕ) → length ls ≡ k → (a / 2 ^ k % 2 == x / 2 ^ k % 2) ≡ true
    → (let l = level_between (side_at a k) n m in gap last (descend step ls x (step l (side_at a k) n)) (descend step ls x (step l (side_at a k) m)) ≡ r)
    → (let l = level_between (side_at a k) n m in gap last (descend step (l ∷ ls) x n) (descend step (l ∷ ls) x m) ≡ r)
turn_same last k a x ls n m r long e ih =
    let l = level_between (side_at a k) n m in
    let taken : side_at x k ≡ side_at a k = ap side_of (sym (eqb-true _ _ e)) in
    ap (λ (u : Node). gap last u (descend step (l ∷ ls) x m)) (descend_turn step l ls k x (side_at a k) n long taken)
    ∙ ap (gap last (descend step ls x (step l (side_at a k) n))) (descend_turn step l ls k x (side_at a k) m long taken)
    ∙ ih

-- one level on, where the number takes the lost side
turn_other : (last k a x : ℕ) (ls : List Level) (n m : Node) → m.bit ≡ not n.bit → length ls ≡ k → (a / 2 ^ k % 2 == x / 2 ^ k % 2) ≡ false
    → (let l = level_between (side_at a k) n m in gap last (descend step (l ∷ ls) x n) (descend step (l ∷ ls) x m) ≡ 0)
turn_other last k a x ls n m apart long e =
    let l = level_between (side_at a k) n m in
    let taken : side_at x k ≡ other (side_at a k) = side_other _ _ (mod_below _ 2 (omega arith)) (mod_below _ 2 (omega arith)) e in
    let one : descend step (l ∷ ls) x n ≡ descend step (l ∷ ls) x m =
    descend_turn step l ls k x _ n long taken ∙ ap (descend step ls x) (step_lost (side_at a k) n m apart) ∙ sym (descend_turn step l ls k x _ m long taken) in
    ap (λ (u : Node). gap last u (descend step (l ∷ ls) x m)) one ∙ gone _

pub values_at : (weight k a x : ℕ) (n m : Node) → m.bit ≡ not n.bit
    → gap (last_of weight k a n m) (descend step (levels_of k a n m) x n) (descend step (levels_of k a n m) x m)
    ≡ cond (same_path k a x) (weight % 2 ^ 128) 0
values_at weight zero a x n m e = leaves_apart weight 0 n m e
values_at weight (suc k) a x n m e =
    let l = level_between (side_at a k) n m in
    let n' = step l (side_at a k) n in
    let m' = step l (side_at a k) m in
    let ih = values_at weight k a x n' m' (step_kept (side_at a k) n m e) in
    let last = last_of weight k a n' m' in
    let long = length-levels_of k a n' m' in
    ⊎_elim
    (λ t. rw t (turn_same last k a x (levels_of k a n' m') n m _ long t ih))
    (λ f. rw f (turn_other last k a x (levels_of k a n' m') n m e long f))
    (cases_Bool (a / 2 ^ k % 2 == x / 2 ^ k % 2))

-- the pair of keys adds up to the point function
pub point_keys_add_up : (bits a weight x : ℕ) (r s : Seed) → a < 2 ^ bits → x < 2 ^ bits → weight < 2 ^ 128
    → plus (value_of (point_key Zero bits a weight r s) Zero x) (value_of (point_key One bits a weight r s) One x) ≡ point_at a weight x
point_keys_add_up bits a weight x r s h i w =
    apart _ _
    ∙ values_at weight bits a x (start Zero r) (start One s) refl
    ∙ ap (λ (b : Bool). cond b (weight % 2 ^ 128) 0) (same_path_is bits a x h i)
    ∙ ap (λ (v : ℕ). cond (x == a) v 0) (mod-eq_of_lt w)
  where
    apart : (p q : ℕ) → plus p (negative q) ≡ plus 0 (minus p q)
    apart p q = omega arith
