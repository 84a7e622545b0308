-- One level below two nodes whose bits are apart: one node on the lost side, bits apart on the kept side.
use Rattle.std.proofs.Common.{◌≡◌, ℕ, zero, suc, ◌/◌, ◌%◌, ◌^◌, ◌<◌, Bool, true, false, not, cond, ◌==◌, ◌&&◌, length, refl, sym, subst, ⊎_elim, ◌∙◌, arith}
use Rattle.std.specs.Int.{bit_at}
use Rattle.std.proofs.lemmas.Bool.{eqb-true, eq-eqb, ne_eqb, both_ways, and_parts, cases_Bool, cases_lt}
use Rattle.std.proofs.lemmas.Nat.Bits.{same_from_bits_below}
use Rattle.prg_chacha.specs.declared.seed.Seed.{Seed}
use Rattle.prg_chacha.specs.declared.side.Side.{Side}
use Rattle.prg_chacha.specs.declared.side.Side.TheVariants.{Left, Right}
use Rattle.prg_chacha.specs.Prg.{xor_of}
use Rattle.prg_chacha.proofs.Seeds.{length-child_of, xor_of_cancel, xor_of_comm}
use Rattle.key_tree.specs.declared.node.Node.{Node}
use Rattle.key_tree.specs.Tree.{differ, other, step, level_between}

node_same : (s t : Seed) (b c : Bool) → s ≡ t → b ≡ c → ◌≡◌ {A = Node} (record { seed = s; bit = b }) (record { seed = t; bit = c })
node_same s t b c e f = cc

xor_of_cross : (s t : Seed) → length s.words ≡ 8 → xor_of t (xor_of s t) ≡ s
xor_of_cross s t e = rw (xor_of_comm s t) (xor_of_cancel t s e)

lost_first : (x y : Bool) → differ x (differ (differ x y) false) ≡ y
lost_first true true = refl
lost_first true false = refl
lost_first false true = refl
lost_first false false = refl

lost_second : (x y : Bool) → x ≡ differ y (differ (differ x y) false)
lost_second true true = refl
lost_second true false = refl
lost_second false true = refl
lost_second false false = refl

kept_first : (x y : Bool) → y ≡ not (differ x (differ (differ x y) true))
kept_first true true = refl
kept_first true false = refl
kept_first false true = refl
kept_first false false = refl

kept_second : (x y : Bool) → differ y (differ (differ x y) true) ≡ not x
kept_second true true = refl
kept_second true false = refl
kept_second false true = refl
kept_second false false = refl

-- two nodes whose bits are apart
abbrev node : Seed → Bool → Node
node s b = record { seed = s; bit = b }

lost_at : (keep : Side) (s t : Seed) (b : Bool)
    → step (level_between keep (node s b) (node t (not b))) (other keep) (node s b)
    ≡ step (level_between keep (node s b) (node t (not b))) (other keep) (node t (not b))
unfolding step level_between
lost_at Left s t true = node_same _ _ _ _ (xor_of_cancel _ _ (length-child_of t Right)) (lost_first _ _)
lost_at Left s t false = node_same _ _ _ _ (sym (xor_of_cross _ _ (length-child_of s Right))) (lost_second _ _)
lost_at Right s t true = node_same _ _ _ _ (xor_of_cancel _ _ (length-child_of t Left)) (lost_first _ _)
lost_at Right s t false = node_same _ _ _ _ (sym (xor_of_cross _ _ (length-child_of s Left))) (lost_second _ _)

kept_at : (keep : Side) (s t : Seed) (b : Bool)
    → (step (level_between keep (node s b) (node t (not b))) keep (node t (not b))).bit
    ≡ not (step (level_between keep (node s b) (node t (not b))) keep (node s b)).bit
unfolding step level_between
kept_at Left s t true = kept_first _ _
kept_at Left s t false = kept_second _ _
kept_at Right s t true = kept_first _ _
kept_at Right s t false = kept_second _ _

-- on the lost side the two nodes become one
pub step_lost : (keep : Side) (n m : Node) → m.bit ≡ not n.bit
    → step (level_between keep n m) (other keep) n ≡ step (level_between keep n m) (other keep) m
step_lost keep n m e =
    subst (λ (c : Bool). step (level_between keep n (node m.seed c)) (other keep) n ≡ step (level_between keep n (node m.seed c)) (other keep) (node m.seed c))
    (sym e) (lost_at keep n.seed m.seed n.bit)

-- on the kept side the bits stay apart
pub step_kept : (keep : Side) (n m : Node) → m.bit ≡ not n.bit
    → (step (level_between keep n m) keep m).bit ≡ not (step (level_between keep n m) keep n).bit
step_kept keep n m e =
    subst (λ (c : Bool). (step (level_between keep n (node m.seed c)) keep (node m.seed c)).bit ≡ not (step (level_between keep n (node m.seed c)) keep n).bit)
    (sym e) (kept_at keep n.seed m.seed n.bit)

-- the side of a bit
abbrev pub side_of : ℕ → Side
side_of b = cond (b == 1) Right Left

pub side_other : (p q : ℕ) → p < 2 → q < 2 → (p == q) ≡ false → side_of q ≡ other (side_of p)
side_other zero zero h i e = cc
side_other zero (suc zero) h i e = refl
side_other (suc zero) zero h i e = refl
side_other (suc zero) (suc zero) h i e = cc
side_other (suc (suc p)) q h i e = absurd (omega arith)
side_other p (suc (suc q)) h i e = absurd (omega arith)

-- whether two numbers take the same sides at this many lowest bits
abbrev pub same_path : ℕ → ℕ → ℕ → Bool
same_path zero a x = true
same_path (suc k) a x = (a / 2 ^ k % 2 == x / 2 ^ k % 2) && same_path k a x

-- a number takes its own path
same_path_self : (k a : ℕ) → same_path k a a ≡ true
same_path_self zero a = refl
same_path_self (suc k) a = rw (eq-eqb (a / 2 ^ k % 2) (a / 2 ^ k % 2) refl) (same_path_self k a)

-- two numbers with one path have the same bits
same_path_bits : (k a x : ℕ) → same_path k a x ≡ true → (i : ℕ) → i < k → bit_at a i ≡ bit_at x i
same_path_bits zero a x e i h = absurd (omega arith)
same_path_bits (suc k) a x e i h =
    let parts = and_parts (a / 2 ^ k % 2 == x / 2 ^ k % 2) (same_path k a x) e in
    ⊎_elim
    (λ below. same_path_bits k a x parts.1 i below)
    (λ above. let at : i ≡ k = omega arith in rw at (eqb-true _ _ parts.0))
    (cases_lt i k)

pub same_path_is : (k a x : ℕ) → a < 2 ^ k → x < 2 ^ k → same_path k a x ≡ (x == a)
same_path_is k a x h i =
    ⊎_elim
    (λ t. t ∙ sym (eq-eqb x a (sym (same_from_bits_below k a x h i (same_path_bits k a x t)))))
    (λ f. f ∙ sym (ne_eqb x a (λ e. both_ways (same_path k a x) f (rw e (same_path_self k a)))))
    (cases_Bool (same_path k a x))
