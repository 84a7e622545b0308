-- What the two parties draw at leaves whose bits are apart.
use Rattle.std.proofs.Common.{◌≡◌, ℕ, ◌%◌, ◌^◌, Bool, true, false, not, cond, arith}
use Rattle.prg_chacha.specs.Prg.{convert_of}
use Rattle.ring128.specs.Ring.{plus, minus}
use Rattle.key_tree.specs.declared.node.Node.{Node}
use Rattle.key_tree.specs.Tree.{signed, leaf_number, last_for}

apart : (w c d v : ℕ) (b : Bool)
    → plus v (minus (plus c (cond b (signed (not b) (plus (minus (minus d c) v) w)) 0)) (plus d (cond (not b) (signed (not b) (plus (minus (minus d c) v) w)) 0)))
    ≡ w % 2 ^ 128
apart w c d v true = omega arith
apart w c d v false = omega arith

-- the two numbers differ by the weight, together with what has been added above
pub leaves_apart : (weight total : ℕ) (n m : Node) → m.bit ≡ not n.bit
    → plus total (minus (leaf_number (last_for weight total n m) n) (leaf_number (last_for weight total n m) m)) ≡ weight % 2 ^ 128
leaves_apart weight total n m e = rw e (apart weight (convert_of n.seed) (convert_of m.seed) total n.bit)
