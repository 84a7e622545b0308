-- The nodes of the trees of two parties, one level at a time.
use Rattle.std.specs.Prelude.{ℕ, ◌/◌, ◌%◌, ◌^◌, ◌==◌, Bool, true, false, not, cond, List, [], ◌∷◌, length}
use Rattle.prg_chacha.specs.declared.seed.Seed.{Seed}
use Rattle.prg_chacha.specs.declared.side.Side.{Side}
use Rattle.prg_chacha.specs.declared.side.Side.TheVariants.{Left, Right}
use Rattle.prg_chacha.specs.Prg.{child_of, bit_of, xor_of, convert_of}
use Rattle.ring128.specs.Ring.{plus, minus, negative}
use Rattle.ring128.specs.declared.party.Party.{Party}
use Rattle.ring128.specs.declared.party.Party.TheVariants.{Zero, One}
use Rattle.key_tree.specs.declared.node.Node.{Node}
use Rattle.key_tree.specs.declared.level.Level.{Level}

-- whether exactly one of two bits is set
abbrev pub differ : Bool → Bool → Bool
differ true b = not b
differ false b = b

-- the side that a number takes where this many lower bits follow
abbrev pub side_at : ℕ → ℕ → Side
side_at x place = cond (x / 2 ^ place % 2 == 1) Right Left

-- the other side
abbrev pub other : Side → Side
other Left = Right
other Right = Left

-- whether a side is the left one
abbrev pub is_left : Side → Bool
is_left Left = true
is_left Right = false

-- the root of a party, of the two roots
abbrev pub root_for : Party → Seed → Seed → Seed
root_for Zero r s = r
root_for One r s = s

-- the node where a party starts
abbrev pub start : Party → Seed → Node
start Zero root = record { seed = root; bit = false }
start One root = record { seed = root; bit = true }

-- the control bit of a level for a side
abbrev pub control : Level → Side → Bool
control l Left = l.left
control l Right = l.right

-- a node with the correction of a level for a side, where it is wanted
abbrev pub corrected : Bool → Level → Side → Node → Node
corrected wanted l side n =
    cond wanted (record { seed = xor_of n.seed l.seed; bit = differ n.bit (control l side) }) n

-- the child of a node on a side, corrected where the node's bit is set
unfoldable pub step : Level → Side → Node → Node
step l side n = corrected n.bit l side (record { seed = child_of n.seed side; bit = bit_of n.seed side })

-- the level below the nodes of two parties where a number takes the side `keep`
unfoldable pub level_between : Side → Node → Node → Level
level_between keep n m = record {
  seed = xor_of (child_of n.seed (other keep)) (child_of m.seed (other keep));
  left = differ (differ (bit_of n.seed Left) (bit_of m.seed Left)) (is_left keep);
  right = differ (differ (bit_of n.seed Right) (bit_of m.seed Right)) (not (is_left keep));
}

-- where a number leads from a place, a level for each of its bits from the highest on
abbrev pub descend : {L P : Type 0} → (L → Side → P → P) → List L → ℕ → P → P
descend below [] x p = p
descend below (l ∷ ls) x p = descend below ls x (below l (side_at x (length ls)) p)

-- a number, or its negative where a bit is set
abbrev pub signed : Bool → ℕ → ℕ
signed b v = cond b (negative v) v

-- what a party makes of the number that it draws
abbrev pub of_party : Party → ℕ → ℕ
of_party Zero v = v
of_party One v = negative v

-- the number of a leaf under a last word
abbrev pub leaf_number : ℕ → Node → ℕ
leaf_number last n = plus (convert_of n.seed) (cond n.bit last 0)

-- the last word for the leaves of two parties, where `total` has been added on the way down
abbrev pub last_for : ℕ → ℕ → Node → Node → ℕ
last_for weight total n m = signed m.bit (plus (minus (minus (convert_of m.seed) (convert_of n.seed)) total) weight)
