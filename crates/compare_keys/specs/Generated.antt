-- The levels and the last word of a pair of keys for "at most a", from the highest bit of a down.
use Rattle.std.specs.Prelude.{ℕ, zero, suc, cond, List, [], ◌∷◌}
use Rattle.prg_chacha.specs.declared.side.Side.{Side}
use Rattle.prg_chacha.specs.Prg.{strand_of}
use Rattle.ring128.specs.Ring.{plus, minus}
use Rattle.key_tree.specs.declared.node.Node.{Node}
use Rattle.key_tree.specs.Tree.{side_at, other, is_left, step, level_between, signed, last_for}
use Rattle.compare_keys.specs.declared.level.CompareLevel.{CompareLevel}

-- the value correction below the nodes of two parties, where `total` has been added so far
abbrev pub value_between : ℕ → Side → ℕ → Node → Node → ℕ
value_between weight keep total n m =
    signed m.bit
    (plus (minus (minus (strand_of m.seed (other keep)) (strand_of n.seed (other keep))) total) (cond (is_left (other keep)) weight 0))

-- what has been added after a level
abbrev pub added : Side → ℕ → ℕ → Node → Node → ℕ
added keep value total n m =
    plus (plus (minus total (strand_of m.seed keep)) (strand_of n.seed keep)) (signed m.bit value)

-- the level below the nodes of two parties
abbrev pub compare_level : ℕ → Side → ℕ → Node → Node → CompareLevel
compare_level weight keep total n m = record {
  level = level_between keep n m;
  value = value_between weight keep total n m;
}

-- the levels below the nodes of two parties for a number of this many bits
abbrev pub levels_of : ℕ → ℕ → ℕ → ℕ → Node → Node → List CompareLevel
levels_of weight zero a total n m = []
levels_of weight (suc k) a total n m =
    let keep = side_at a k in
    let l = compare_level weight keep total n m in
    l ∷ levels_of weight k a (added keep l.value total n m) (step l.level keep n) (step l.level keep m)

-- the last word below the nodes of two parties for a weight up to that number
abbrev pub last_of : ℕ → ℕ → ℕ → ℕ → Node → Node → ℕ
last_of weight zero a total n m = last_for weight total n m
last_of weight (suc k) a total n m =
    let keep = side_at a k in
    let l = compare_level weight keep total n m in
    last_of weight k a (added keep l.value total n m) (step l.level keep n) (step l.level keep m)
