-- Keys of a point function, and what they are for.
use Rattle.std.specs.Prelude.{ℕ, zero, suc, ◌==◌, cond, List, [], ◌∷◌}
use Rattle.prg_chacha.specs.declared.seed.Seed.{Seed}
use Rattle.ring128.specs.declared.party.Party.{Party}
use Rattle.ring128.specs.declared.party.Party.TheVariants.{Zero, One}
use Rattle.key_tree.specs.declared.node.Node.{Node}
use Rattle.key_tree.specs.declared.level.Level.{Level}
use Rattle.key_tree.specs.Keys.{Key, value_under}
use Rattle.key_tree.specs.Tree.{side_at, step, level_between, start, root_for, leaf_number, last_for}

-- the weight at a, and 0 elsewhere
abbrev pub point_at : ℕ → ℕ → ℕ → ℕ
point_at a weight x = cond (x == a) weight 0

-- the value of a party at a number
abbrev pub value_of : Key Level → Party → ℕ → ℕ
value_of = value_under start step leaf_number

-- the levels below the nodes of two parties for a number of this many bits
abbrev pub levels_of : ℕ → ℕ → Node → Node → List Level
levels_of zero a n m = []
levels_of (suc k) a n m =
    let l = level_between (side_at a k) n m in
    l ∷ levels_of k a (step l (side_at a k) n) (step l (side_at a k) m)

-- the last word below the nodes of two parties for a weight at that number
abbrev pub last_of : ℕ → ℕ → ℕ → Node → Node → ℕ
last_of weight zero a n m = last_for weight 0 n m
last_of weight (suc k) a n m =
    let l = level_between (side_at a k) n m in
    last_of weight k a (step l (side_at a k) n) (step l (side_at a k) m)

-- the key of a party for a weight at a, from the roots of both
abbrev pub point_key : Party → ℕ → ℕ → ℕ → Seed → Seed → Key Level
point_key party bits a weight r s = record {
  root = root_for party r s;
  levels = levels_of bits a (start Zero r) (start One s);
  last = last_of weight bits a (start Zero r) (start One s);
}
