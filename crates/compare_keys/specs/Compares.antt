-- Keys of "at most a", and what they are for.
use Rattle.std.specs.Prelude.{ℕ, cond, nat_le}
use Rattle.prg_chacha.specs.declared.seed.Seed.{Seed}
use Rattle.prg_chacha.specs.declared.side.Side.{Side}
use Rattle.prg_chacha.specs.Prg.{strand_of}
use Rattle.ring128.specs.Ring.{plus}
use Rattle.ring128.specs.declared.party.Party.{Party}
use Rattle.ring128.specs.declared.party.Party.TheVariants.{Zero, One}
use Rattle.key_tree.specs.declared.node.Node.{Node}
use Rattle.key_tree.specs.Keys.{Key, value_under}
use Rattle.key_tree.specs.Tree.{step, start, root_for, leaf_number}
use Rattle.compare_keys.specs.declared.level.CompareLevel.{CompareLevel}
use Rattle.compare_keys.specs.declared.tally.Tally.{Tally}
use Rattle.compare_keys.specs.Generated.{levels_of, last_of}

-- the weight at each number that is at most a, and 0 elsewhere
abbrev pub at_most : ℕ → ℕ → ℕ → ℕ
at_most a weight x = cond (nat_le x a) weight 0

-- what a party adds at a node: a strand, with the value correction where the node's bit is set
abbrev pub corrected : ℕ → Node → ℕ → ℕ
corrected value n strand = plus strand (cond n.bit value 0)

-- a walk starts with nothing added, adds a strand a level, and at its leaf the leaf's number
abbrev pub top : Party → Seed → Tally
top party root = record { node = start party root; total = 0 }

abbrev pub below : CompareLevel → Side → Tally → Tally
below l side t = record {
  node = step l.level side t.node;
  total = plus t.total (corrected l.value t.node (strand_of t.node.seed side));
}

abbrev pub number : ℕ → Tally → ℕ
number last t = plus t.total (leaf_number last t.node)

-- the value of a party at a number
abbrev pub value_of : Key CompareLevel → Party → ℕ → ℕ
value_of = value_under top below number

-- the key of a party for a weight at each number that is at most a, from the roots of both
abbrev pub compare_key : Party → ℕ → ℕ → ℕ → Seed → Seed → Key CompareLevel
compare_key party bits a weight r s = record {
  root = root_for party r s;
  levels = levels_of weight bits a 0 (start Zero r) (start One s);
  last = last_of weight bits a 0 (start Zero r) (start One s);
}
