-- Keys of any kind: what they are made of, and what a party draws from one.
use Rattle.std.specs.Prelude.{ℕ, List}
use Rattle.prg_chacha.specs.declared.seed.Seed.{Seed}
use Rattle.prg_chacha.specs.declared.side.Side.{Side}
use Rattle.ring128.specs.declared.party.Party.{Party}
use Rattle.key_tree.specs.Tree.{descend, of_party}

-- a key: its root, its levels from the highest bit down, and its last word
pub record Key (L : Type 0) : Type 0 where
  pub root : Seed
  pub levels : List L
  pub last : ℕ

-- the value of a party at a number: the number of the leaf that it leads to, or its negative
abbrev pub value_under : {L P : Type 0} → (Party → Seed → P) → (L → Side → P → P) → (ℕ → P → ℕ) → Key L → Party → ℕ → ℕ
value_under top below number k party x = of_party party (number k.last (descend below k.levels x (top party k.root)))
