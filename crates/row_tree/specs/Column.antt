-- A column of a server's rows.
use Rattle.std.specs.Prelude.{ℕ, List}
use Rattle.row_tree.specs.declared.node.Node.{Node}

-- its number, how many cells a row has in it, how many rows there are, the two shares of their cells row after row, and the nodes
-- that were lent
pub record Tree : Type 0 where
  pub column : ℕ
  pub width : ℕ
  pub rows : ℕ
  pub first : List ℕ
  pub second : List ℕ
  pub visits : List Node
