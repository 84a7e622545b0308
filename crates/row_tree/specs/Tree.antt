-- What a tree holds.
use Rattle.std.specs.Prelude.{ℕ, ◌≡◌, ◌≤◌, ◌+◌, ◌*◌, ◌^◌, ◌++◌, List, take, Result, Ok, Err}
use Rattle.ring128.specs.declared.memory.Memory.{Memory}
use Rattle.row_tree.specs.declared.node.Node.{Node}
use Rattle.row_tree.specs.Column.{Tree}
use Rattle.row_tree.specs.declared.runs.Trees.{Trees}

-- each place of a node is among these rows
abbrev pub IsThere : ℕ → Node → Type 0
IsThere rows node = (node.index + 1) * 2 ^ node.height ≤ rows

-- a tree before and after a call that lends these nodes: all of them are noted, or, out of memory, the first of them, and nothing
-- else changes
abbrev pub IsVisited : {T : Type 0} → List Node → Tree → Tree → Result T Memory → Type 0
IsVisited nodes old new (Ok x) = new ≡ record old { visits = old.visits ++ nodes }
IsVisited nodes old new (Err e) = (n : ℕ) × (new ≡ record old { visits = old.visits ++ take n nodes })

-- the three trees before and after a call that lends these nodes of each
pub record AreVisited {T : Type 0} (nodes : List Node) (old new : Trees) (result : Result T Memory) : Type 0 where
  pub zero : IsVisited nodes old.zero new.zero result
  pub one : IsVisited nodes old.one new.one result
  pub two : IsVisited nodes old.two new.two result
