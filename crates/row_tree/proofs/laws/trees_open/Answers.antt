use Rattle.row_tree.proofs.Opened.{trees_open}
use Rattle.row_tree.proofs.laws.trees_open.Goals as goal

pub returns : goal.returns
returns c = trees_open
