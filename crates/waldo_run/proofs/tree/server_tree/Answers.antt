use Rattle.waldo_run.proofs.Ranging.{least_cells}
use Rattle.waldo_run.proofs.tree.server_tree.Goals as goal

pub new-tree-requires-clause-least : goal.new-tree-requires-clause-least
new-tree-requires-clause-least c = rw c.from.ensures (least_cells c.args.widths.now c.args.column c.requires.column)
