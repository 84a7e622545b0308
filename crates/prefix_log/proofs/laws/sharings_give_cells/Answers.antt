use Rattle.prefix_log.proofs.Pieces.{sharings_give_cells}
use Rattle.prefix_log.proofs.laws.sharings_give_cells.Goals as goal

pub returns : goal.returns
returns c = sharings_give_cells
