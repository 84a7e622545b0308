use Rattle.server_rounds.proofs.Stretched.{rows_below}
use Rattle.server_rounds.proofs.stretches.cut_at.Goals as goal

pub count_rows-cut-requires : goal.count_rows-cut-requires
count_rows-cut-requires g c = rows_below g.S.Shelf.held c.args.near c.args.zero.now c.requires.zero

pub count_rows-requires : goal.count_rows-requires
count_rows-requires g c = rows_below g.S.Shelf.held c.args.near c.args.one.now c.requires.one

pub count_rows-requires-else-count_rows-cut : goal.count_rows-requires-else-count_rows-cut
count_rows-requires-else-count_rows-cut g c = rows_below g.S.Shelf.held c.args.near c.args.two.now c.requires.two
