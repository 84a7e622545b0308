use Rattle.std.proofs.Common.{map}
use Rattle.std.specs.Arc.{arc_value}
use Rattle.prefix_log.proofs.Cuts.{is_shelf}
use Rattle.prefix_log.proofs.rows.Rows.count.Goals as goal

pub returns-clause-shelf : goal.returns-clause-shelf
returns-clause-shelf c = let s = c.args.self.now in is_shelf s.widths s.count s.start (map arc_value s.chunks.items) s.few
