use Rattle.std.proofs.Common.{map}
use Rattle.std.specs.Arc.{arc_value}
use Rattle.prefix_log.proofs.Cuts.{cut_is_at}
use Rattle.prefix_log.proofs.snapshot.Snapshot.cut.Goals as goal

pub returns-clause-cut : goal.returns-clause-cut
returns-clause-cut c =
    let r = c.args.self.now.rows in
    let e = c.cut.ensures in
    cut_is_at r.widths _ c.args.from c.args.to _ r.count r.start _ r.place (map arc_value r.chunks.items) _ c.requires.to c.requires.from c.requires.whole r.whole e.widths e.count e.start e.chunks
