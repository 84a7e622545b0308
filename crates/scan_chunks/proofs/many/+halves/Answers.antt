use Rattle.std.proofs.Common.{rules}
use Rattle.scan_chunks.proofs.Shelves.{scans_joined}
use Rattle.scan_chunks.proofs.many.+halves.Goals as goal

pub scan_both-returns : goal.scan_both-returns
scan_both-returns g t c =
    scans_joined g.S.Shelf.held g.S.Shelf.visited c.args.column c.args.tables.now.zero c.args.tables.now.one c.args.front.now c.front-1.given.0 c.args.back.now c.back-1.given.0
    c.join_mut-a.result.0 c.join_mut-a.result.1 c.joined.result (search rules) (search rules) c.joined.ensures
