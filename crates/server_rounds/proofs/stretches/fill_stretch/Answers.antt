use Rattle.server_rounds.proofs.Stretched.{write_stopped}
use Rattle.server_rounds.proofs.stretches.fill_stretch.Goals as goal

pub returns-in_err-all : goal.returns-in_err-all
returns-in_err-all g c =
    let held = g.S.Shelf.held in
    let visited = g.S.Shelf.visited in
    let e = c.from_residual.ensures.0 in
    record {
      at0 = write_stopped held visited c.args.column _ _ _ _ _ _ c.scan_to-first.result _ e c.scan_to-first.ensures;
      at1 = write_stopped held visited c.args.column _ _ _ _ _ _ c.scan_to-second.result _ e c.scan_to-second.ensures;
      at2 = write_stopped held visited c.args.column _ _ _ _ _ _ c.scan_to-third.result _ e c.scan_to-third.ensures;
    }
