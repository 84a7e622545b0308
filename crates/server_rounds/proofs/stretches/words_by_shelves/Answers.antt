use Rattle.server_rounds.proofs.Stretched.{fill_other, none_written}
use Rattle.server_rounds.proofs.stretches.words_by_shelves.Goals as goal

pub fill_room-requires-clause-rows : goal.fill_room-requires-clause-rows
fill_room-requires-clause-rows g c κs within =
    let r = c.in_ok-room.ensures in
    fill_other g.S.Shelf.held _ _ _ _ _ _ _ _ _ _ _ _ _ c.requires.rows c.requires.count r.zero r.one r.two

pub returns-in_err-room : goal.returns-in_err-room
returns-in_err-room g c =
    let held = g.S.Shelf.held in
    let visited = g.S.Shelf.visited in
    let e = c.from_residual.ensures.0 in
    record {
      at0 = none_written held visited c.args.column _ _ _ _ e;
      at1 = none_written held visited c.args.column _ _ _ _ e;
      at2 = none_written held visited c.args.column _ _ _ _ e;
    }
