use Rattle.waldo_table.proofs.Appending.{appends, grows_same}
use Rattle.waldo_table.proofs.table.Table.append.Goals as goal

pub returns-in_err-drawn-clause-grows : goal.returns-in_err-drawn-clause-grows
returns-in_err-drawn-clause-grows g c = grows_same _ _ c.in_err-drawn.ensures.same

pub returns-clause-appends : goal.returns-clause-appends
returns-clause-appends g c =
    let e = c.in_ok-drawn.ensures in
    appends _ _ _ _ _ _ _ _ _ _ _ _ e.draws e.rest e.drawn c.place.ensures.drawn c.place-2.ensures.drawn c.place-3.ensures.drawn c.finish.ensures
    c.place.ensures.sight c.place-2.ensures.sight c.place-3.ensures.sight c.place.ensures.grows c.place-2.ensures.grows c.place-3.ensures.grows
    c.place.ensures.there c.place-2.ensures.there c.place-3.ensures.there c.place.ensures.floor c.place-2.ensures.floor c.place-3.ensures.floor
