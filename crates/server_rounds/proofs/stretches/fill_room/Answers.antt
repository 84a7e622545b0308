use Rattle.std.proofs.Common.{◌∙◌, ap, length}
use Rattle.server_rounds.proofs.Stretched.{write_lent, write_stopped}
use Rattle.server_rounds.proofs.stretches.fill_room.Goals as goal

pub fill_stretches-requires-clause-rows : goal.fill_stretches-requires-clause-rows
fill_stretches-requires-clause-rows g c κs within =
    rw (
      c.as_mut_slice.ensures.value,
      c.as_mut_slice-2.ensures.value,
      c.as_mut_slice-3.ensures.value,
      c.into_vec-at_zero.ensures,
      c.into_vec-at_one.ensures,
      c.into_vec-at_two.ensures,
    )
    c.requires.rows

pub returns-in_err-fill_stretches : goal.returns-in_err-fill_stretches
returns-in_err-fill_stretches g c =
    let held = g.S.Shelf.held in
    let visited = g.S.Shelf.visited in
    let e = c.from_residual.ensures.0 in
    let v = c.in_err-fill_stretches.ensures in
    record {
      at0 = write_stopped held visited c.args.column _ _ _ _ _ _ _ _ e v.at0;
      at1 = write_stopped held visited c.args.column _ _ _ _ _ _ _ _ e v.at1;
      at2 = write_stopped held visited c.args.column _ _ _ _ _ _ _ _ e v.at2;
    }

pub returns : goal.returns
returns g c =
    let held = g.S.Shelf.held in
    let visited = g.S.Shelf.visited in
    let a = c.args in
    let n = c.fill_stretches.new in
    let w = c.in_ok-fill_stretches.ensures in
    record {
      at0 = write_lent held visited a.column a.tables.now.zero a.keys.now.zero a.start c.into_vec-at_zero.result.len a.zero.now n.zero c.into_vec-at_zero.result.items n.at_zero _ _ _
          c.into_vec-at_zero.result.ok.0 (ap length c.into_vec-at_zero.ensures ∙ c.requires.rows.at0.long) c.from_vec.ensures w.at0;
      at1 = write_lent held visited a.column a.tables.now.one a.keys.now.one a.start c.into_vec-at_one.result.len a.one.now n.one c.into_vec-at_one.result.items n.at_one _ _ _
          c.into_vec-at_one.result.ok.0 (ap length c.into_vec-at_one.ensures ∙ c.requires.rows.at1.long) c.from_vec-2.ensures w.at1;
      at2 = write_lent held visited a.column a.tables.now.two a.keys.now.two a.start c.into_vec-at_two.result.len a.two.now n.two c.into_vec-at_two.result.items n.at_two _ _ _
          c.into_vec-at_two.result.ok.0 (ap length c.into_vec-at_two.ensures ∙ c.requires.rows.at2.long) c.from_vec-3.ensures w.at2;
    }
