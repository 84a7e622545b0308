use Rattle.std.proofs.Common.{rules, arith}
use Rattle.server_rounds.proofs.Stretched.{kept_long, scan_kept, scan_zeroed, write_stopped}
use Rattle.server_rounds.proofs.stretches.scan_all.Goals as goal

pub with_three_zeros-requires : goal.with_three_zeros-requires
with_three_zeros-requires g c =
    let held = g.S.Shelf.held in
    let a = c.args in
    let w = c.in_ok-numbers.ensures in
    let n0 = kept_long held a.column a.tables.now.zero a.zero.now _ _ w.at0 c.scan_many-first.ensures.numbers in
    let n1 = kept_long held a.column a.tables.now.one a.one.now _ _ w.at1 c.scan_many-second.ensures.numbers in
    let n2 = kept_long held a.column a.tables.now.two a.two.now _ _ w.at2 c.scan_many-third.ensures.numbers in
    let r = c.requires.rows in (
      search rules,
      record {
        long1 = omega (arith, n0, n1, r.at0.long, r.at1.long, r.long1);
        long2 = omega (arith, n0, n2, r.at0.long, r.at2.long, r.long2);
        counters = omega (arith, n0, r.at0.long, r.counters);
      },
    )

pub returns-in_err-numbers : goal.returns-in_err-numbers
returns-in_err-numbers g c =
    let held = g.S.Shelf.held in
    let visited = g.S.Shelf.visited in
    let a = c.args in
    let e = c.from_residual.ensures.0 in
    let v0 = c.scan_many-first.ensures in
    let v1 = c.scan_many-second.ensures in
    let v2 = c.scan_many-third.ensures in
    let k0 = scan_kept held visited a.column a.tables.now.zero a.zero.now c.scan_many-first.new.shelves c.scan_many-first.result v0.held v0.numbers v0.visits v0.part in
    let k1 = scan_kept held visited a.column a.tables.now.one a.one.now c.scan_many-second.new.shelves c.scan_many-second.result v1.held v1.numbers v1.visits v1.part in
    let k2 = scan_kept held visited a.column a.tables.now.two a.two.now c.scan_many-third.new.shelves c.scan_many-third.result v2.held v2.numbers v2.visits v2.part in
    record {
      at0 = write_stopped held visited a.column _ _ _ _ _ _ c.scan_many-first.result _ e k0;
      at1 = write_stopped held visited a.column _ _ _ _ _ _ c.scan_many-second.result _ e k1;
      at2 = write_stopped held visited a.column _ _ _ _ _ _ c.scan_many-third.result _ e k2;
    }

pub returns : goal.returns
returns g c =
    let held = g.S.Shelf.held in
    let visited = g.S.Shelf.visited in
    let a = c.args in
    let w = c.in_ok-numbers.ensures in
    let z = c.with_three_zeros.ensures in
    let v0 = c.scan_many-first.ensures in
    let v1 = c.scan_many-second.ensures in
    let v2 = c.scan_many-third.ensures in
    let k0 = scan_kept held visited a.column a.tables.now.zero a.zero.now c.scan_many-first.new.shelves c.scan_many-first.result v0.held v0.numbers v0.visits v0.part in
    let k1 = scan_kept held visited a.column a.tables.now.one a.one.now c.scan_many-second.new.shelves c.scan_many-second.result v1.held v1.numbers v1.visits v1.part in
    let k2 = scan_kept held visited a.column a.tables.now.two a.two.now c.scan_many-third.new.shelves c.scan_many-third.result v2.held v2.numbers v2.visits v2.part in
    record {
      at0 = scan_zeroed held visited a.column a.tables.now.zero a.keys.now.zero a.start _ _ _ _ _ _ w.at0 k0 z.zero;
      at1 = scan_zeroed held visited a.column a.tables.now.one a.keys.now.one a.start _ _ _ _ _ _ w.at1 k1 z.one;
      at2 = scan_zeroed held visited a.column a.tables.now.two a.keys.now.two a.start _ _ _ _ _ _ w.at2 k2 z.two;
    }
