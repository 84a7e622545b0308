use Rattle.std.proofs.Common.{◌≡◌, ◌+◌, ◌∷◌, suc, arith}
use Rattle.race_play.proofs.Beside.{asks_both, asks_none}
use Rattle.race_play.proofs.askers.+askers.Goals as goal

pub race_askers-returns-then-asker-crew : goal.race_askers-returns-then-asker-crew
race_askers-returns-then-asker-crew g t c =
    asks_none g.W.Wire.sight c.args.table.now c.args.queries.now c.args.master.now c.args.crew.now c.args.asker
    c.args.pass.now c.args.wires.now c.new-then-asker-crew.result c.new.result c.requires.can.of c.requires.can.own (omega (arith, c.if-asker-crew.true)) c.new-then-asker-crew.ensures c.new.ensures

pub race_askers-returns : goal.race_askers-returns
race_askers-returns g t c =
    let e = c.ask_beside-first.ensures in
    let split = c.split_pass-mine.ensures in
    let met = c.gather.ensures in
    let next : c.args.asker + 1 ≡ suc c.args.asker = omega arith in
    let is : c.args.wires.now ≡ c.in-Some.wire.now ∷ c.in-Some.rest.now = c.in-Some.ensures.cases.0 in
    rw is (asks_both g.W.Wire.sight c.args.table.now c.args.queries.now c.args.master.now c.args.crew.now c.args.asker
    c.args.pass.now c.split_pass-mine.result c.split_pass-mine.new.pass c.ask_beside-first.new.mine c.ask_beside-first.new.pass c.gather.new.pass
    c.in-Some.wire.now c.ask_beside-first.new.wire c.in-Some.rest.now c.ask_beside-first.new.rest (c.args.asker + 1) c.ask_beside-first.result.0.said c.ask_beside-first.result.1.said c.joined.result.said
    c.ask_beside-first.result.0.trace c.ask_beside-first.result.1.trace c.joined.result.trace
    e.one e.others next split.given split.kept met.pass met.grows.0 met.grows.1 met.gathered c.joined.ensures)
