use Rattle.std.proofs.Common.{arith}
use Rattle.schedule_play.specs.Plays.{seen}
use Rattle.waldo_run.proofs.Ranging.{range_begun, range_none, range_sent}
use Rattle.waldo_run.proofs.tree.answer_range.Goals as goal

pub returns-then-setting-high-clause-asked : goal.returns-then-setting-high-clause-asked
returns-then-setting-high-clause-asked g c =
    range_none g.W.Wire.sight g.met.W.Wire.none_passes c.args.setting.now.widths (seen c.args.setting.now) c.args.low c.args.high c.args.wires.now.items
    (omega (arith, c.if-setting-high.true)) c.single_line.result c.single_line.ensures

pub returns-in_err-pair-clause-asked : goal.returns-in_err-pair-clause-asked
returns-in_err-pair-clause-asked g c =
    let m = c.in_err-pair.ensures.messages in
    range_begun g.W.Wire.sight g.met.W.Wire.none_passes c.args.setting.now.widths (seen c.args.setting.now) c.args.low c.args.high c.args.wires.now.items
    c.index_mut.result.now _ m.0 (omega (arith, c.requires.wires)) c.index_mut.ensures.value m.1 m.2 c.from_residual.result c.from_residual.ensures.0

pub returns-clause-asked : goal.returns-clause-asked
returns-clause-asked g c =
    let m = c.in_ok-pair.ensures.messages in
    range_sent g.W.Wire.sight g.met.W.Wire.none_passes c.args.setting.now.widths (seen c.args.setting.now) c.args.low c.args.high c.args.wires.now.items
    c.index_mut.result.now _ m.0 (omega (arith, c.requires.wires)) c.index_mut.ensures.value m.1 (omega (arith, c.if-setting-high.false)) m.3.0 _ m.3.1 m.3.2
    c.range_line.result c.range_line.ensures
