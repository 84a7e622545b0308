use Rattle.std.proofs.Common.{arith, refl}
use Rattle.schedule_play.specs.Plays.{seen}
use Rattle.visit_trace.specs.Growing.{by_stopped, prefix_none}
use Rattle.waldo_run.proofs.Grouping.{buckets_none, buckets_stopped, buckets_told}
use Rattle.waldo_run.proofs.Wires.{still_wires}
use Rattle.waldo_run.proofs.groups.answer_buckets.Goals as goal

pub returns-in_err-machine-clause-asked : goal.returns-in_err-machine-clause-asked
returns-in_err-machine-clause-asked g c =
    buckets_none g.W.Wire.sight g.met.W.Wire.none_passes c.args.setting.now.widths (seen c.args.setting.now) c.args.groups.now c.args.wires.now.items
    c.from_residual.result c.from_residual.ensures.0 _ refl (still_wires g.W.Wire.sight g.met.W.Wire.none_passes c.args.wires.now.items)

pub returns-in_err-machine-clause-trace : goal.returns-in_err-machine-clause-trace
returns-in_err-machine-clause-trace g c =
    by_stopped c.args.trace.now c.args.trace.now _ c.from_residual.result c.from_residual.ensures.0 (prefix_none c.args.trace.now _)

pub returns-in_err-ask_groups-clause-asked : goal.returns-in_err-ask_groups-clause-asked
returns-in_err-ask_groups-clause-asked g c =
    buckets_stopped g.W.Wire.sight g.met.W.Wire.none_passes c.args.setting.now.widths (seen c.args.setting.now) c.args.groups.now c.args.wires.now.items
    c.index_mut.result.now c.ask_groups.new.wire (omega (arith, c.requires.wires)) c.index_mut.ensures.value c.new-report.result c.ask_groups.new.report
    c.ask_groups.result c.ask_groups.ensures.asked c.from_residual-in_err-ask_groups.result c.from_residual-in_err-ask_groups.ensures.0

pub returns-clause-asked : goal.returns-clause-asked
returns-clause-asked g c =
    buckets_told g.W.Wire.sight g.met.W.Wire.none_passes c.args.setting.now.widths (seen c.args.setting.now) c.args.groups.now c.args.wires.now.items
    c.index_mut.result.now c.ask_groups.new.wire (omega (arith, c.requires.wires)) c.index_mut.ensures.value c.new-report.result c.ask_groups.new.report
    c.in_ok-ask_groups.field-0 c.new-report.ensures c.in_ok-ask_groups.ensures.asked c.lines_reply.result c.lines_reply.ensures
