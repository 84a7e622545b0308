use Rattle.std.proofs.Common.{rules, length}
use Rattle.visit_trace.specs.Growing.{prefix_none}
use Rattle.schedule_play.specs.Plays.{seen}
use Rattle.schedule_play.specs.Tasks.{asking}
use Rattle.schedule_play.specs.Traces.{asked_sizes, traces_of}
use Rattle.waldo_run.specs.Tampered.{shifts_over}
use Rattle.waldo_run.proofs.Tampering.{below_shifted, moved_wires, nothing_tampered}
use Rattle.waldo_run.proofs.tamper.tamper.Goals as goal

pub returns-in_default-clause-plays : goal.returns-in_default-clause-plays
returns-in_default-clause-plays g c = nothing_tampered g.W.Wire.sight g.met.W.Wire.none_passes c.args.setting.now.widths
    (asking (seen c.args.setting.now)) (shifts_over (seen c.args.setting.now) c.args.words.now) c.args.wire.now

pub returns-in_default-clause-trace : goal.returns-in_default-clause-trace
returns-in_default-clause-trace g c =
    prefix_none c.args.trace.now (traces_of (asked_sizes c.args.setting.now.widths (length c.args.setting.now.rows.now) c.args.setting.now.queries.now))

pub returns-clause-plays : goal.returns-clause-plays
returns-clause-plays g c =
    let p = c.ask_over-played.ensures.plays in
    moved_wires _ _ _ _ _ _ (λ history sent.
    below_shifted g.W.Wire.sight c.over-over.result c.ask_over-played.result.1 c.args.wire.now _
    (shifts_over (seen c.args.setting.now) c.args.words.now) history (search rules) (search rules) (search rules) (λ e. search rules) sent.0) p
