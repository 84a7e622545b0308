use Rattle.std.proofs.Common.{ap, subst}
use Rattle.bucket_groups.specs.Seen.{group_trace}
use Rattle.schedule_play.specs.Plays.{seen}
use Rattle.visit_trace.specs.Seen.{AllSeen, GrewBy}
use Rattle.waldo_run.proofs.Grouping.{few_answers, group_asked, same_sizes}
use Rattle.waldo_run.proofs.groups.ask_group.Goals as goal

pub returns-clause-asked : goal.returns-clause-asked
returns-clause-asked g c =
    group_asked g.W.Wire.sight c.args.setting.now.widths (seen c.args.setting.now) c.args.index c.args.group.now c.args.wire.now c.answer_groups.new.wire
    c.requires.legal.there c.answer_groups.result c.args.agreed.now c.derive-seed.result c.requires.rows c.derive-seed.ensures c.answer_groups.ensures.answers

pub returns-clause-few : goal.returns-clause-few
returns-clause-few g c =
    few_answers g.W.Wire.sight c.args.setting.now.widths (seen c.args.setting.now) c.args.index c.args.group.now c.args.wire.now c.answer_groups.new.wire
    c.answer_groups.result c.requires.legal.there (returns-clause-asked g c)

pub returns-clause-trace : goal.returns-clause-trace
returns-clause-trace g c =
    subst (λ (t : AllSeen). GrewBy c.args.trace.now c.answer_groups.new.trace t c.answer_groups.result)
    (ap (λ z. group_trace z c.args.group.now.column) (same_sizes c.args.setting.now.widths (seen c.args.setting.now) c.args.group.now.query c.args.agreed.now c.requires.rows))
    c.answer_groups.ensures.trace
