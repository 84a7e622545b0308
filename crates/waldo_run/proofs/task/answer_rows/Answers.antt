use Rattle.std.proofs.Common.{subst, length, ◌≤◌}
use Rattle.schedule_play.specs.Plays.{seen}
use Rattle.waldo_words.specs.Legal.{IsLegal}
use Rattle.waldo_words.specs.declared.command.Command.{Command}
use Rattle.waldo_run.specs.Tasks.{AreWidthsIn, common_in}
use Rattle.waldo_run.proofs.Growing.{groups_add, range_adds}
use Rattle.waldo_run.proofs.Grouping.{buckets_answered}
use Rattle.waldo_run.proofs.Ranging.{range_answered}
use Rattle.waldo_run.proofs.Settings.{groups_legal, range_legal}
use Rattle.waldo_run.proofs.task.answer_rows.Goals as goal

pub returns-in-Tree-clause-asked : goal.returns-in-Tree-clause-asked
returns-in-Tree-clause-asked g c =
    let w = c.args.widths.now in
    let rows = c.args.rows.now in
    let legal = range_legal c.in-Tree.common c.in-Tree.low c.in-Tree.high w rows (subst IsLegal c.in-Tree.is c.requires.legal)
    (subst (λ (x : Command). AreWidthsIn x w) c.in-Tree.is c.requires.widths) c.requires.held
    (subst (λ (x : Command). let k = common_in x in length rows ≤ k.capacity) c.in-Tree.is c.requires.few) in
    range_answered g.W.Wire.sight c.args.command.now c.in-Tree.common c.in-Tree.low c.in-Tree.high w c.setting-setting.result.widths rows
    (seen c.setting-setting.result) c.args.wires.now.items c.answer_range.new.wires.items c.in-Tree.is c.setting-setting.ensures.widths
    c.setting-setting.ensures.seen c.requires.widths legal c.answer_range.result c.answer_range.ensures.asked

pub returns-in-Tree-clause-trace : goal.returns-in-Tree-clause-trace
returns-in-Tree-clause-trace g c =
    range_adds c.args.command.now c.in-Tree.common c.in-Tree.low c.in-Tree.high c.args.widths.now c.args.rows.now c.args.trace.now
    c.answer_range.result c.in-Tree.is

pub returns-in-Groups-clause-asked : goal.returns-in-Groups-clause-asked
returns-in-Groups-clause-asked g c =
    let w = c.args.widths.now in
    let rows = c.args.rows.now in
    let legal = groups_legal c.in-Groups.common c.in-Groups.groups w rows (subst IsLegal c.in-Groups.is c.requires.legal)
    (subst (λ (x : Command). AreWidthsIn x w) c.in-Groups.is c.requires.widths) c.requires.held
    (subst (λ (x : Command). let k = common_in x in length rows ≤ k.capacity) c.in-Groups.is c.requires.few) in
    buckets_answered g.W.Wire.sight c.args.command.now c.in-Groups.common c.in-Groups.groups c.as_slice.result.now w c.setting-setting-in-Groups.result.widths rows
    (seen c.setting-setting-in-Groups.result) c.args.wires.now.items c.answer_buckets.new.wires.items c.in-Groups.is c.setting-setting-in-Groups.ensures.widths
    c.setting-setting-in-Groups.ensures.seen c.as_slice.ensures c.requires.widths legal c.answer_buckets.result c.answer_buckets.ensures.asked

pub returns-in-Groups-clause-trace : goal.returns-in-Groups-clause-trace
returns-in-Groups-clause-trace g c =
    groups_add c.args.command.now c.in-Groups.common c.in-Groups.groups c.as_slice.result.now c.args.widths.now c.setting-setting-in-Groups.result.widths
    c.args.rows.now (seen c.setting-setting-in-Groups.result) c.args.trace.now c.answer_buckets.new.trace c.answer_buckets.result c.in-Groups.is
    c.setting-setting-in-Groups.ensures.widths c.setting-setting-in-Groups.ensures.seen c.as_slice.ensures c.answer_buckets.ensures.trace
