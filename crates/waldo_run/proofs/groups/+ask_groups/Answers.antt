use Rattle.std.proofs.Common.{length, sym, subst, List, Ok}
use Rattle.query_plan.specs.declared.group.GroupQuery.{GroupQuery}
use Rattle.schedule_play.specs.Plays.{seen}
use Rattle.visit_trace.specs.Growing.{by_cut, by_then}
use Rattle.visit_trace.specs.Seen.{GrewBy}
use Rattle.waldo_run.specs.Buckets.{group_traces}
use Rattle.waldo_run.proofs.Grouping.{GroupsAsked, first_rest, groups_more, groups_none, groups_stopped, later_legal, no_groups}
use Rattle.waldo_run.proofs.groups.+ask_groups.Goals as goal

pub returns-in_err-answers-in-len1-up-clause-asked : goal.returns-in_err-answers-in-len1-up-clause-asked
returns-in_err-answers-in-len1-up-clause-asked g t c =
    let w = c.args.setting.now.widths in
    let s = seen c.args.setting.now in
    subst (λ (l : List GroupQuery). GroupsAsked g.W.Wire.sight w s c.args.index l c.args.wire.now c.ask_group.new.wire c.args.report.now c.args.report.now c.from_residual.result)
    (sym (first_rest c.args.groups.now _ c.in-len1-up.len_at_least))
    (groups_stopped g.W.Wire.sight w s c.args.index _ _ c.args.wire.now c.ask_group.new.wire c.ask_group.result c.ask_group.ensures.asked c.args.report.now
    c.args.report.now c.from_residual.result c.from_residual.ensures.0)

pub returns-in_err-answers-in-len1-up-clause-trace : goal.returns-in_err-answers-in-len1-up-clause-trace
returns-in_err-answers-in-len1-up-clause-trace g t c =
    let w = c.args.setting.now.widths in
    subst (λ (l : List GroupQuery). GrewBy c.args.trace.now c.ask_group.new.trace (group_traces w (length c.args.setting.now.rows.now) l) c.from_residual.result)
    (sym (first_rest c.args.groups.now _ c.in-len1-up.len_at_least))
    (by_cut c.args.trace.now c.ask_group.new.trace _ _ c.ask_group.result c.from_residual.result c.from_residual.ensures.0 c.ask_group.ensures.trace)

pub returns-in_err-push_buckets-in-len1-up-clause-asked : goal.returns-in_err-push_buckets-in-len1-up-clause-asked
returns-in_err-push_buckets-in-len1-up-clause-asked g t c =
    let w = c.args.setting.now.widths in
    let s = seen c.args.setting.now in
    let result = c.from_residual-in_err-push_buckets-in-len1-up.result in
    subst (λ (l : List GroupQuery). GroupsAsked g.W.Wire.sight w s c.args.index l c.args.wire.now c.ask_group.new.wire c.args.report.now c.push_buckets.new.report result)
    (sym (first_rest c.args.groups.now _ c.in-len1-up.len_at_least))
    (groups_stopped g.W.Wire.sight w s c.args.index _ _ c.args.wire.now c.ask_group.new.wire c.ask_group.result c.ask_group.ensures.asked c.args.report.now
    c.push_buckets.new.report result c.from_residual-in_err-push_buckets-in-len1-up.ensures.0)

pub returns-in_err-push_buckets-in-len1-up-clause-trace : goal.returns-in_err-push_buckets-in-len1-up-clause-trace
returns-in_err-push_buckets-in-len1-up-clause-trace g t c =
    let w = c.args.setting.now.widths in
    let result = c.from_residual-in_err-push_buckets-in-len1-up.result in
    subst (λ (l : List GroupQuery). GrewBy c.args.trace.now c.ask_group.new.trace (group_traces w (length c.args.setting.now.rows.now) l) result)
    (sym (first_rest c.args.groups.now _ c.in-len1-up.len_at_least))
    (by_cut c.args.trace.now c.ask_group.new.trace _ _ c.ask_group.result result c.from_residual-in_err-push_buckets-in-len1-up.ensures.0 c.ask_group.ensures.trace)

pub ask_groups-requires-clause-legal : goal.ask_groups-requires-clause-legal
ask_groups-requires-clause-legal g t c κs within =
    later_legal c.args.setting.now.widths (seen c.args.setting.now) c.args.groups.now c.in-len1-up.len_at_least c.requires.legal

pub returns-in-empty-clause-asked : goal.returns-in-empty-clause-asked
returns-in-empty-clause-asked g t c =
    let w = c.args.setting.now.widths in
    let s = seen c.args.setting.now in
    subst (λ (l : List GroupQuery). GroupsAsked g.W.Wire.sight w s c.args.index l c.args.wire.now c.args.wire.now c.args.report.now c.args.report.now (Ok tt))
    (sym (no_groups c.args.groups.now c.in-empty.len_below)) (groups_none g.W.Wire.sight w s c.args.index g.met.W.Wire.none_passes c.args.wire.now c.args.report.now)

pub returns-in_ok-push_buckets-in-len1-up-clause-asked : goal.returns-in_ok-push_buckets-in-len1-up-clause-asked
returns-in_ok-push_buckets-in-len1-up-clause-asked g t c =
    let w = c.args.setting.now.widths in
    let s = seen c.args.setting.now in
    subst (λ (l : List GroupQuery). GroupsAsked g.W.Wire.sight w s c.args.index l c.args.wire.now c.ask_groups.new.wire c.args.report.now c.ask_groups.new.report c.ask_groups.result)
    (sym (first_rest c.args.groups.now _ c.in-len1-up.len_at_least))
    (groups_more g.W.Wire.sight w s c.args.index g.met.W.Wire.both_pass _ _ c.args.wire.now c.ask_group.new.wire c.ask_groups.new.wire
    c.in_ok-answers-in-len1-up.answers c.in_ok-answers-in-len1-up.ensures.asked c.args.report.now c.push_buckets.new.report c.ask_groups.new.report
    c.as_slice.result.now c.as_slice.ensures c.in_ok-push_buckets-in-len1-up.ensures c.ask_groups.result c.ask_groups.ensures.asked)

pub returns-in_ok-push_buckets-in-len1-up-clause-trace : goal.returns-in_ok-push_buckets-in-len1-up-clause-trace
returns-in_ok-push_buckets-in-len1-up-clause-trace g t c =
    let w = c.args.setting.now.widths in
    subst (λ (l : List GroupQuery). GrewBy c.args.trace.now c.ask_groups.new.trace (group_traces w (length c.args.setting.now.rows.now) l) c.ask_groups.result)
    (sym (first_rest c.args.groups.now _ c.in-len1-up.len_at_least))
    (by_then c.args.trace.now c.ask_group.new.trace c.ask_groups.new.trace _ _ c.ask_groups.result c.in_ok-answers-in-len1-up.ensures.trace c.ask_groups.ensures.trace)
