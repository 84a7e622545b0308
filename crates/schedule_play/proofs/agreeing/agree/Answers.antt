use Rattle.std.proofs.Common.{◌≡◌, ◌∙◌, ap}
use Rattle.waldo_core.specs.Core.Fixes.{Unfixed}
use Rattle.waldo_core.specs.Machines.{Seen}
use Rattle.schedule_play.specs.AllAgreed.{core_fixed}
use Rattle.schedule_play.specs.Appended.{seeded_rows}
use Rattle.schedule_play.specs.Stages.{Stage}
use Rattle.schedule_play.proofs.AllAgreed.{all_agreed}
use Rattle.schedule_play.proofs.agreeing.agree.Goals as goal

pub returns-clause-agreed : goal.returns-clause-agreed
returns-clause-agreed g c =
    let s = c.args.setting.now in
    let entries = seeded_rows s.master 0 s.rows.now in
    let start : c.into_machine-machine.result.core ≡ core_fixed entries Unfixed =
    ap (λ (m : Seen). m.core) c.into_machine-machine.ensures ∙ ap (λ (t : Stage). t.core) c.in_ok-append_rows.ensures.stage in
    (all_agreed entries c.into_machine-machine.result c.fix.new.machine c.fix-2.new.machine c.fix-3.new.machine start
    c.in_ok-fix.ensures c.in_ok-fix-2.ensures c.in_ok-fix-3.ensures).0

pub returns-clause-widths : goal.returns-clause-widths
returns-clause-widths g c =
    let s = c.args.setting.now in
    let entries = seeded_rows s.master 0 s.rows.now in
    let start : c.into_machine-machine.result.core ≡ core_fixed entries Unfixed =
    ap (λ (m : Seen). m.core) c.into_machine-machine.ensures ∙ ap (λ (t : Stage). t.core) c.in_ok-append_rows.ensures.stage in
    (all_agreed entries c.into_machine-machine.result c.fix.new.machine c.fix-2.new.machine c.fix-3.new.machine start
    c.in_ok-fix.ensures c.in_ok-fix-2.ensures c.in_ok-fix-3.ensures).1
    ∙ ap (λ (m : Seen). m.widths) c.into_machine-machine.ensures ∙ c.in_ok-append_rows.ensures.ready.widths
