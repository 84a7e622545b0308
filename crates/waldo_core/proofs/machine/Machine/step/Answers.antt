use Rattle.std.proofs.Common.{◌∙◌, sym}
use Rattle.waldo_core.specs.Answers.{IsPlain}
use Rattle.waldo_core.proofs.Accepted.{not_altered, refused_none}
use Rattle.waldo_core.proofs.machine.Machine.step.Goals as goal

pub returns-clause-stepped : goal.returns-clause-stepped
returns-clause-stepped g c = rw c.outcome_of.ensures c.act-done.ensures.stepped

pub returns-clause-accepted : goal.returns-clause-accepted
returns-clause-accepted g c still =
    let h = c.act-done.ensures.stepped in
    rw c.outcome_of.ensures (not_altered _ (IsPlain c.args.self.now.core c.args.event h.1) (h.4 (h.2.honest still)))

pub returns-clause-refused : goal.returns-clause-refused
returns-clause-refused g c given e = c.act-done.ensures.refused (refused_none c.args.event given c.act-done.result (sym c.outcome_of.ensures ∙ e))

pub returns-clause-trace : goal.returns-clause-trace
returns-clause-trace g c = rw c.outcome_of.ensures c.act-done.ensures.trace
