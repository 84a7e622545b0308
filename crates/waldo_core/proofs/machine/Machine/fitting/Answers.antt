use Rattle.std.proofs.Common.{ap}
use Rattle.std.proofs.lemmas.Result.{IfOk-at_ok}
use Rattle.waldo_core.specs.Orders.{Entries}
use Rattle.waldo_core.proofs.Begun.{new_kept}
use Rattle.waldo_core.proofs.machine.Machine.fitting.Goals as goal

pub invariant_of-result : goal.invariant_of-result
invariant_of-result c =
    let is = c.in_ok-logs.was in
    new_kept _ _ c.args.widths.now c.args.capacity c.args.workers c.in_ok-new.field-0.all c.in_ok-logs.field-0 c.in_ok-fresh_actors.field-0.items c.requires.fits
    (ap (λ (o : Entries). o.capacity) c.in_ok-new.ensures) c.requires.some c.requires.few (ap (λ (o : Entries). o.all) c.in_ok-new.ensures)
    (IfOk-at_ok _ is c.requires.zero) (IfOk-at_ok _ is c.requires.one) (IfOk-at_ok _ is c.requires.two) c.in_ok-fresh_actors.ensures
