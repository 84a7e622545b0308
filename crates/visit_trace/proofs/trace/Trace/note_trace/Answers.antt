use Rattle.std.proofs.Common.{refl}
use Rattle.visit_trace.proofs.Stopped.{stopped_zero, stopped_one}
use Rattle.visit_trace.proofs.trace.Trace.note_trace.Goals as goal

pub returns-in_err-add : goal.returns-in_err-add
returns-in_err-add c =
    let zero = c.in_err-add.ensures in
    stopped_zero _ _ _ _ _ _ c.self.view_is c.other.view_is c.from_residual.ensures.0 (record { visits = zero.fewer; lengths = zero.shorter }) refl refl

pub returns-in_err-add-2 : goal.returns-in_err-add-2
returns-in_err-add-2 c =
    let zero = c.in_ok-add.ensures in
    let one = c.in_err-add-2.ensures in
    stopped_one _ _ _ _ _ _ c.self.view_is c.other.view_is c.from_residual-in_err-add-2.ensures.0 (record { visits = zero.visits; lengths = zero.lengths })
    (record { visits = one.fewer; lengths = one.shorter })
    refl
