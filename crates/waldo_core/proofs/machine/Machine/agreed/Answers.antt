use Rattle.std.proofs.Common.{◌∙◌}
use Rattle.std.proofs.lemmas.Option.{slice_get_read}
use Rattle.waldo_core.proofs.Answering.{agreed_there, none_there}
use Rattle.waldo_core.proofs.machine.Machine.agreed.Goals as goal

pub returns-in-Agreed-clause-some : goal.returns-in-Agreed-clause-some
returns-in-Agreed-clause-some c =
    let m = c.self.inside in
    let here = slice_get_read m.actors.items c.len.result c.args.number c.index.result.now (c.len.ensures ∙ m.actors.ok.0) c.if-i-len.false c.index.ensures in
    agreed_there _ _ _ c.args.number c.index.result.now c.in-Agreed.agreed c.args.self.now c.self.invariant here c.in-Agreed.is c.self.view_is

pub returns-in_default : goal.returns-in_default
returns-in_default c =
    let m = c.self.inside in
    let here = slice_get_read m.actors.items c.len.result c.args.number c.index.result.now (c.len.ensures ∙ m.actors.ok.0) c.if-i-len.false c.index.ensures in
    record { none = none_there _ _ _ c.args.number c.index.result.now c.args.self.now c.self.invariant here c.in_default.not-Agreed c.self.view_is; some = tt }
