use Rattle.std.proofs.Common.{◌∙◌}
use Rattle.std.proofs.lemmas.Option.{slice_get_read}
use Rattle.waldo_core.proofs.Looked.{looked_done, looked_kept}
use Rattle.waldo_core.proofs.machine.Machine.look.Goals as goal

pub invariant_of-self : goal.invariant_of-self
invariant_of-self c =
    let m = c.self.inside in
    let here = slice_get_read m.actors.items c.len.result c.args.number c.index_mut.result.now (c.len.ensures ∙ m.actors.ok.0) c.if-i-len.false c.index_mut.ensures.value in
    looked_kept _ _ _ c.args.number c.args.server c.index_mut.result.now c.look.new.self c.self.invariant here c.look.result c.look.ensures

pub returns : goal.returns
returns c =
    let m = c.self.inside in
    let here = slice_get_read m.actors.items c.len.result c.args.number c.index_mut.result.now (c.len.ensures ∙ m.actors.ok.0) c.if-i-len.false c.index_mut.ensures.value in
    looked_done _ _ _ c.args.number c.args.server c.index_mut.result.now c.look.new.self c.self.invariant here c.args.self.now c.look.result c.self.view_is c.look.ensures
