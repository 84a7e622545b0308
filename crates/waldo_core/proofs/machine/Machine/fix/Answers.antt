use Rattle.std.proofs.Common.{◌∙◌}
use Rattle.std.proofs.lemmas.Option.{slice_get_read}
use Rattle.waldo_core.proofs.Fixing.{fixed_done, fixed_kept}
use Rattle.waldo_core.proofs.machine.Machine.fix.Goals as goal

pub invariant_of-self-2 : goal.invariant_of-self-2
invariant_of-self-2 c =
    let m = c.self.inside in
    let here = slice_get_read m.actors.items c.len.result c.args.number c.index_mut.result.now (c.len.ensures ∙ m.actors.ok.0) c.if-i-len.false c.index_mut.ensures.value in
    fixed_kept _ _ _ c.args.number c.index_mut.result.now c.fix.new.self c.fix.new.logs c.self.invariant here c.fix.ensures.logs c.in_ok-reply.reply
    (rw c.sight.ensures at c.fix.ensures.first) c.in_ok-reply.ensures.fixed

pub returns : goal.returns
returns c =
    let m = c.self.inside in
    let here = slice_get_read m.actors.items c.len.result c.args.number c.index_mut.result.now (c.len.ensures ∙ m.actors.ok.0) c.if-i-len.false c.index_mut.ensures.value in
    fixed_done _ _ _ c.args.number c.index_mut.result.now c.fix.new.self c.fix.new.logs c.self.invariant here c.fix.ensures.logs c.in_ok-reply.reply
    (rw c.sight.ensures at c.fix.ensures.first) c.in_ok-reply.ensures.fixed c.args.self.now c.self.view_is
