use Rattle.std.proofs.Common.{◌∙◌}
use Rattle.std.proofs.lemmas.Option.{slice_get_read}
use Rattle.waldo_core.proofs.Placed.{can_place, placed_done, placed_kept}
use Rattle.waldo_core.proofs.machine.Machine.place.Goals as goal

pub place-requires : goal.place-requires
place-requires c =
    let m = c.self.inside in
    let here = slice_get_read m.actors.items c.len.result c.args.number c.index_mut.result.now (c.len.ensures ∙ m.actors.ok.0) c.if-i-len.false c.index_mut.ensures.value in
    can_place _ _ _ c.args.number c.args.server c.index_mut.result.now c.self.invariant here

pub invariant_of-self : goal.invariant_of-self
invariant_of-self c =
    let m = c.self.inside in
    let here = slice_get_read m.actors.items c.len.result c.args.number c.index_mut.result.now (c.len.ensures ∙ m.actors.ok.0) c.if-i-len.false c.index_mut.ensures.value in
    placed_kept _ _ _ c.args.number c.args.server c.index_mut.result.now c.place.new.self c.place.new.logs c.self.invariant here c.place.result c.place.ensures

pub returns : goal.returns
returns c =
    let m = c.self.inside in
    let here = slice_get_read m.actors.items c.len.result c.args.number c.index_mut.result.now (c.len.ensures ∙ m.actors.ok.0) c.if-i-len.false c.index_mut.ensures.value in
    placed_done _ _ _ c.args.number c.args.server c.index_mut.result.now c.place.new.self c.place.new.logs c.self.invariant here c.args.self.now c.place.result c.self.view_is c.place.ensures
