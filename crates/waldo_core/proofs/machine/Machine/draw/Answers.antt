use Rattle.std.proofs.Common.{◌∙◌, ◌<◌, refl, sym, ap, subst, arith, length, Some}
use Rattle.std.proofs.lemmas.Option.{same_Some, slice_get_read}
use Rattle.table_schema.specs.Widths.{Holds}
use Rattle.table_schema.specs.declared.widths.Widths.{Widths}
use Rattle.waldo_core.specs.Held.{IsMachine}
use Rattle.waldo_core.specs.Machines.{Seen}
use Rattle.waldo_core.specs.Orders.{Entries}
use Rattle.waldo_core.specs.declared.draw.OpenDraw.{OpenDraw}
use Rattle.waldo_core.proofs.Drawn.{HasPieces, done_after, full_done, kept_after}
use Rattle.waldo_core.proofs.machine.Machine.draw.Goals as goal

pub invariant_of-self : goal.invariant_of-self
invariant_of-self c =
    let m = c.self.inside in
    subst (λ (o : Entries). IsMachine _ o.capacity (record { widths = m.widths; capacity = m.capacity; workers = m.workers; order = o.all; logs = m.logs; actors = m.actors.items }))
    (sym c.in_default.ensures.stays) c.self.invariant

pub returns-in_default : goal.returns-in_default
returns-in_default c =
    let m = c.self.inside in
    let few = c.len.ensures ∙ m.actors.ok.0 in
    let here = slice_get_read m.actors.items c.len.result c.args.number c.index.result.now few c.if-i-len.false c.index.ensures in
    full_done _ _ _ c.args.number c.args.row.now c.args.seed.now c.index.result.now here (sym c.may_draw.ensures ∙ c.if-not-may_draw.false) c.self.invariant c.add.new.self.all c.args.self.now
    (ap (λ (o : Entries). o.all) c.in_default.ensures.stays) c.in_default.ensures.full c.self.view_is

pub invariant_of-self-2 : goal.invariant_of-self-2
invariant_of-self-2 c =
    let m = c.self.inside in
    let few = c.len.ensures ∙ m.actors.ok.0 in
    let here = slice_get_read m.actors.items c.len.result c.args.number c.index.result.now few c.if-i-len.false c.index.ensures in
    let again = slice_get_read m.actors.items c.len.result c.args.number c.index_mut.result.now few c.if-i-len.false c.index_mut.ensures.value in
    let p = c.in_ok-zero.field-0 in
    let of = c.in_ok-zero.ensures in
    let draw : OpenDraw = record { place = c.in-Some.place; zero = Some p.zero; one = Some p.one; two = Some p.two } in
    let has : HasPieces m.widths c.args.row.now c.args.seed.now draw = record {
      zero = p.zero;
      one = p.one;
      two = p.two;
      at0 = refl;
      at1 = refl;
      at2 = refl;
      piece0 = of.zero;
      piece1 = of.one;
      piece2 = of.two;
      wide0 = of.zero_widths;
      wide1 = of.one_widths;
      wide2 = of.two_widths;
    } in
    let holds : Holds m.widths c.args.row.now = subst (λ (w : Widths). Holds w c.args.row.now) (sym (ap (λ (v : Seen). v.widths) c.self.view_is)) c.requires in
    let left : length m.order.all < m.capacity = omega (arith, c.in-Some.ensures.place, c.in-Some.ensures.room, c.self.invariant.room) in
    kept_after _ _ _ c.args.number c.args.row.now c.args.seed.now c.index.result.now here (sym c.may_draw.ensures ∙ c.if-not-may_draw.false) c.self.invariant draw
    left c.in-Some.ensures.place holds has c.add.new.self.all _ c.begin.new.self
    (ap (λ (o : Entries). o.all) c.in-Some.ensures.added) (ap (λ (o : Entries). o.capacity) c.in-Some.ensures.added) c.index_mut.result.now (same_Some _ _ (sym again ∙ here)) c.begin.ensures

pub returns : goal.returns
returns c =
    let m = c.self.inside in
    let few = c.len.ensures ∙ m.actors.ok.0 in
    let here = slice_get_read m.actors.items c.len.result c.args.number c.index.result.now few c.if-i-len.false c.index.ensures in
    let again = slice_get_read m.actors.items c.len.result c.args.number c.index_mut.result.now few c.if-i-len.false c.index_mut.ensures.value in
    let p = c.in_ok-zero.field-0 in
    let of = c.in_ok-zero.ensures in
    let draw : OpenDraw = record { place = c.in-Some.place; zero = Some p.zero; one = Some p.one; two = Some p.two } in
    let has : HasPieces m.widths c.args.row.now c.args.seed.now draw = record {
      zero = p.zero;
      one = p.one;
      two = p.two;
      at0 = refl;
      at1 = refl;
      at2 = refl;
      piece0 = of.zero;
      piece1 = of.one;
      piece2 = of.two;
      wide0 = of.zero_widths;
      wide1 = of.one_widths;
      wide2 = of.two_widths;
    } in
    let holds : Holds m.widths c.args.row.now = subst (λ (w : Widths). Holds w c.args.row.now) (sym (ap (λ (v : Seen). v.widths) c.self.view_is)) c.requires in
    let left : length m.order.all < m.capacity = omega (arith, c.in-Some.ensures.place, c.in-Some.ensures.room, c.self.invariant.room) in
    done_after _ _ _ c.args.number c.args.row.now c.args.seed.now c.index.result.now here (sym c.may_draw.ensures ∙ c.if-not-may_draw.false) c.self.invariant draw
    left c.in-Some.ensures.place holds has c.add.new.self.all _ c.begin.new.self
    (ap (λ (o : Entries). o.all) c.in-Some.ensures.added) (ap (λ (o : Entries). o.capacity) c.in-Some.ensures.added) c.index_mut.result.now (same_Some _ _ (sym again ∙ here)) c.begin.ensures c.args.self.now c.self.view_is
