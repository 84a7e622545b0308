use Rattle.std.proofs.Common.{◌≡◌, ◌∙◌, refl, sym, ap, subst, All, length, set}
use Rattle.table_schema.specs.Widths.{Holds}
use Rattle.table_schema.specs.declared.widths.Widths.{Widths}
use Rattle.prefix_log.specs.declared.bulk.Entry.{Entry}
use Rattle.waldo_core.specs.Held.{IsMachine, Table}
use Rattle.waldo_core.specs.Machines.{Seen}
use Rattle.waldo_core.specs.Orders.{Entries}
use Rattle.waldo_core.proofs.InRows.{machine_taken, first_there}
use Rattle.waldo_core.proofs.machine.Machine.append_rows.Goals as goal

pub invariant_of-self-2 : goal.invariant_of-self-2
invariant_of-self-2 g c =
    let s = c.self.inside in
    let es = c.args.entries.now in
    let t : Table = record { widths = s.widths; capacity = s.capacity; workers = s.workers; order = s.order.all; logs = s.logs; actors = s.actors.items } in
    let e = ap (λ (m : Seen). m.core) c.self.view_is ∙ c.requires.fresh in
    let all : length es ≡ t.capacity = c.requires.all ∙ sym (ap (λ (m : Seen). m.capacity) c.self.view_is) in
    let rows = subst (λ (w : Widths). All (λ (e : Entry). Holds w e.row) es) (sym (ap (λ (m : Seen). m.widths) c.self.view_is)) c.requires.held in
    let x = c.index_mut.result.now in
    let there = first_there _ s.order.capacity t c.self.invariant e x c.index_mut.ensures.value in
    let ok = c.in_ok-append_rows.ensures in
    subst (λ (o : Entries). IsMachine _ o.capacity (record { widths = s.widths; capacity = s.capacity; workers = s.workers; order = o.all; logs = c.append_rows.new.self; actors = set s.actors.items 0 (record x { floor = length es }) }))
    (sym c.add_all.ensures)
    (machine_taken _ s.order.capacity t c.self.invariant e es all rows c.append_rows.new.self ok.zero ok.one ok.two x (record x { floor = length es }) there refl)
