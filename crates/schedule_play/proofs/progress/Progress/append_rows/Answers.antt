use Rattle.std.proofs.Common.{sym, subst, All, List}
use Rattle.prefix_log.specs.declared.bulk.Entry.{Entry}
use Rattle.table_schema.specs.Widths.{Holds}
use Rattle.table_schema.specs.declared.widths.Widths.{Widths}
use Rattle.schedule_play.proofs.Seeding.{held_entries}
use Rattle.schedule_play.proofs.progress.Progress.append_rows.Goals as goal

pub append_rows-requires-clause-held : goal.append_rows-requires-clause-held
append_rows-requires-clause-held g c κs within =
    let s = c.args.setting.now in
    let es = c.in_ok-entries.entries.items in
    subst (λ (l : List Entry). All (λ (e : Entry). Holds c.args.self.now.machine.widths e.row) l) (sym c.as_slice.ensures.value)
    (subst (λ (w : Widths). All (λ (e : Entry). Holds w e.row) es) (sym c.requires.ready.widths)
    (held_entries s.widths s.rows.now es c.in_ok-entries.ensures.rows c.requires.legal.held))
