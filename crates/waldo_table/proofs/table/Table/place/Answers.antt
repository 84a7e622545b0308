use Rattle.std.proofs.Common.{◌≡◌, sym, subst, slice_get, Some}
use Rattle.waldo_table.specs.Tables.{PassView}
use Rattle.waldo_table.proofs.Appending.{entry_after}
use Rattle.waldo_table.proofs.table.Table.place.Goals as goal

pub returns-clause-entry : goal.returns-clause-entry
returns-clause-entry g c =
    subst (λ (p : PassView). slice_get p.sight.order c.put.new.drawn.place ≡ Some c.put.new.drawn.entry) (sym c.rise.ensures)
    (entry_after c.args.server _ _ _ _ c.put.ensures.drawn c.put.ensures.grows.order c.requires.entry)
