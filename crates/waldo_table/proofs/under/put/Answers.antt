use Rattle.std.proofs.Common.{◌∙◌, sym}
use Rattle.waldo_table.proofs.under.put.Goals as goal

pub settle-requires-clause-placed : goal.settle-requires-clause-placed
settle-requires-clause-placed g c s is = c.requires.placed s (sym c.replace-before.ensures.value ∙ is)
