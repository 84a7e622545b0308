use Rattle.waldo_table.proofs.under.settle.Goals as goal

pub look_again-requires-clause-placed : goal.look_again-requires-clause-placed
look_again-requires-clause-placed g c = c.requires.placed c.in-Placed.other c.in-Placed.is
