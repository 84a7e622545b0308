use Rattle.list_facts.proofs.Prefixes.{prefix_trans}
use Rattle.waldo_table.proofs.Legal.{has_more}
use Rattle.waldo_table.proofs.under.look_again.Goals as goal

pub returns-clause-there : goal.returns-clause-there
returns-clause-there g c = has_more _ _ _ (prefix_trans _ _ _ c.join.ensures.other c.look.ensures.seat.seen) c.requires.placed.seen
