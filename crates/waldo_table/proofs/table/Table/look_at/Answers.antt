use Rattle.std.proofs.Common.{arith}
use Rattle.waldo_table.proofs.Legal.{prefix_within}
use Rattle.waldo_table.proofs.table.Table.look_at.Goals as goal

pub returns-in-0-clause-most : goal.returns-in-0-clause-most
returns-in-0-clause-most g c = omega (arith, c.look.ensures.prefix, prefix_within _ _ c.look.ensures.seat.legal)

pub returns-in-1-clause-most : goal.returns-in-1-clause-most
returns-in-1-clause-most g c = omega (arith, c.look-in-1.ensures.prefix, prefix_within _ _ c.look-in-1.ensures.seat.legal)

pub returns-in_default-clause-most : goal.returns-in_default-clause-most
returns-in_default-clause-most g c = omega (arith, c.look-in_default.ensures.prefix, prefix_within _ _ c.look-in_default.ensures.seat.legal)
