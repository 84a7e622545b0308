use Rattle.std.proofs.Common.{◌≡◌, ◌++◌, map, take}
use Rattle.waldo_core.specs.InBulk.{pair_of}
use Rattle.waldo_core.proofs.order.Order.add_all.Given as goal

abbrev pub invariant-loop-entry : goal.invariant-loop-entry
invariant-loop-entry l = l.self ≡ record l.fn.self { all = l.fn.self.all ++ map pair_of (take l.entry-index l.entries) }
