use Rattle.std.proofs.Common.{take, arith}
use Rattle.wire_line.proofs.Amounts.{shifted_none, shifted_more, small_shifted}
use Rattle.wire_line.proofs.shifts.Shifts.add_to.Goals as goal

pub loop-shift-init : goal.loop-shift-init
loop-shift-init c = shifted_none c.args.message c.args.words.now (λ i h. omega (arith, c.type_inv.words i))

pub loop-shift-preserved : goal.loop-shift-preserved
loop-shift-preserved c = rw (c.add_to.ensures, c.loop-shift.invariant) (shifted_more c.deref-shift-items.result.now c.loop-shift.shift-index _ c.args.message c.args.words.now (omega arith))

pub add_to-requires : goal.add_to-requires
add_to-requires c = rw c.loop-shift.invariant (small_shifted (take c.loop-shift.shift-index c.deref-shift-items.result.now) c.args.message c.args.words.now)
