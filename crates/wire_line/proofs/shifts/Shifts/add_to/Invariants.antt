use Rattle.std.proofs.Common.{◌≡◌, take}
use Rattle.wire_line.specs.Shifts.{shifted}
use Rattle.wire_line.proofs.shifts.Shifts.add_to.Given as goal

abbrev pub invariant-loop-shift : goal.invariant-loop-shift
invariant-loop-shift l = l.words ≡ shifted (take l.shift-index l.shift-items) l.message l.fn.words
