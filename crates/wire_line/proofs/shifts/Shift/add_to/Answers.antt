use Rattle.std.proofs.Common.{arith}
use Rattle.wire_line.proofs.Amounts.{shift_hit, shift_miss}
use Rattle.wire_line.proofs.shifts.Shift.add_to.Goals as goal
use Rattle.wire_line.proofs.shifts.Shift.add_to.Goals.{else-self-message-via-then-self-message+else-self-words, else-self-message-via-else-self-message}

pub returns-then-self-words : goal.returns-then-self-words
returns-then-self-words c =
    rw c.add.ensures (shift_hit c.args.self.now c.args.message c.args.words.now (λ i h. c.requires i 0 h) (omega arith) (omega arith))

pub returns-else-self-message : goal.returns-else-self-message
returns-else-self-message c =
    shift_miss c.args.self.now c.args.message c.args.words.now (λ i h. c.requires i 0 h)
    (λ e h. elim c.else-self-message.branch [
      | else-self-message-via-then-self-message+else-self-words w ↦ omega arith
      | else-self-message-via-else-self-message w ↦ omega arith
    ])
