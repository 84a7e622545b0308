use Rattle.std.proofs.Common.{arith}
use Rattle.server_rounds.proofs.Parts.{total_of-below}
use Rattle.server_rounds.proofs.part.total.Goals as goal

pub loop-word-init : goal.loop-word-init
loop-word-init c = omega (arith, total_of-below c.args.words.now)
