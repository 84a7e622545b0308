use Rattle.std.proofs.Common.{arith, ◌-◌, vec_len}
use Rattle.std.proofs.lemmas.Grind.{common_steps}
use Rattle.report_lines.proofs.sink.MemorySinkSink.put.Goals as goal

-- what fits is a front of the piece
pub returns-then-free-piece-clause-bytes : goal.returns-then-free-piece-clause-bytes
returns-then-free-piece-clause-bytes c = (c.self.inside.room - vec_len c.self.inside.bytes, grind (arith, common_steps))
