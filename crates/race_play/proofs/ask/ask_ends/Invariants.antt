use Rattle.std.proofs.Common.{◌≡◌}
use Rattle.waldo_table.specs.Tables.{Grows, IsCovered, IsOf}
use Rattle.race_play.specs.Questions.{ends_of}
use Rattle.race_play.specs.Seen.{NotesAll}
use Rattle.race_play.proofs.Answering.{SoFar}
use Rattle.race_play.proofs.ask.ask_ends.Given as goal

abbrev pub invariant-loop-q : goal.invariant-loop-q
invariant-loop-q g l = record {
  of : IsOf l.table l.pass;
  grows : Grows l.fn.pass l.pass;
  own : l.pass.sight ≡ record l.fn.pass.sight { order = l.pass.sight.order };
  covered : IsCovered l.pass;
  seen : NotesAll l.table.widths (ends_of l.queries l.master l.q) l.said l.fn.trace l.trace;
  asked : SoFar g.W.Wire.sight l.table.widths l.rows l.pass (ends_of l.queries l.master l.q) l.said l.fn.wire l.wire;
}
