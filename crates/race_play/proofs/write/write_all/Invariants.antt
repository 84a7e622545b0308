use Rattle.waldo_table.specs.Tables.{Grows, IsOf}
use Rattle.race_play.specs.Turns.{turns}
use Rattle.race_play.specs.Writes.{Wrote}
use Rattle.race_play.proofs.write.write_all.Given as goal

abbrev pub invariant-loop-i : goal.invariant-loop-i
invariant-loop-i g l = record {
  of : IsOf l.table l.pass;
  grows : Grows l.initial.pass l.pass;
  wrote : Wrote l.rows l.master l.writer (turns l.writer l.writers l.i) l.initial.pass l.places.items l.pass;
}
