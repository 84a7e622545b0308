use Rattle.std.proofs.Common.{◌≡◌, ◌+◌, ◌≤◌, length, All}
use Rattle.waldo_table.specs.Tables.{Grows, IsOf}
use Rattle.race_play.specs.Gathers.{IsAll}
use Rattle.race_play.specs.Jobs.{AreNumbered, IsDone}
use Rattle.race_play.proofs.gather.gather_all.Given as goal

abbrev pub invariant-loop-jobs : goal.invariant-loop-jobs
invariant-loop-jobs l = record {
  of : IsOf l.table l.pass;
  grows : Grows l.initial.pass l.pass;
  room : l.initial.pass.sight.room ≤ l.pass.sight.room;
  all : IsAll l.rows l.master l.writers l.pass l.gathered;
  done : All (IsDone l.table l.rows l.master l.writers) l.jobs.items;
  numbered : AreNumbered (length l.gathered.places.items) l.jobs.items;
  count : length l.gathered.places.items + length l.jobs.items ≡ length l.initial.jobs.items;
}

abbrev pub decreases-loop-jobs : goal.decreases-loop-jobs
decreases-loop-jobs l = length l.jobs.items
