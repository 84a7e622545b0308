use Rattle.std.proofs.Common.{◌≡◌, ◌+◌, ℕ, length, All}
use Rattle.waldo_table.specs.Tables.{IsOf}
use Rattle.race_play.specs.Jobs.{AreNumbered, IsFresh, IsReady}
use Rattle.race_play.proofs.Sums.{tsum}
use Rattle.race_play.proofs.together.split_jobs.Given as goal

abbrev pub invariant-loop-number : goal.invariant-loop-number
invariant-loop-number l = record {
  of : IsOf l.table l.pass;
  fresh : IsFresh l.pass;
  ready : All (IsReady l.table l.rows l.writers) l.jobs.items;
  numbered : AreNumbered 0 l.jobs.items;
  long : length l.jobs.items ≡ l.number;
  room : l.pass.sight.room + tsum (λ (y : ℕ). 1) l.writers 0 l.number l.rows ≡ l.initial.pass.sight.room;
}
