use Rattle.std.proofs.Common.{◌≡◌, ◌<◌, ℕ, true, get_or}
use Rattle.prefix_log.specs.declared.bulk.Trio.{Trio}
use Rattle.prefix_log.proofs.bulk.all_done.Given as goal

abbrev pub invariant-loop-trio : goal.invariant-loop-trio
invariant-loop-trio l = (j : ℕ) (d : Trio) → j < l.trio-index → (get_or l.trios j d).done ≡ true
