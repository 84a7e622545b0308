use Rattle.std.proofs.Common.{◌≡◌, length, map, replicate, take}
use Rattle.race_play.specs.Filled.{filled_all}
use Rattle.race_play.proofs.order.printed.Given as goal

abbrev pub invariant-loop-w : goal.invariant-loop-w
invariant-loop-w l = record {
  done : l.printed.items ≡ filled_all l.writers (length l.rows) (replicate (length l.rows) (length l.rows)) 0 (map (λ v. v.items) (take l.w l.gathered.places.items));
  long : length l.printed.items ≡ length l.rows;
}
