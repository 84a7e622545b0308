use Rattle.std.proofs.Common.{◌≡◌, ◌++◌, take}
use Rattle.race_play.specs.Reports.{place_lines}
use Rattle.race_play.proofs.report.push_places.Given as goal

abbrev pub invariant-loop-place : goal.invariant-loop-place
invariant-loop-place l = (l.report ≡ l.initial.report ++ place_lines 0 (take l.place l.order))
