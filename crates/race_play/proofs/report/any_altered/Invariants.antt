use Rattle.std.proofs.Common.{◌≡◌, drop}
use Rattle.std.specs.List.{list_any}
use Rattle.race_play.specs.Reports.{is_altered}
use Rattle.race_play.proofs.report.any_altered.Given as goal

abbrev pub invariant-loop-line : goal.invariant-loop-line
invariant-loop-line l = list_any is_altered (drop l.line-index l.lines) ≡ list_any is_altered l.lines
