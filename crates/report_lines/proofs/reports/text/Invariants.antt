use Rattle.std.proofs.Common.{◌≡◌, take, string_bytes}
use Rattle.report_lines.specs.Line.{text_of}
use Rattle.report_lines.proofs.reports.text.Given as goal

abbrev pub invariant-loop-line : goal.invariant-loop-line
invariant-loop-line l = string_bytes l.text ≡ text_of (take l.line-index l.lines)
