-- The names of what may be missing of a command's words.
use Rattle.std.specs.Prelude.{ℕ, List, codes}
use Rattle.report_lines.specs.declared.names.Name.{Name}
use Rattle.report_lines.specs.declared.names.Name.TheVariants.{Command, Schema, Query, Schedule, Number, Rows, Shift, From, To}

abbrev pub name_text : Name → List ℕ
name_text Command = codes "command"
name_text Schema = codes "schema"
name_text Query = codes "--query"
name_text Schedule = codes "--schedule"
name_text Number = codes "--number"
name_text Rows = codes "--rows"
name_text Shift = codes "--shift"
name_text From = codes "--from"
name_text To = codes "--to"
