use Rattle.std.proofs.Common.{◌≡◌, drop}
use Rattle.std.specs.List.{list_all}
use Rattle.table_schema.specs.Name.{is_word}
use Rattle.table_schema.proofs.names.all_word.Given as goal

abbrev pub invariant-loop-b : goal.invariant-loop-b
invariant-loop-b l = list_all is_word (drop l.b-index l.bytes) ≡ list_all is_word l.bytes
