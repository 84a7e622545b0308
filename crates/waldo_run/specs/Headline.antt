-- What a user may rely on first: what `ask` and `make` print.
use Rattle.std.specs.Prelude.{◌≡◌, ◌≤◌, ℕ, Option, Some, Ok, List, length}
use Rattle.query_plan.specs.declared.query.Query.{Query}
use Rattle.row_source.specs.Input.{most_bytes}
use Rattle.schedule_play.specs.Plain.{plain_lines}
use Rattle.table_schema.specs.declared.rows.Row.{Row}
use Rattle.waldo_words.specs.declared.command.Command.{Command}
use Rattle.waldo_words.specs.declared.command.Command.TheVariants as commands
use Rattle.waldo_run.specs.Made.{made_rows}
use Rattle.waldo_run.specs.Replies.{Reply}
use Rattle.waldo_run.specs.Tasks.{bits_of, rows_in}

-- The rows that a command asks over: `ask` those of an input that is not too long, `make` those that it makes. No other command has
-- such rows.
abbrev pub AsksOver : Command → Option (List ℕ) → List Row → Type 0
AsksOver (commands.Ask common) (Some bytes) rows = (length bytes ≤ most_bytes) × (rows_in common bytes ≡ Ok rows)
AsksOver (commands.Make common number count) input rows = rows ≡ made_rows (bits_of common) number count
AsksOver command input rows = ⊥

-- status 0, and a line a query: the plain answer over all rows
abbrev pub plain_answers : List Query → List Row → Reply
plain_answers queries rows = record { status = 0; report = plain_lines rows 0 queries }
