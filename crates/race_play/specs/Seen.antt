-- What the servers see of a race, as a function of what its report prints.
use Rattle.std.specs.Prelude.{◌≡◌, ℕ, zero, suc, ◌≤◌, Result, Ok, Err, List, [], ◌∷◌, ◌++◌, length}
use Rattle.std.specs.List.{flat_map}
use Rattle.prg_chacha.specs.declared.seed.Seed.{Seed}
use Rattle.query_plan.specs.Query.{shaped}
use Rattle.query_plan.specs.declared.query.Query.{Query}
use Rattle.report_lines.specs.declared.lines.Line.{Line}
use Rattle.report_lines.specs.declared.lines.Line.TheVariants as lines
use Rattle.ring128.specs.declared.memory.Memory.{Memory}
use Rattle.table_schema.specs.declared.widths.Widths.{Widths}
use Rattle.visit_trace.specs.Expected.{trace_of}
use Rattle.visit_trace.specs.Growing.{seen_then}
use Rattle.visit_trace.specs.Seen.{AllSeen, Grew, GrewPrefix, alike, nothing}
use Rattle.race_play.specs.Questions.{Question, ends_of, rounds_of}
use Rattle.race_play.specs.Settings.{Setting}

-- the number of rows that the line of an answer says, or of a pair that the check refused; another line says none
abbrev pub rows_said : Line → List ℕ
rows_said (lines.Answer by rows aggregate total) = rows ∷ []
rows_said (lines.Altered by rows total weighted) = rows ∷ []
rows_said line = []

-- those that lines say, in order
abbrev pub rows_answered : List Line → List ℕ
rows_answered said = flat_map rows_said said

-- what the servers see of a query over n rows: the trace of its sizes, which are n, the widths, and the query's shape
abbrev pub query_seen : Widths → Query → ℕ → AllSeen
query_seen w query n = trace_of (record { rows = n; widths = w; shape = shaped query })

-- of questions, each over its number of rows, one after another: of as many as there are numbers
abbrev pub asked_seen : Widths → List Question → List ℕ → AllSeen
asked_seen w [] ns = alike nothing
asked_seen w (x ∷ xs) [] = alike nothing
asked_seen w (x ∷ xs) (n ∷ ns) = seen_then (query_seen w x.query n) (asked_seen w xs ns)

-- what askers ask in their rounds, `count` askers from one on, one asker after another
abbrev pub rounds_from : List Query → Seed → ℕ → ℕ → ℕ → List Question
rounds_from queries master rounds asker zero = []
rounds_from queries master rounds asker (suc count) =
    rounds_of queries master asker rounds ++ rounds_from queries master rounds (suc asker) count

-- the rounds of all askers of a race
abbrev pub all_rounds : Setting → List Question
all_rounds s = rounds_from s.queries s.master s.rounds 0 s.askers

-- all that is asked in a race, in the order in which its report prints it: the rounds of each asker, and then each query at the end
abbrev pub all_questions : Setting → List Question
all_questions s = all_rounds s ++ ends_of s.queries s.master (length s.queries)

-- what the servers see of a race, by its report: of each question the trace of its sizes, over the number of rows that its line says
abbrev pub report_seen : Setting → List Line → AllSeen
report_seen s said = asked_seen s.widths (all_questions s) (rows_answered said)

-- a line says this number of rows, and a trace grew by what the servers see of a query over as many
abbrev pub NotesLine : Widths → Query → ℕ → AllSeen → AllSeen → Line → Type 0
NotesLine w query n old new line = (rows_said line ≡ n ∷ []) × Grew old new (query_seen w query n)

-- a trace grew by what the servers see of these questions, each over the number of rows that its line says
pub record NotesAll (w : Widths) (xs : List Question) (said : List Line) (old new : AllSeen) : Type 0 where
  pub each : length (rows_answered said) ≡ length xs
  pub grew : Grew old new (asked_seen w xs (rows_answered said))

-- a trace grew, at each server, by a prefix of what is seen of the first of these questions, over some numbers of rows
pub record NotesFirst (w : Widths) (xs : List Question) (old new : AllSeen) : Type 0 where
  pub rows : List ℕ
  pub few : length rows ≤ length xs
  pub grew : GrewPrefix old new (asked_seen w xs rows)

-- a trace before and after questions: it grew by what is seen of them; out of memory by a prefix
abbrev pub Notes : Widths → List Question → AllSeen → AllSeen → Result (List Line) Memory → Type 0
Notes w xs old new (Ok said) = NotesAll w xs said old new
Notes w xs old new (Err e) = NotesFirst w xs old new
