-- What `trace` prints: how much each server saw of each query, from numbers that are not secret.
use Rattle.std.specs.Prelude.{ℕ, ◌+◌, List, [], ◌∷◌, ◌++◌}
use Rattle.report_lines.specs.declared.lines.Line.{Line}
use Rattle.report_lines.specs.declared.lines.Line.TheVariants as lines
use Rattle.table_schema.specs.declared.shapes.Shape.{Shape}
use Rattle.visit_trace.specs.Counts.{visits_over, words_over}
use Rattle.waldo_run.specs.declared.seen.Counts.{Counts}
use Rattle.waldo_run.specs.declared.seen.Noted.{Noted}

-- what is seen of a query is the same at each server, and rests on the bits of the columns, the number of rows and the query's shape
-- alone: as many visits and words as the trace of these sizes has
abbrev pub noted_over : List ℕ → ℕ → Shape → Noted
noted_over bits n shape =
    let counts : Counts = record { visits = visits_over n shape; words = words_over bits n shape } in
    record { zero = counts; one = counts; two = counts }

-- the lines of query i, one for each server
abbrev pub trace_lines : ℕ → Noted → List Line
trace_lines i seen = lines.Trace i 0 seen.zero.visits seen.zero.words ∷ lines.Trace i 1 seen.one.visits seen.one.words
    ∷ lines.Trace i 2 seen.two.visits seen.two.words ∷ []

-- of the lines of `ask`, that of a refused pair is printed here too
abbrev pub refused_line : Line → List Line
refused_line (lines.Altered who rows total weighted) = lines.Altered who rows total weighted ∷ []
refused_line line = []

-- the lines of queries, the first of which is query i, in place of those that `ask` has for them
abbrev pub traced : ℕ → List Noted → List Line → List Line
traced i [] report = []
traced i (seen ∷ rest) [] = []
traced i (seen ∷ rest) (line ∷ report) = refused_line line ++ trace_lines i seen ++ traced (i + 1) rest report
