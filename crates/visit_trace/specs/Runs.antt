-- Visits that are kept as runs.
use Rattle.std.specs.Prelude.{◌+◌, ◌-◌, List, [], ◌++◌, Option, Some, None}
use Rattle.std.specs.List.{flat_map}
use Rattle.list_facts.specs.Listed.{listed}
use Rattle.scan_chunks.specs.declared.visit.Visit.{Visit}
use Rattle.visit_trace.specs.declared.run.Run.{Run}

-- the visits of a run: its chunks, rising
abbrev pub run_visits : Run → List Visit
run_visits r = listed (r.last - r.first + 1) (λ k. record { column = r.column; chunk = r.first + k })

-- the visits of runs, one after another
abbrev pub visits_of : List Run → List Visit
visits_of runs = flat_map run_visits runs

-- the visits of a run, and of those behind it; nothing is behind none
abbrev pub visits_from : Option Run → List Run → List Visit
visits_from None runs = []
visits_from (Some r) runs = run_visits r ++ visits_of runs
