-- What the definitions say together.
use Rattle.std.specs.Prelude.{◌≡◌, ℕ, ◌%◌, ◌<◌, ◌≤◌, Some, List, length, map, slice_get}
use Rattle.list_facts.specs.Count.{times}
use Rattle.prg_chacha.specs.declared.seed.Seed.{Seed}
use Rattle.query_plan.specs.Query.{shaped}
use Rattle.table_schema.specs.declared.rows.Row.{Row}
use Rattle.race_play.specs.Filled.{IsGathered, filled_all}
use mathlib.Core.List.{IsPrefix}
use Rattle.report_lines.specs.declared.lines.Line.{Line}
use Rattle.waldo_table.specs.Tables.{PassView}
use Rattle.race_play.specs.Printed.{At, IsBackLine, IsOrder, IsPast}
use Rattle.race_play.specs.Seen.{report_seen, rows_answered}
use Rattle.race_play.specs.Settings.{Setting}
use Rattle.race_play.specs.Turns.{turns}
use Rattle.race_play.specs.Writes.{IsEntry, Wrote_back, floor_over}

-- Of what was gathered: the order that is filled from the writers' places is an order of all rows; the table's order has at each place the
-- row that stands there, with its writer's seed; 1 plus a writer's last place is what its floor rose to; and a place that is none of a
-- writer's has another writer's row
pub record Stands (rows : List Row) (master : Seed) (writers : ℕ) (order : List (Row × Seed)) (places : List (List ℕ))
    (printed : List ℕ) : Type 0 where
  pub same : length order ≡ length rows
  pub is_order : IsOrder (length rows) writers printed
  pub entries : (place i : ℕ) → At printed place i → IsEntry rows master (i % writers) order i place
  pub past : (w : ℕ) (own : List ℕ) → slice_get places w ≡ Some own → IsPast writers w printed (floor_over 0 own)
  pub others : (w : ℕ) (own : List ℕ) (place i : ℕ) → slice_get places w ≡ Some own → At printed place i → times place own ≡ 0
      → ¬ (i % writers ≡ w)

-- a list of as many blanks as there are rows
pub record AreBlank (n : ℕ) (xs : List ℕ) : Type 0 where
  pub long : length xs ≡ n
  pub blank : (x : ℕ) → x < n → slice_get xs x ≡ Some n

abbrev pub GatheredStands : Type 0
GatheredStands = (rows : List Row) (master : Seed) (writers : ℕ) (order : List (Row × Seed)) (places : List (List ℕ)) (blanks : List ℕ)
    → IsGathered rows master writers order places → AreBlank (length rows) blanks
    → Stands rows master writers order places (filled_all writers (length rows) blanks 0 places)

-- the line of a writer that began with nothing seen is a line over the printed order
abbrev pub BacksStand : Type 0
BacksStand = (rows : List Row) (master : Seed) (writers : ℕ) (order : List (Row × Seed)) (places : List (List ℕ)) (printed : List ℕ)
    → Stands rows master writers order places printed
    → (w : ℕ) (own : List ℕ) (p : PassView) (line : Line) (q : PassView) → slice_get places w ≡ Some own → p.floor ≡ 0
    → Wrote_back rows master w (turns w writers (length rows)) p own line q
    → IsPrefix q.sight.order order → q.floor ≤ length q.sight.order → IsBackLine (length rows) writers printed w line

-- Races over columns of equal widths, with equally many askers and rounds and with queries of equal shapes, whose reports say equal numbers
-- of rows: the servers see the same of them, whatever the rows hold, whatever the queries' bounds and the seeds are, and in whichever
-- order the threads ran.
abbrev pub RacesLookAlike : Type 0
RacesLookAlike = (s t : Setting) (said more : List Line) → s.widths ≡ t.widths → map shaped s.queries ≡ map shaped t.queries
    → s.askers ≡ t.askers → s.rounds ≡ t.rounds → rows_answered said ≡ rows_answered more → report_seen s said ≡ report_seen t more
