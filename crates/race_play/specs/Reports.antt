-- What a race prints. No order in time of its threads is fixed, so this is a relation.
use Rattle.std.specs.Prelude.{◌≡◌, ℕ, suc, ◌%◌, Bool, true, false, Some, List, [], ◌∷◌, ◌++◌, length, slice_get}
use Rattle.prg_chacha.specs.declared.seed.Seed.{Seed}
use Rattle.report_lines.specs.declared.lines.Line.{Line}
use Rattle.report_lines.specs.declared.lines.Line.TheVariants as lines
use Rattle.table_schema.specs.declared.rows.Row.{Row}
use Rattle.wire_line.specs.declared.message.Message.{Message}
use Rattle.race_play.specs.Askers.{AreAsked, more_over_first}
use Rattle.race_play.specs.Printed.{At, IsBackLine, IsOrder}
use Rattle.race_play.specs.Questions.{Gave, ends_of}
use Rattle.race_play.specs.Settings.{Setting}
use Rattle.race_play.specs.Writes.{IsEntry}

-- the entries of the printed order: at each place the row that is printed, with its writer's seed
pub record AreEntriesOf (s : Setting) (order : List ℕ) (entries : List (Row × Seed)) : Type 0 where
  pub long : length entries ≡ length s.rows
  pub each : (place i : ℕ) → At order place i → IsEntry s.rows s.master (i % s.writers) entries i place

-- a line for each place, rising
abbrev pub place_lines : ℕ → List ℕ → List Line
place_lines place [] = []
place_lines place (i ∷ order) = lines.Place place i ∷ place_lines (suc place) order

-- A report: how many rows there are, which row stands at each place, what each writer saw after its rows, what each asker was answered
-- round by round, and each query over all rows; all over the one printed order. The messages went over the askers' wires, those of the last
-- queries over the first one.
pub record Reports (s : Setting) (sent : List (List Message)) (said : List Line) : Type 0 where
  pub order : List ℕ
  pub entries : List (Row × Seed)
  pub backs : List Line
  pub asks : List Line
  pub ends : List Line
  pub rounds : List (List Message)
  pub last : List Message
  pub text : said ≡ lines.Rows (length s.rows) ∷ place_lines 0 order ++ backs ++ asks ++ ends
  pub is_order : IsOrder (length s.rows) s.writers order
  pub are_entries : AreEntriesOf s order entries
  pub all_backs : length backs ≡ s.writers
  pub back : (w : ℕ) (line : Line) → slice_get backs w ≡ Some line → IsBackLine (length s.rows) s.writers order w line
  pub all_askers : length rounds ≡ s.askers
  pub asked : AreAsked s.widths s.queries s.master s.rounds entries 0 rounds asks
  pub ended : Gave s.widths entries (length s.rows) (ends_of s.queries s.master (length s.queries)) last ends
  pub over : sent ≡ more_over_first last rounds

-- a line of a pair that the check refused
abbrev pub is_altered : Line → Bool
is_altered (lines.Answer by rows aggregate total) = false
is_altered (lines.Altered by rows total weighted) = true
is_altered (lines.Again by server had floor) = false
is_altered (lines.Draw actor place) = false
is_altered (lines.Look actor server prefix) = false
is_altered (lines.Rows count) = false
is_altered (lines.Place place row) = false
is_altered (lines.Back writer rows) = false
is_altered (lines.BackAgain writer server had floor) = false
is_altered (lines.Trace index server visits words) = false
is_altered (lines.Tree low high total nodes) = false
is_altered (lines.TreeAltered total weighted) = true
is_altered (lines.Group index bucket rows aggregate total) = false
is_altered (lines.GroupAltered index bucket total weighted) = true
is_altered (lines.BadWord index) = false
is_altered (lines.Missing name) = false
is_altered (lines.BadStep index) = false
is_altered lines.ReadFault = false
is_altered lines.TooLong = false
is_altered lines.Header = false
is_altered (lines.BadRecord number why) = false
is_altered (lines.TooMany capacity) = false
is_altered (lines.TooFew wanted) = false
