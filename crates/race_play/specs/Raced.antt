-- What writers and askers at once came to.
use Rattle.std.specs.Prelude.{◌≡◌, ℕ, ◌+◌, ◌≤◌, Some, List, length, slice_get}
use Rattle.prefix_log.specs.Journal.{prefix}
use Rattle.report_lines.specs.declared.lines.Line.{Line}
use Rattle.wire_line.specs.declared.message.Message.{Message}
use Rattle.waldo_table.specs.Tables.{PassView}
use Rattle.race_play.specs.Askers.{AreAsked}
use Rattle.race_play.specs.Laws.{Stands}
use Rattle.race_play.specs.Printed.{IsBackLine}
use Rattle.race_play.specs.Settings.{Setting}
use Rattle.race_play.specs.declared.together.Raced.{Raced}

-- each server has the first n places, as the pass has seen
pub record HasFirst (n : ℕ) (p : PassView) : Type 0 where
  pub zero : n ≤ prefix p.zero.seen
  pub one : n ≤ prefix p.one.seen
  pub two : n ≤ prefix p.two.seen

-- An order of all rows, which is that of the pass; the servers have all of them; no room is left but what no row needs. Then a line for
-- each writer over that order, and the lines of the askers, with their messages.
pub record IsRaced (s : Setting) (p : PassView) (sent : List (List Message)) (r : Raced) : Type 0 where
  pub places : List (List ℕ)
  pub stands : Stands s.rows s.master s.writers p.sight.order places r.order.items
  pub all : HasFirst (length s.rows) p
  pub floor : p.floor ≤ length s.rows
  pub full : p.sight.book.capacity ≤ p.sight.room + length s.rows
  pub long : length r.backs.items ≡ s.writers
  pub backs : (w : ℕ) (line : Line) → slice_get r.backs.items w ≡ Some line → IsBackLine (length s.rows) s.writers r.order.items w line
  pub askers : length sent ≡ s.askers
  pub asks : AreAsked s.widths s.queries s.master s.rounds p.sight.order 0 sent r.asks
