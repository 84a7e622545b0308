-- What an asker, and what several at once, need and do, each in one fact.
use Rattle.std.specs.Prelude.{◌≡◌, ℕ, ◌+◌, ◌<◌, ◌≤◌, Result, IfOk, List, [], length}
use Rattle.prg_chacha.specs.declared.seed.Seed.{Seed}
use Rattle.query_plan.specs.declared.query.Query.{Query}
use Rattle.report_lines.specs.declared.lines.Line.{Line}
use Rattle.ring128.specs.declared.memory.Memory.{Memory}
use Rattle.wire_line.specs.Messages.{Went}
use Rattle.wire_line.specs.declared.message.Message.{Message}
use Rattle.waldo_table.specs.Tables.{Grows, IsCovered, IsOf, PassView, TableView}
use Rattle.race_play.specs.Askers.{AreAsked, WentEach}
use Rattle.race_play.specs.Begun.{AreBegun, Began}
use Rattle.race_play.specs.Questions.{Gave, rounds_of}
use Rattle.race_play.specs.Seen.{Notes, rounds_from}
use Rattle.race_play.specs.Settings.{AreLegal}
use Rattle.race_play.specs.declared.setting.Crew.{Crew}
use Rattle.visit_trace.specs.Seen.{AllSeen}
use Rattle.wire_line.specs.Sights.{Sight}

-- a pass that never meets Again, without places of its own, of a table over which the queries are legal
pub record CanAsk (t : TableView) (queries : List Query) (crew : Crew) (p : PassView) : Type 0 where
  pub of : IsOf t p
  pub covered : IsCovered p
  pub own : p.sight.own ≡ []
  pub legal : AreLegal t.widths queries
  pub some : 0 < crew.workers

-- the rounds of an asker, with its pass, its wire and its trace before and after; what was carried is said whether or not memory ran out
pub record AsksOne {W : Type 0} (sight : Sight W)
    (t : TableView) (queries : List Query) (master : Seed) (crew : Crew) (asker : ℕ)
    (p q : PassView) (v w : W) (old new : AllSeen) (result : Result (List Line) Memory) : Type 0 where
  pub of : IsOf t q
  pub grows : Grows p q
  pub own : q.sight ≡ record p.sight { order = q.sight.order }
  pub asked : (ms : List Message) × Went sight v ms w
      × IfOk result (Gave t.widths q.sight.order 0 (rounds_of queries master asker crew.rounds) ms)
  pub begun : (ms : List Message) × Went sight v ms w × Began t.widths q.sight.order 0 (rounds_of queries master asker crew.rounds) ms
  pub seen : Notes t.widths (rounds_of queries master asker crew.rounds) old new result

-- the askers from one on, with the pass from which theirs were split and into which they were gathered, their wires, and their trace
pub record AsksAll {W : Type 0} (sight : Sight W)
    (t : TableView) (queries : List Query) (master : Seed) (crew : Crew) (asker : ℕ)
    (p q : PassView) (vs ws : List W) (old new : AllSeen) (result : Result (List Line) Memory) : Type 0 where
  pub of : IsOf t q
  pub grows : Grows p q
  pub own : q.sight.own ≡ []
  pub room : p.sight.room ≤ q.sight.room
  pub asked : (sent : List (List Message)) × WentEach sight sent vs ws
      × IfOk result (AreAsked t.widths queries master crew.rounds q.sight.order asker sent)
      × (length sent + asker ≡ crew.askers)
  pub begun : (sent : List (List Message)) × WentEach sight sent vs ws
      × AreBegun t.widths queries master crew.rounds q.sight.order asker sent
      × (length sent + asker ≡ crew.askers)
  pub seen : (count : ℕ) × (count + asker ≡ crew.askers)
      × Notes t.widths (rounds_from queries master crew.rounds asker count) old new result
