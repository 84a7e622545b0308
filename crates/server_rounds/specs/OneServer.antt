-- What a query opens where all altered messages have one server as an end.
use Rattle.std.specs.Prelude.{ℕ, ◌≡◌, ◌<◌, List, length}
use Rattle.prg_chacha.specs.declared.seed.Seed.{Seed}
use Rattle.query_plan.specs.Seeds.{weights_of}
use Rattle.query_plan.specs.declared.query.Query.{Query}
use Rattle.table_schema.specs.declared.rows.Row.{Row}
use Rattle.transcript.specs.Rows.{HoldRows}
use Rattle.transcript.specs.Setup.{Setup}
use Rattle.transcript.specs.Shifts.{OneAltered, shifted_sum}
use Rattle.wire_line.specs.declared.message.Message.{Message}
use Rattle.server_rounds.specs.declared.opened.OpenedPair.{OpenedPair}

-- both openings are the sums of the shifted chains: with weights 1 in run 0, and with the seed's weights in run 1
pub record OpensShifted (s : Setup) (query : Query) (seed : Seed) (rows : List Row) (ms : List Message) (server : ℕ)
    (pair : OpenedPair) : Type 0 where
  pub total : pair.total ≡ shifted_sum s query (weights_of seed 0) rows ms 0 server
  pub weighted : pair.weighted ≡ shifted_sum s query (weights_of seed 1) rows ms 1 server

-- for any rows that the servers hold, and any one server that is an end of every altered message
abbrev pub OneServer : Setup → Query → Seed → List Message → OpenedPair → Type 0
OneServer s query seed ms pair =
    (rows : List Row) (server : ℕ) → HoldRows s.sizes.widths rows s.pieces → length rows ≡ s.sizes.rows → server < 3 → OneAltered server ms
    → OpensShifted s query seed rows ms server pair
