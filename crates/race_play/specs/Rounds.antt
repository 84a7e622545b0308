-- What an asker did in a round.
use Rattle.std.specs.Prelude.{◌≡◌, ◌⊎◌, List, []}
use Rattle.prg_chacha.specs.declared.seed.Seed.{Seed}
use Rattle.query_plan.specs.declared.query.Query.{Query}
use Rattle.report_lines.specs.declared.lines.Line.{Line}
use Rattle.report_lines.specs.declared.lines.Line.TheVariants as lines
use Rattle.report_lines.specs.declared.lines.Who.{Who}
use Rattle.server_rounds.specs.declared.opened.OpenedPair.{OpenedPair}
use Rattle.table_schema.specs.declared.widths.Widths.{Widths}
use Rattle.transcript.specs.Transcript.{IsPart}
use Rattle.wire_line.specs.Messages.{IsHonest}
use Rattle.wire_line.specs.declared.message.Message.{Message}
use Rattle.agreed_rows.specs.Answers.{Opens, judged, plain_total, setup_over}
use Rattle.waldo_table.specs.Asks.{rows_of}
use Rattle.waldo_table.specs.Tables.{Agrees, PassView}
use Rattle.race_play.specs.Lines.{answer_line}

-- the line has the plain answer over the rows of the pass's floor
abbrev pub IsPlainLine : Widths → PassView → Who → Query → Line → Type 0
IsPlainLine w q who query line = line ≡ lines.Answer who q.floor query.aggregate (plain_total (rows_of w q) query)

-- three servers agreed on the rows of the new floor, a query over them was carried, and the line is what the check says of the pair; it is
-- the plain one where each message was received as it was sent
pub record Asks (w : Widths) (p q : PassView) (who : Who) (query : Query) (seed : Seed)
    (ms : List Message) (pair : OpenedPair) (line : Line) : Type 0 where
  pub agrees : Agrees w p q (rows_of w q)
  pub opens : Opens (rows_of w q) query seed ms pair
  pub says : line ≡ answer_line who q.floor query.aggregate (judged query seed pair)
  pub honest : IsHonest ms → IsPlainLine w q who query line

-- out of memory: nothing was carried; or three servers agreed on the rows of the new floor, and the first messages of the query over them
-- were carried
abbrev pub BreaksOff : Widths → PassView → PassView → Query → Seed → List Message → Type 0
BreaksOff w p q query seed ms = (ms ≡ []) ⊎ (Agrees w p q (rows_of w q) × IsPart (setup_over (rows_of w q) query seed) ms)
