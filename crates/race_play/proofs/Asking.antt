-- The line of an ask.
use Rattle.std.proofs.Common.{◌≡◌, ◌∙◌, sym, ap, inl, inr, ℕ, ℤ, List}
use Rattle.std.specs.Prelude.{IfOk, OnErr, Result, Ok, Err}
use Rattle.prg_chacha.specs.declared.seed.Seed.{Seed}
use Rattle.query_plan.specs.declared.query.Query.{Query}
use Rattle.report_lines.specs.declared.lines.Line.{Line}
use Rattle.report_lines.specs.declared.lines.Line.TheVariants as lines
use Rattle.report_lines.specs.declared.lines.Who.{Who}
use Rattle.ring128.specs.declared.memory.Memory.{Memory}
use Rattle.server_rounds.specs.declared.opened.OpenedPair.{OpenedPair}
use Rattle.table_schema.specs.declared.widths.Widths.{Widths}
use Rattle.wire_line.specs.Messages.{IsHonest}
use Rattle.wire_line.specs.declared.message.Message.{Message}
use Rattle.agreed_rows.specs.declared.query.Answered.{Answered}
use Rattle.waldo_table.specs.Asks.{Asked, IsPlainAsk}
use Rattle.waldo_table.specs.Tables.{PassView}
use Rattle.waldo_table.specs.declared.faults.AskFault.{AskFault}
use Rattle.waldo_table.specs.declared.faults.AskFault.TheVariants as ask
use Rattle.race_play.specs.Lines.{answer_line, line_of_ask}
use Rattle.race_play.specs.Rounds.{Asks, BreaksOff}

pub asks_by : (w : Widths) (p q : PassView) (who : Who) (rows : ℕ) (query : Query) (seed : Seed) (ms : List Message) (pair : OpenedPair) (result : Result Answered AskFault) (line : Line)
    → Asked w p q query seed ms pair result → (IsHonest ms → IsPlainAsk w q query result) → rows ≡ q.floor → line_of_ask who rows query.aggregate result ≡ Ok line
    → Asks w p q who query seed ms pair line
asks_by w p q who rows query seed ms pair (Ok a) line asked plain floor is =
    let same : lines.Answer who rows query.aggregate a.total ≡ line = cc in record {
      agrees = asked.0;
      opens = asked.1;
      honest = λ honest. sym same ∙ ap (λ (n : ℕ). lines.Answer who n query.aggregate a.total) floor ∙ ap (λ (t : ℤ). lines.Answer who q.floor query.aggregate t) (plain honest);
      says = sym same ∙ ap (λ (n : ℕ). lines.Answer who n query.aggregate a.total) floor ∙ ap (answer_line who q.floor query.aggregate) (sym asked.2);
    }
asks_by w p q who rows query seed ms pair (Err (ask.Altered total weighted)) line asked plain floor is =
    let same : lines.Altered who rows total weighted ≡ line = cc in record {
      agrees = asked.0;
      opens = asked.1;
      honest = λ honest. absurd (plain honest);
      says = sym same ∙ ap (λ (n : ℕ). lines.Altered who n total weighted) floor ∙ ap (answer_line who q.floor query.aggregate) (sym asked.2);
    }
asks_by w p q who rows query seed ms pair (Err (ask.Again k had least)) line asked plain floor is = absurd cc
asks_by w p q who rows query seed ms pair (Err ask.Memory) line asked plain floor is = absurd cc

pub asks_when_ok : (w : Widths) (p q : PassView) (who : Who) (rows : ℕ) (query : Query) (seed : Seed) (ms : List Message) (pair : OpenedPair) (asked : Result Answered AskFault) (result : Result Line Memory)
    → Asked w p q query seed ms pair asked → (IsHonest ms → IsPlainAsk w q query asked) → rows ≡ q.floor → result ≡ line_of_ask who rows query.aggregate asked
    → IfOk result (Asks w p q who query seed ms pair)
asks_when_ok w p q who rows query seed ms pair asked (Ok line) h plain floor is = asks_by w p q who rows query seed ms pair asked line h plain floor (sym is)
asks_when_ok w p q who rows query seed ms pair asked (Err e) h plain floor is = tt

breaks_by : (w : Widths) (p q : PassView) (who : Who) (rows : ℕ) (query : Query) (seed : Seed) (ms : List Message) (pair : OpenedPair) (result : Result Answered AskFault) (e : Memory)
    → Asked w p q query seed ms pair result → line_of_ask who rows query.aggregate result ≡ Err e → BreaksOff w p q query seed ms
breaks_by w p q who rows query seed ms pair (Ok a) e asked is = absurd cc
breaks_by w p q who rows query seed ms pair (Err (ask.Altered total weighted)) e asked is = absurd cc
breaks_by w p q who rows query seed ms pair (Err (ask.Again k had least)) e asked is = inl asked.0
breaks_by w p q who rows query seed ms pair (Err ask.Memory) e asked is = elim asked [ inl none ↦ inl none.0 | inr part ↦ inr part ]

pub breaks_when_err : (w : Widths) (p q : PassView) (who : Who) (rows : ℕ) (query : Query) (seed : Seed) (ms : List Message) (pair : OpenedPair) (asked : Result Answered AskFault) (result : Result Line Memory) (P : List Message → Type 0)
    → P ms → Asked w p q query seed ms pair asked → result ≡ line_of_ask who rows query.aggregate asked
    → OnErr result ((ns : List Message) × P ns × BreaksOff w p q query seed ns)
breaks_when_err w p q who rows query seed ms pair asked (Ok line) P went h is = tt
breaks_when_err w p q who rows query seed ms pair asked (Err e) P went h is = (ms, went, breaks_by w p q who rows query seed ms pair asked e h (sym is))
