use Rattle.std.proofs.Common.{List}
use Rattle.wire_line.specs.Messages.{Went}
use Rattle.wire_line.specs.declared.message.Message.{Message}
use Rattle.race_play.proofs.Asking.{asks_when_ok, breaks_when_err}
use Rattle.race_play.proofs.Seeing.{line_first, line_notes}
use Rattle.race_play.proofs.round.ask_line.Goals as goal

pub returns-clause-asks : goal.returns-clause-asks
returns-clause-asks g c =
    let h = c.ask-asked.ensures.asked in
    (h.0, h.1, h.2, asks_when_ok c.args.table.now.widths c.args.pass.now c.ask-asked.new.pass c.args.who _ c.args.query.now c.args.seed.now h.0 h.1 c.ask-asked.result c.line_of_ask.result h.3 h.4 c.floor.ensures.floor c.line_of_ask.ensures)

pub returns-clause-broken : goal.returns-clause-broken
returns-clause-broken g c =
    let h = c.ask-asked.ensures.asked in
    breaks_when_err c.args.table.now.widths c.args.pass.now c.ask-asked.new.pass c.args.who _ c.args.query.now c.args.seed.now h.0 h.1 c.ask-asked.result c.line_of_ask.result
    (λ (ms : List Message). Went g.W.Wire.sight c.args.wire.now ms c.ask-asked.new.wire) h.2 h.3 c.line_of_ask.ensures

pub returns-clause-trace : goal.returns-clause-trace
returns-clause-trace g c =
    line_notes c.args.table.now.widths c.ask-asked.new.pass c.args.query.now c.args.trace.now c.ask-asked.new.trace c.floor.ensures.legal.floor c.args.who _ c.ask-asked.result c.line_of_ask.result
    c.floor.ensures.floor c.ask-asked.ensures.trace c.line_of_ask.ensures

pub returns-clause-trace_first : goal.returns-clause-trace_first
returns-clause-trace_first g c =
    line_first c.args.table.now.widths c.ask-asked.new.pass c.args.query.now c.args.trace.now c.ask-asked.new.trace c.floor.ensures.legal.floor c.args.who _ c.ask-asked.result c.line_of_ask.result
    c.ask-asked.ensures.trace c.line_of_ask.ensures
