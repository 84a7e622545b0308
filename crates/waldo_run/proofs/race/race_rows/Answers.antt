use Rattle.waldo_run.proofs.Begun.{on_err}
use Rattle.waldo_run.proofs.Racing.{first_part, raced_over}
use Rattle.waldo_run.proofs.race.race_rows.Goals as goal

pub returns-clause-raced : goal.returns-clause-raced
returns-clause-raced g c =
    let h = rw c.as_slice.ensures at c.in_ok-ran.ensures.reports in
    let sees = rw c.as_slice.ensures at c.in_ok-ran.ensures.trace in (
      h.0,
      h.1,
      raced_over c.args.common.now c.args.crew c.args.widths.now c.args.rows.now h.0 _ c.in_ok-ran.ran.report c.in_ok-ran.ran.altered c.reply_of.result c.requires.legal c.requires.widths
          c.requires.held c.requires.few h.2 sees c.in_ok-ran.ensures.altered c.reply_of.ensures,
    )

pub returns-clause-carried : goal.returns-clause-carried
returns-clause-carried g c =
    let h = rw c.as_slice.ensures at c.race.ensures.carried in (h.0, h.1, (c.args.widths.now, c.requires.widths, h.2))

pub returns-in_err-ran-clause-carried : goal.returns-in_err-ran-clause-carried
returns-in_err-ran-clause-carried g c =
    let h = rw c.as_slice.ensures at c.race.ensures.carried in (h.0, h.1, (c.args.widths.now, c.requires.widths, h.2))

pub returns-in_err-ran-clause-trace_first : goal.returns-in_err-ran-clause-trace_first
returns-in_err-ran-clause-trace_first g c =
    let h = rw c.as_slice.ensures at c.in_err-ran.ensures.trace_first in
    on_err _ _ (first_part c.args.trace.now c.race.new.trace c.args.common.now c.args.crew c.args.widths.now c.requires.widths h)
