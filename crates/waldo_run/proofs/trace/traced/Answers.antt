use Rattle.std.proofs.Common.{◌∙◌, sym, ap, List, ◌++◌, append-nil, arith}
use Rattle.report_lines.specs.declared.lines.Line.{Line}
use Rattle.waldo_run.specs.Traces.{traced}
use Rattle.waldo_run.proofs.Traced.{traced_none}
use Rattle.waldo_run.proofs.trace.traced.Goals as goal

pub returns : goal.returns
returns c =
    let done = c.loop-i.traced in
    let seen = c.args.seen.now in
    let lines = c.lines-lines.result.now in
    let none = traced_none c.loop-i.i seen lines (omega (arith, c.min-i-end.ensures, c.loop-i-test.false)) in
    sym (append-nil done) ∙ ap (λ (l : List Line). done ++ l) (sym none) ∙ c.loop-i.invariant ∙ ap (traced 0 seen) c.lines-lines.ensures
