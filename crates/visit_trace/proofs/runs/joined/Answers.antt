use Rattle.std.proofs.Common.{◌≡◌, ◌+◌, arith}
use Rattle.visit_trace.proofs.Stretches.{joined as runs_joined}
use Rattle.visit_trace.proofs.runs.joined.Goals as goal

pub returns-then-next-run-eq1-clause-visits : goal.returns-then-next-run-eq1-clause-visits
returns-then-next-run-eq1-clause-visits c =
    let column : c.args.next.column ≡ c.args.run.column = omega (arith, c.if-next-run.true) in
    let behind : c.args.next.first ≡ c.args.run.last + 1 = omega (arith, c.if-run-next.true, c.if-next-run-eq1.true) in
    runs_joined c.args.run c.args.next column behind
