use Rattle.std.proofs.Common.{ap}
use Rattle.visit_trace.proofs.Stretches.{same_next}
use Rattle.visit_trace.proofs.trace.same_visits.Goals as goal

pub returns-then-not-same_visit : goal.returns-then-not-same_visit
returns-then-not-same_visit c = (
  λ no. absurd cc,
  λ same.
      let kept = c.loop-visit.invariant in
      c.if-not-same_visit.ensures.1
      (same_next _ _ _ _ _ _ _ _ _ kept.2 kept.3 c.in-Some.ensures.steps c.in-Some-next.ensures.steps (ap (λ v. v.entry) same)),
)
