use Rattle.std.proofs.Common.{◌≡◌, ◌++◌}
use Rattle.visit_trace.proofs.trace.same_visits.Given as goal

abbrev pub invariant-loop-visit : goal.invariant-loop-visit
invariant-loop-visit l =
    (goal.iterator-loop-visit).can_next l.visit-iterator ×
    (goal.iterator-loop-visit).is_finite l.visit-iterator ×
    (l.fn.a ≡ l.yielded ++ l.visit-iterator) ×
    (l.fn.b ≡ l.yielded ++ l.theirs)
