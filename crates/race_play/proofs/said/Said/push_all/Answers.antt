use Rattle.std.proofs.Common.{◌∙◌, ap, ◌++◌}
use Rattle.race_play.proofs.Yielding.{all_yielded}
use Rattle.race_play.proofs.said.Said.push_all.Goals as goal

pub returns : goal.returns
returns c =
    rw (← c.self.view_is, ← c.more.view_is) (c.loop-line.invariant
    ∙ ap (λ xs. c.self.inside.lines.items ++ xs) (all_yielded _ c.loop-line.yielded _ c.loop-line.yielded_by c.in-None.ensures.steps.0 ∙ c.into_iter-line-iterator.ensures.into_iter_gives.0))
