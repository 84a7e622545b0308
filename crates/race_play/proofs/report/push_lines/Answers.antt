use Rattle.race_play.proofs.Yielding.{all_yielded}
use Rattle.std.proofs.Common.{◌∙◌, ap, ◌++◌}
use Rattle.race_play.proofs.report.push_lines.Goals as goal

pub returns : goal.returns
returns c =
    c.loop-line.invariant
    ∙ ap (λ xs. c.args.report.now ++ xs) (all_yielded _ c.loop-line.yielded _ c.loop-line.yielded_by c.in-None.ensures.steps.0 ∙ c.into_iter-line-iterator.ensures.into_iter_gives.0)
