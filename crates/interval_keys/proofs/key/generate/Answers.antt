use Rattle.std.proofs.Common.{ℕ, ◌-◌, rules, ap, ◌∙◌}
use Rattle.compare_keys.specs.Compares.{at_most}
use Rattle.interval_keys.proofs.Sums.{interval_adds_up}
use Rattle.interval_keys.proofs.key.generate.Goals as goal

pub returns-clause-pair : goal.returns-clause-pair
returns-clause-pair c = λ x h.
    interval_adds_up c.args.low c.args.high c.args.weight x _ _ _ _ c.requires.order (search rules)
    (c.in_ok-upper.ensures.pair x h)
    (c.in_ok-lower.ensures.pair x h
    ∙ ap (λ (n : ℕ). at_most n c.end_below-below.result.1 x) c.end_below-below.ensures.end
    ∙ ap (λ (v : ℕ). at_most (c.args.low - 1) v x) c.end_below-below.ensures.weight)
