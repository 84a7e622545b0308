use Rattle.std.proofs.Common.{rules, ◌≡◌, length}
use Rattle.query_plan.proofs.keys.make_keys.Goals as goal

pub returns-clause-add_up : goal.returns-clause-add_up
returns-clause-add_up c =
    let four : length c.args.query.now.predicates ≡ 4 = search rules in
    c.keys_add_up.ensures c.args.query.now c.args.widths.now c.args.seed.now four c.args.widths.now.legal c.requires.suits
