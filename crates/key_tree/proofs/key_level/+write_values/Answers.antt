use Rattle.std.proofs.Common.{◌∙◌, ap}
use Rattle.key_tree.specs.Tree.{of_party}
use Rattle.key_tree.proofs.Walks.{values_none, values_some}
use Rattle.key_tree.proofs.key_level.+write_values.Goals as goal

pub returns-in-None : goal.returns-in-None
returns-in-None g t c =
    values_none g.L.KeyLevel.below (λ p. of_party c.args.party (g.L.KeyLevel.number c.args.last p)) c.args.levels.now c.args.place.now c.args.to.now c.of_party.result
    c.in-None.ensures.cases c.requires (c.of_party.ensures ∙ ap (of_party c.args.party) c.number.ensures)

pub returns-in-Some : goal.returns-in-Some
returns-in-Some g t c =
    values_some g.L.KeyLevel.below (λ p. of_party c.args.party (g.L.KeyLevel.number c.args.last p)) c.args.levels.now c.in-Some.rest.now c.in-Some.level.now c.args.place.now
    c.both-left.result.0 c.both-left.result.1 c.write_values.new.to c.write_values-in-Some.new.to
    c.in-Some.ensures.cases.0 c.both-left.ensures.left c.both-left.ensures.right c.write_values.ensures c.write_values-in-Some.ensures
