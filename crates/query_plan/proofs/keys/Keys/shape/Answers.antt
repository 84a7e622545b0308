use Rattle.std.proofs.Common.{ℕ, ◌<◌, subst}
use Rattle.query_plan.specs.KeyMessages.{Asked, part_at}
use Rattle.query_plan.specs.Laws.{AreKeysOf}
use Rattle.query_plan.specs.Query.{shaped}
use Rattle.query_plan.proofs.Legal.{parts_there}
use Rattle.query_plan.proofs.keys.Keys.shape.Goals as goal

pub returns-clause-there : goal.returns-clause-there
returns-clause-there c =
    let k = c.self.inside in
    rw c.shape_of.ensures
    (subst (λ (a : Asked). (j : ℕ) → j < k.query.count → (part_at (shaped k.query) j).column < a.widths.columns) c.self.view_is
    (parts_there k.widths.columns k.widths.bits k.query c.self.invariant.0))

pub returns-clause-add_up : goal.returns-clause-add_up
returns-clause-add_up c =
    let k = c.self.inside in
    subst AreKeysOf c.self.view_is (c.keys_add_up.ensures k.query k.widths k.seed c.self.invariant.1 k.widths.legal c.self.invariant.0)
