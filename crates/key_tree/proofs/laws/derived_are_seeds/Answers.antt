use Rattle.key_tree.proofs.Halves.{derived_are_seeds}
use Rattle.key_tree.proofs.laws.derived_are_seeds.Goals as goal

pub returns : goal.returns
returns c = derived_are_seeds
