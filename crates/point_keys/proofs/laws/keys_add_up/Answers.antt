use Rattle.point_keys.proofs.Back.{keys_add_up}
use Rattle.point_keys.proofs.laws.keys_add_up.Goals as goal

pub returns : goal.returns
returns c = keys_add_up
