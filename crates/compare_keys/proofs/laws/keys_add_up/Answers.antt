use Rattle.compare_keys.proofs.Back.{keys_add_up}
use Rattle.compare_keys.proofs.laws.keys_add_up.Goals as goal

pub returns : goal.returns
returns c = keys_add_up
