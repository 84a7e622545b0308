use Rattle.interval_keys.proofs.Back.{keys_add_up}
use Rattle.interval_keys.proofs.laws.keys_add_up.Goals as goal

pub returns : goal.returns
returns c = keys_add_up c.keys_add_up.ensures
