use Rattle.race_play.proofs.SeenAlike.{races_look_alike}
use Rattle.race_play.proofs.laws.races_look_alike.Goals as goal

pub returns : goal.returns
returns c = races_look_alike
