use Rattle.race_play.proofs.Backs.{backs_stand}
use Rattle.race_play.proofs.laws.backs_stand.Goals as goal

pub returns : goal.returns
returns c = backs_stand
