use Rattle.schedule_play.proofs.Plainly.{plainly_played as law}
use Rattle.schedule_play.proofs.laws.plainly_played.Goals as goal

pub returns : goal.returns
returns c = law
