use Rattle.schedule_play.proofs.SeenAlike.{seen_alike as law}
use Rattle.schedule_play.proofs.laws.seen_alike.Goals as goal

pub returns : goal.returns
returns c = law
