use Rattle.race_play.proofs.Writing.{grows_trans}
use Rattle.race_play.proofs.gather.gather_all.Goals as goal

pub returns-in_err-take_in-clause-grows : goal.returns-in_err-take_in-clause-grows
returns-in_err-take_in-clause-grows c = grows_trans _ _ _ c.loop-jobs.invariant.grows c.in_err-take_in.ensures.grows
