use Rattle.std.proofs.Common.{rules}
use Rattle.journal_lock.proofs.Keeps.{takes}
use Rattle.journal_lock.proofs.steps.take_once.Goals as goal

pub compare_exchange-requires : goal.compare_exchange-requires
compare_exchange-requires g c = (search rules, search rules, takes _ _ _ _ c.requires.fits _ _ _ c.requires.idle.0 c.requires.idle.1)
