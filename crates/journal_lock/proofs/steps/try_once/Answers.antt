use Rattle.std.proofs.Common.{rules}
use Rattle.journal_lock.proofs.Keeps.{tries}
use Rattle.journal_lock.proofs.steps.try_once.Goals as goal

pub compare_exchange-requires : goal.compare_exchange-requires
compare_exchange-requires g c = (search rules, search rules, tries _ _ _ _ c.requires.fits _ _ _ c.requires.idle.0 c.requires.idle.1)
