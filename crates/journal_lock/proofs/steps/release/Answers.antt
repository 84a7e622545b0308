use Rattle.std.proofs.Common.{rules}
use Rattle.journal_lock.proofs.Keeps.{gives}
use Rattle.journal_lock.proofs.steps.release.Goals as goal

pub swap-requires : goal.swap-requires
swap-requires g c = let t = c.requires.back in (search rules, search rules, rw c.requires.desk.1 (gives _ _ _ _ _ c.requires.holds t.0 t.1 t.2 t.3))
