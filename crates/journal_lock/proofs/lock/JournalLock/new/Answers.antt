use Rattle.std.proofs.Common.{rules}
use Rattle.journal_lock.proofs.Opening.{opens}
use Rattle.journal_lock.proofs.lock.JournalLock.new.Goals as goal

pub new-requires : goal.new-requires
new-requires g c = opens _ _ c.args.value c.of-like.result.value _ _ c.count-count.ensures c.of-like.ensures (search rules)
