use Rattle.std.proofs.Common.{◌<◌, ℕ, length, arith}
use Rattle.prefix_log.proofs.Journals.{past_all}
use Rattle.prefix_log.proofs.journal.prefix_of.Goals as goal

pub returns : goal.returns
returns c =
    let all = λ (k : ℕ). λ (lt : k < length c.args.journal.now). c.loop-place.invariant k (omega arith) in
    record { below = all; next = past_all c.args.journal.now all }
