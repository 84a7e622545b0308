use Rattle.std.proofs.Common.{length, arith}
use Rattle.list_facts.proofs.Listed.{listed_is}
use Rattle.interval_keys.proofs.key.subtract.Goals as goal

pub returns : goal.returns
returns c = listed_is (length c.args.from.now) _ 0 c.loop-i.from (omega arith) (λ k h. c.loop-i.invariant.done k (omega arith))
