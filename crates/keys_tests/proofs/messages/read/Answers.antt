use Rattle.std.proofs.Common.{rules}
use Rattle.std.specs.Prelude.{IsTrue}
use Rattle.query_plan.proofs.Legal.{parts_there}
use Rattle.keys_tests.proofs.messages.read.Goals as goal

pub read_message-requires-clause-there : goal.read_message-requires-clause-there
read_message-requires-clause-there c =
    let w = c.widths-widths.result in
    let yes : IsTrue c.suits.result = rw c.if-not-suits.false (search rules) in
    rw c.shape_of.ensures (parts_there w.columns w.bits c.in_ok-query.query (c.suits.ensures.0 yes))
