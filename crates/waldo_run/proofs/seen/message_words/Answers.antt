use Rattle.std.proofs.Common.{arith}
use Rattle.server_rounds.proofs.Tables.{legal_query}
use Rattle.waldo_run.proofs.Messages.{same_words, few_words}
use Rattle.waldo_run.proofs.seen.message_words.Goals as goal

pub message_length-requires-clause-few : goal.message_length-requires-clause-few
message_length-requires-clause-few c = rw c.shape_of.ensures c.requires.suits.few

pub message_length-requires-clause-there : goal.message_length-requires-clause-there
message_length-requires-clause-there c = rw c.shape_of.ensures (legal_query 0 c.args.widths.now c.args.query.now (omega arith) c.requires.suits).there

pub returns-clause-value : goal.returns-clause-value
returns-clause-value c = rw (c.message_length.ensures, c.shape_of.ensures) (same_words c.args.widths.now c.args.query.now)

pub returns-clause-few : goal.returns-clause-few
returns-clause-few c = rw (c.message_length.ensures, c.shape_of.ensures) (few_words c.args.widths.now c.args.query.now c.requires.suits)
