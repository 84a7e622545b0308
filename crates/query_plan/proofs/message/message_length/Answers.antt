use Rattle.query_plan.proofs.Parts.{all_there}
use Rattle.query_plan.proofs.message.message_length.Goals as goal

pub run_length-requires-clause-there : goal.run_length-requires-clause-there
run_length-requires-clause-there c = all_there c.args.widths.now.columns c.args.shape.now c.requires.there
