use Rattle.std.proofs.Common.{arith}
use Rattle.waldo_words.proofs.LegalValues.{most_queries}
use Rattle.waldo_words.proofs.progress.begin_option.Goals as goal

pub times-requires : goal.times-requires
times-requires c = let most = c.requires.queries in omega (arith, most, most_queries c.args.command)
