use Rattle.std.proofs.Common.{map, string_bytes}
use Rattle.waldo_words.proofs.LegalValues.{legal_result}
use Rattle.waldo_words.proofs.read.behind_schema.Goals as goal

pub returns-in-Ok-clause-legal : goal.returns-in-Ok-clause-legal
returns-in-Ok-clause-legal c =
    legal_result (map string_bytes c.args.words.now) c.args.command c.args.schema c.in-Ok.found c.finish.result c.in-Ok.ensures.legal c.finish.ensures.fits c.finish.ensures.exact
