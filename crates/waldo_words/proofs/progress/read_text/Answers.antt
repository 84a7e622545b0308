use Rattle.std.proofs.Common.{◌<◌}
use Rattle.waldo_words.specs.Options.{most_times, option_of, times_found}
use Rattle.waldo_words.proofs.LegalValues.{one_more}
use Rattle.waldo_words.proofs.progress.read_text.Goals as goal

pub returns-clause-legal : goal.returns-clause-legal
returns-clause-legal c =
    let value = c.in_ok-value.value in
    let found = c.args.found in
    let room : times_found found (option_of value) < most_times (option_of value) c.args.command = rw c.in_ok-value.ensures.named c.requires.room in
    rw c.in_ok-with.ensures (record {
      found = one_more c.args.command c.args.schema.now found value c.requires.legal room c.in_ok-value.ensures.legal;
      room = tt;
    })
