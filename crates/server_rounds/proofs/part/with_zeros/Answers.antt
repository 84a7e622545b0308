use Rattle.std.proofs.Common.{◌∙◌}
use Rattle.server_rounds.proofs.Parts.{added_in_place}
use Rattle.server_rounds.proofs.part.with_zeros.Goals as goal

pub returns : goal.returns
returns c =
    c.from_vec.ensures
    ∙ added_in_place c.args.numbers c.args.zeros.now.own c.args.zeros.now.next c.args.start c.into_vec-words.result.len _ _ _
    c.into_vec-words.ensures c.into_vec-words.result.ok.0 c.as_mut_slice.ensures.value c.add_parts.ensures
