use Rattle.std.proofs.Common.{◌∙◌, ap, length}
use Rattle.list_facts.proofs.Listed.{length-listed}
use Rattle.server_rounds.proofs.Parts.{held_long, locals_are}
use Rattle.server_rounds.proofs.part.locals_part.Goals as goal

pub returns : goal.returns
returns c =
    let a = c.args in
    let numbers = locals_are a.chain.now a.bits.now a.server _ _ _ _ _ c.in_ok-numbers.ensures
    c.of_server.ensures.first c.of_server.ensures.second c.of_server-2.ensures.first c.of_server-2.ensures.second in
    record { long = ap length numbers ∙ length-listed _ _ ∙ held_long _ a.chain.now a.server c.requires.server c.requires.factors.chain_long; numbers = numbers }
