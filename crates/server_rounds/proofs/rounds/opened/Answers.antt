use Rattle.std.proofs.Common.{[], refl, rules}
use Rattle.wire_line.specs.Carried.{went_none}
use Rattle.visit_trace.specs.Growing.{by_stopped, grew_both, prefix_begun, prefix_cut}
use Rattle.server_rounds.specs.declared.way.Way.TheVariants.{ToClient}
use Rattle.server_rounds.proofs.Messages.{group_none}
use Rattle.server_rounds.proofs.Noting.{group_same, grew_along, prefix_along}
use Rattle.server_rounds.proofs.rounds.opened.Goals as goal

pub returns-in_err-note_values-clause-messages : goal.returns-in_err-note_values-clause-messages
returns-in_err-note_values-clause-messages g c =
    ([], went_none g.W.Wire.sight _ _ refl refl (g.met.W.Wire.none_passes _), group_none _ _, search rules)

pub returns-in_err-note_values-clause-trace : goal.returns-in_err-note_values-clause-trace
returns-in_err-note_values-clause-trace g c = by_stopped _ _ _ _ c.from_residual.ensures.0 (prefix_cut _ _ _ _ c.in_err-note_values.ensures)

pub returns-in_err-got-clause-trace : goal.returns-in_err-got-clause-trace
returns-in_err-got-clause-trace g c =
    by_stopped _ _ _ _ c.from_residual-in_err-got.ensures.0
    (prefix_begun _ _ _ _ _ c.in_ok-note_values.ensures
    (prefix_along _ _ _ _ (group_same ToClient _ _ _ 1 c.requires.zero c.requires.one c.requires.two) c.in_err-got.ensures.trace))

pub returns-clause-trace : goal.returns-clause-trace
returns-clause-trace g c =
    grew_both _ _ _ _ _ c.in_ok-note_values.ensures
    (grew_along _ _ _ _ (group_same ToClient _ _ _ 1 c.requires.zero c.requires.one c.requires.two) c.in_ok-got.ensures.trace)
