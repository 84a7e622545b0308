use Rattle.std.proofs.Common.{[], refl, rules}
use Rattle.wire_line.specs.Carried.{went_none}
use Rattle.visit_trace.specs.Growing.{by_stopped, by_then, prefix_cut}
use Rattle.server_rounds.proofs.Messages.{group_none}
use Rattle.server_rounds.proofs.rounds.reshare_noted.Goals as goal

pub returns-in_err-note_last-clause-messages : goal.returns-in_err-note_last-clause-messages
returns-in_err-note_last-clause-messages g c =
    ([], went_none g.W.Wire.sight _ _ refl refl (g.met.W.Wire.none_passes _), group_none _ _, search rules)

pub returns-in_err-note_last-clause-trace : goal.returns-in_err-note_last-clause-trace
returns-in_err-note_last-clause-trace g c = by_stopped _ _ _ _ c.from_residual.ensures.0 (prefix_cut _ _ _ _ c.in_err-note_last.ensures)

pub returns-clause-trace : goal.returns-clause-trace
returns-clause-trace g c = by_then _ _ _ _ _ _ c.in_ok-note_last.ensures c.reshare.ensures.trace
