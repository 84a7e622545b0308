use Rattle.std.proofs.Common.{refl}
use Rattle.scan_chunks.proofs.Shelves.{on_err}
use Rattle.wire_line.specs.Carried.{went_none}
use Rattle.server_rounds.proofs.carry.carry.Goals as goal

pub returns-in_err-note_message-clause-kept : goal.returns-in_err-note_message-clause-kept
returns-in_err-note_message-clause-kept g c =
    on_err _ _ (went_none g.W.Wire.sight _ _ refl refl (g.met.W.Wire.none_passes _))
