use Rattle.std.proofs.Common.{subst}
use Rattle.agreed_rows.specs.Agreed.{Sound}
use Rattle.agreed_rows.proofs.Answering.{agreed_sound}
use Rattle.agreed_rows.proofs.Lending.{hold_entries}
use Rattle.agreed_rows.proofs.agreed.Agreed.shelves.Goals as goal

pub returns-clause-shelves : goal.returns-clause-shelves
returns-clause-shelves c =
    let s = c.shelves.ensures in
    hold_entries _ _ _ _ _ _ _ _ c.self.invariant c.self.view_is c.shelves.result s.zero s.one s.two

pub returns-clause-sound : goal.returns-clause-sound
returns-clause-sound c = subst Sound c.self.view_is (agreed_sound _ _ _ _ _ _ c.self.invariant)
