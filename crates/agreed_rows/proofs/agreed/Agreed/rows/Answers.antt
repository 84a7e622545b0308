use Rattle.std.proofs.Common.{◌∙◌, ap, sym, subst, length}
use Rattle.agreed_rows.specs.Agreed.{Entries, Sound}
use Rattle.agreed_rows.proofs.Answering.{agreed_long, agreed_sound}
use Rattle.agreed_rows.proofs.agreed.Agreed.rows.Goals as goal

pub returns-clause-rows : goal.returns-clause-rows
returns-clause-rows c =
    let is = c.self.invariant in
    c.rows.ensures ∙ sym (agreed_long _ _ _ _ _ _ is) ∙ ap (λ (e : Entries). length e.all) c.self.view_is

pub returns-clause-sound : goal.returns-clause-sound
returns-clause-sound c = subst Sound c.self.view_is (agreed_sound _ _ _ _ _ _ c.self.invariant)
