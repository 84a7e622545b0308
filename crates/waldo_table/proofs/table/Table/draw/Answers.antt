use Rattle.std.proofs.Common.{◌∙◌, ap, Some}
use Rattle.waldo_table.specs.Pieces.{Ready}
use Rattle.waldo_table.proofs.Legal.{drawn_grows, drawn_there, legal_by, legal_more}
use Rattle.waldo_table.proofs.table.Table.draw.Goals as goal
use Rattle.waldo_table.proofs.table.Table.draw.Goals.{in-Ok, in-Err}

pub invariant_of-pass : goal.invariant_of-pass
invariant_of-pass c = elim c.match-draw.branch [
  | in-Ok w ↦ legal_more _ _ (drawn_grows _ _ _ _ w.in-Ok.ensures.draws) c.pass.invariant
  | in-Err w ↦ legal_by _ _ w.in-Err.ensures.same c.pass.invariant
]

pub returns-clause-there : goal.returns-clause-there
returns-clause-there c = elim c.match-draw.branch [
  | in-Ok w ↦ rw w.result-is (drawn_there _ _ _ _ w.in-Ok.ensures.draws ∙ ap (λ (r : Ready). Some r.entry) c.prepared.view_is)
  | in-Err w ↦ rw w.result-is tt
]
