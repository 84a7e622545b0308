use Rattle.std.proofs.Common.{inl, inr}
use Rattle.weighted_check.proofs.Passing.{total_alone, weighted_alone}
use Rattle.weighted_check.proofs.laws.one_shift.Goals as goal

pub returns : goal.returns
returns c p =
    let a = c.args in
    elim c.requires.one [
      | inl h ↦ total_alone a.plain a.d a.e a.key c.ranges.d.fits c.requires.odd h.0 h.1 p
      | inr h ↦ weighted_alone a.plain a.d a.e a.key c.ranges.e.fits h.0 h.1 p
    ]
