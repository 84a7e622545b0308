use Rattle.weighted_check.proofs.Passing.{passing, passed}
use Rattle.weighted_check.proofs.laws.shifted.Goals as goal

pub returns : goal.returns
returns c =
    let a = c.args in
    (λ p. (passing a.plain a.d a.e a.key c.ranges.e.fits p, p.small), λ h. passed a.plain a.d a.e a.key h.0 h.1)
