use Rattle.weighted_check.proofs.Passing.{same_weight}
use Rattle.weighted_check.proofs.laws.one_weight.Goals as goal

pub returns : goal.returns
returns c p q =
    let a = c.args in let r = c.ranges in
    same_weight a.plain a.d a.e a.others a.first a.second r.plain r.d.fits r.e.fits r.first.fits r.second.fits c.requires.shift c.requires.odd p q
