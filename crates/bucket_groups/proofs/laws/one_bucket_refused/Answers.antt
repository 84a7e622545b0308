use Rattle.std.proofs.Common.{◌∙◌, ℤ, subst, w64}
use Rattle.std.proofs.lemmas.Int.{to_z-of_z}
use Rattle.weighted_check.specs.Shifts.{Passes}
use Rattle.bucket_groups.proofs.Judged.{answer_is, refused}
use Rattle.bucket_groups.proofs.laws.one_bucket_refused.Goals as goal

pub returns : goal.returns
returns c =
    let a = c.args in
    let never : ¬ Passes a.plain a.d a.e a.key =
    subst (λ (z : ℤ). ¬ Passes z c.args.d c.args.e c.args.key) (to_z-of_z w64 a.plain c.ranges.plain) c.one_shift.ensures in
    answer_is a.total.now a.weighted.now a.key a.bucket c.requires.there ∙ refused _ _ a.key (rw (c.requires.total, c.requires.weighted) never)
