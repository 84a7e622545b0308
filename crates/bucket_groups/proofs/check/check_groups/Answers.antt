use Rattle.std.proofs.Common.{◌≡◌, sym, ap, subst, List, length, arith}
use Rattle.list_facts.proofs.Listed.{listed_more}
use Rattle.bucket_groups.specs.Check.{AreJudged}
use Rattle.bucket_groups.specs.declared.check.GroupAnswer.{GroupAnswer}
use Rattle.bucket_groups.proofs.Judged.{are_judged}
use Rattle.bucket_groups.proofs.check.check_groups.Goals as goal

pub loop-b-preserved : goal.loop-b-preserved
loop-b-preserved c = record {
  items = rw (c.push_reserved.ensures.items, c.answer.ensures, c.as_slice-total.ensures, c.as_slice-weighted.ensures, c.loop-b.invariant.items) (listed_more _ _);
  len = omega arith;
  room = omega arith;
}

pub returns-clause-answers : goal.returns-clause-answers
returns-clause-answers c =
    let end : c.loop-b.b ≡ length c.args.totals.now.total = omega (arith, c.loop-b-test.false, ap length c.as_slice-total.ensures, c.loop-b.auto.b-end) in
    rw end at c.loop-b.invariant.items

pub returns-clause-accepts : goal.returns-clause-accepts
returns-clause-accepts c =
    let a = c.args.totals.now in
    subst (λ (l : List GroupAnswer). AreJudged a.total a.weighted c.args.key l) (sym (returns-clause-answers c)) (are_judged a.total a.weighted c.args.key)
