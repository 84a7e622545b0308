use Rattle.query_plan.specs.KeyMessages.{pair_words}
use Rattle.query_plan.proofs.Ranges.{pushed}
use Rattle.query_plan.proofs.draft.Draft.push_run.Goals as goal

pub loop-j-preserved : goal.loop-j-preserved
loop-j-preserved c =
    let words = pair_words c.args.query.now c.args.widths.now.bits c.args.seed.now in
    record {
      zero = pushed (words 0 c.args.run) _ _ _ c.loop-j.j c.loop-j.invariant.zero c.in_ok-push_predicate.ensures.zero;
      one = pushed (words 1 c.args.run) _ _ _ c.loop-j.j c.loop-j.invariant.one c.in_ok-push_predicate.ensures.one;
      two = pushed (words 2 c.args.run) _ _ _ c.loop-j.j c.loop-j.invariant.two c.in_ok-push_predicate.ensures.two;
    }
