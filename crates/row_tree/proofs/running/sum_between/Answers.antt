use Rattle.std.proofs.Common.{arith, ◌≡◌, ◌∙◌, ◌+◌, ◌++◌, ◌∷◌, [], sym, ap, refl, List, ℕ}
use Rattle.list_facts.proofs.Listed.{listed_more}
use Rattle.ring128.specs.Ring.{minus}
use Rattle.row_tree.specs.Running.{before_of}
use Rattle.row_tree.proofs.running.sum_between.Goals as goal

pub loop-b-preserved : goal.loop-b-preserved
loop-b-preserved c =
    let f : ℕ → ℕ = λ b. minus (before_of c.args.width c.args.sums.now c.args.to b) (before_of c.args.width c.args.sums.now c.args.from b) in
    record {
      words = rw (c.in_ok-push.ensures.items, c.loop-b.invariant.words, c.sub.ensures, c.total_before-all.ensures, c.total_before-less.ensures) (listed_more c.loop-b.b f);
    }
