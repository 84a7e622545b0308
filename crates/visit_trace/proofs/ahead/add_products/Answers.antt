use Rattle.std.proofs.Common.{ℕ}
use Rattle.visit_trace.proofs.Listing.{next_place}
use Rattle.visit_trace.proofs.ahead.add_products.Goals as goal

pub loop-i-preserved : goal.loop-i-preserved
loop-i-preserved c =
    next_place c.args.lengths.now.items c.loop-i.lengths.items c.push.new.self.items c.loop-i._i (λ (i : ℕ). c.args.sizes.now.rows) c.loop-i.invariant c.in_ok-push.ensures.items
