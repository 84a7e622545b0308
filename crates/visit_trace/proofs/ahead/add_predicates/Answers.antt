use Rattle.visit_trace.specs.Sizes.{column_of}
use Rattle.visit_trace.proofs.Listing.{next_column}
use Rattle.visit_trace.proofs.ahead.add_predicates.Goals as goal

pub loop-j-preserved : goal.loop-j-preserved
loop-j-preserved c =
    next_column c.args.sizes.now.rows c.args.visits.now c.loop-j.visits c.add_column.new.visits c.loop-j.j (column_of c.args.sizes.now)
    c.loop-j.invariant c.in_ok-add_column.ensures
