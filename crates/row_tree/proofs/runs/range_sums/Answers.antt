use Rattle.std.proofs.Common.{arith, ◌≡◌, ◌∙◌}
use Rattle.row_tree.specs.Cover.{cover_of}
use Rattle.row_tree.proofs.Ranges.{range_there, visited_done, visited_none, visited_stopped}
use Rattle.row_tree.proofs.runs.range_sums.Goals as goal

pub node_sums-requires : goal.node_sums-requires
node_sums-requires c =
    record { there = range_there c.args.low c.args.high c.args.trees.now.zero.rows _ (c.as_slice.ensures.value ∙ c.in_ok-nodes.ensures) (omega (arith, c.requires.there)) }

pub node_sums-requires-2 : goal.node_sums-requires-2
node_sums-requires-2 c =
    record { there = range_there c.args.low c.args.high c.args.trees.now.one.rows _ (c.as_slice-2.ensures.value ∙ c.in_ok-nodes.ensures) (omega (arith, c.requires.there, c.requires.one)) }

pub node_sums-requires-3 : goal.node_sums-requires-3
node_sums-requires-3 c =
    record { there = range_there c.args.low c.args.high c.args.trees.now.two.rows _ (c.as_slice-3.ensures.value ∙ c.in_ok-nodes.ensures) (omega (arith, c.requires.there, c.requires.two)) }

pub returns-in_err-zero-clause-visits : goal.returns-in_err-zero-clause-visits
returns-in_err-zero-clause-visits c =
    let nodes = cover_of c.args.low c.args.high in
    let e = c.from_residual-in_err-zero.ensures.0 in
    record {
      zero = visited_stopped nodes _ _ _ e (rw (c.as_slice.ensures.value, c.in_ok-nodes.ensures) at c.in_err-zero.ensures.visits);
      one = visited_none nodes _ _ e;
      two = visited_none nodes _ _ e;
    }

pub returns-in_err-one-clause-visits : goal.returns-in_err-one-clause-visits
returns-in_err-one-clause-visits c =
    let nodes = cover_of c.args.low c.args.high in
    let e = c.from_residual-in_err-one.ensures.0 in
    record {
      zero = visited_done nodes _ _ _ e (rw (c.as_slice.ensures.value, c.in_ok-nodes.ensures) at c.in_ok-zero.ensures.visits);
      one = visited_stopped nodes _ _ _ e (rw (c.as_slice-2.ensures.value, c.in_ok-nodes.ensures) at c.in_err-one.ensures.visits);
      two = visited_none nodes _ _ e;
    }

pub returns-in_err-two-clause-visits : goal.returns-in_err-two-clause-visits
returns-in_err-two-clause-visits c =
    let nodes = cover_of c.args.low c.args.high in
    let e = c.from_residual-in_err-two.ensures.0 in
    record {
      zero = visited_done nodes _ _ _ e (rw (c.as_slice.ensures.value, c.in_ok-nodes.ensures) at c.in_ok-zero.ensures.visits);
      one = visited_done nodes _ _ _ e (rw (c.as_slice-2.ensures.value, c.in_ok-nodes.ensures) at c.in_ok-one.ensures.visits);
      two = visited_stopped nodes _ _ _ e (rw (c.as_slice-3.ensures.value, c.in_ok-nodes.ensures) at c.in_err-two.ensures.visits);
    }
