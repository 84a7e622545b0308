use Rattle.std.proofs.Common.{arith, ◌≡◌, ◌∙◌, ap, sym, get_or}
use Rattle.row_tree.specs.declared.node.Node.{Node}
use Rattle.row_tree.specs.Sums.{list_of}
use Rattle.row_tree.specs.Column.{Tree}
use Rattle.row_tree.proofs.Ranges.{sum_more, visit_more}
use Rattle.row_tree.proofs.ranging.add_nodes.Goals as goal

pub loop-node-preserved : goal.loop-node-preserved
loop-node-preserved c =
    let i = c.loop-node.invariant in
    let old : Tree = c.args.tree.now in
    let now : Tree = c.loop-node.tree in
    let nodes = c.args.nodes.now in
    let k = c.loop-node.node-index in
    let d : Node = record { height = 0; index = 0 } in
    let went = rw c.in_ok-lent.was at c.node.follows.holds-at-none.0 in
    record {
      tree = visit_more old now _ nodes k d c.loop-node-test.true i.tree went;
      first = c.add_into.ensures
          ∙ sum_more old.width old.first nodes k d c.loop-node.first c.in_ok-lent.lent.first.now c.loop-node-test.true i.first
          (c.in_ok-lent.ensures.first ∙ ap (λ (t : Tree). list_of t.width t.first (get_or nodes k d)) i.tree);
      second = c.add_into-in-loop-node.ensures
          ∙ sum_more old.width old.second nodes k d c.loop-node.second c.in_ok-lent.lent.second.now c.loop-node-test.true i.second
          (c.in_ok-lent.ensures.second ∙ ap (λ (t : Tree). list_of t.width t.second (get_or nodes k d)) i.tree);
    }
