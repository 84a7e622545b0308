use Rattle.std.proofs.Common.{◌≡◌, ◌∙◌, ap, replicate, ℕ}
use Rattle.row_tree.proofs.Ranges.{zero_sum}
use Rattle.row_tree.proofs.runs.node_sums.Goals as goal

pub add_nodes-requires-clause-first : goal.add_nodes-requires-clause-first
add_nodes-requires-clause-first c =
    c.as_mut_slice.ensures.value
    ∙ zero_sum c.args.tree.now.width c.args.tree.now.first c.in_ok-first.first.items
    (c.in_ok-first.ensures.items_if_clones_equal (λ y same. same) ∙ ap (λ (n : ℕ). replicate n 0) c.width-width.ensures)

pub add_nodes-requires-clause-second : goal.add_nodes-requires-clause-second
add_nodes-requires-clause-second c =
    c.as_mut_slice-2.ensures.value
    ∙ zero_sum c.args.tree.now.width c.args.tree.now.second c.in_ok-second.second.items
    (c.in_ok-second.ensures.items_if_clones_equal (λ y same. same) ∙ ap (λ (n : ℕ). replicate n 0) c.width-width.ensures)
