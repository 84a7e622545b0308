use Rattle.std.proofs.Common.{arith, ◌≡◌, ◌≤◌, ◌+◌, ◌*◌, ◌%◌, ◌^◌, ◌∙◌, ◌++◌, ◌∷◌, [], ap, refl, List}
use Rattle.std.proofs.Math.Pow.{pow_mono}
use Rattle.row_tree.specs.declared.node.Node.{Node}
use Rattle.row_tree.specs.Running.{cells_in}
use Rattle.row_tree.specs.Sums.{list_of}
use Rattle.row_tree.specs.Column.{Tree}
use Rattle.row_tree.proofs.RunningSums.{low_node, rows_between}
use Rattle.row_tree.proofs.tree.RowTree.node.Goals as goal

pub overflow_shl-size : goal.overflow_shl-size
overflow_shl-size c =
    let old : c.self.inside.rows ≡ c.args.self.now.rows = ap (λ (t : Tree). t.rows) c.self.view_is in
    let low = low_node c.args.node.index c.args.node.height c.args.self.now.rows c.requires (omega (arith, old, c.self.invariant.2)) in omega (arith, low)

pub returns : goal.returns
returns c =
    let t = c.self.inside in
    let node : Node = c.args.node in
    let size = 2 ^ node.height in
    let old : t.rows ≡ c.args.self.now.rows = ap (λ (t : Tree). t.rows) c.self.view_is in
    let low = low_node node.index node.height c.args.self.now.rows c.requires (omega (arith, old, c.self.invariant.2)) in
    let few : size ≤ 2 ^ 17 = pow_mono {i = node.height} {j = 17} (omega (arith, low)) in
    let same : 1 * size % 18446744073709551616 ≡ size = omega (arith, few) in
    let from = node.index * size in
    let split : (node.index + 1) * size ≡ from + size = omega arith in
    let there : from + size ≤ t.rows = omega (arith, c.requires, old, split) in
    let first = rw (same, c.as_slice.ensures.value) at c.in_ok-first.ensures in
    let second = rw (same, c.as_slice-2.ensures.value) at c.in_ok-second.ensures in (
      (
        refl,
        λ _. tt,
        (
          ap (λ (l : List Node). record { column = t.column; width = t.width; rows = t.rows; first = cells_in t.width t.first.items; second = cells_in t.width t.second.items; visits = l })
              c.in_ok-push.ensures.items
              ∙ ap (λ (v : Tree). record v { visits = v.visits ++ node ∷ [] }) c.self.view_is,
          tt,
        ),
      ),
      record {
        after = tt;
        first = c.lend.ensures.first
            ∙ (first ∙ (rows_between t.width t.rows t.first.items from size c.self.invariant.3 there ∙ ap (λ (v : Tree). list_of v.width v.first node) c.self.view_is));
        second = c.lend.ensures.second
            ∙ (second ∙ (rows_between t.width t.rows t.second.items from size c.self.invariant.4 there ∙ ap (λ (v : Tree). list_of v.width v.second node) c.self.view_is));
      },
    )
