use Rattle.std.proofs.Common.{arith, ◌≡◌, ◌∙◌, ◌+◌, ◌++◌, ◌∷◌, [], take, sym, ap, refl, List, get_or, length}
use Rattle.std.proofs.lemmas.List.{take_more}
use Rattle.ring128.specs.Ring.{plus}
use Rattle.row_tree.specs.Running.{cells_in, last_of}
use Rattle.row_tree.proofs.RunningSums.{grown_more, run_more}
use Rattle.row_tree.proofs.running.run_on.Goals as goal

pub loop-cell-preserved : goal.loop-cell-preserved
loop-cell-preserved c =
    let i = c.loop-cell.invariant in
    let w = c.args.width in
    let now = c.loop-cell.sums.items in
    let x = get_or c.args.cells.now c.loop-cell.cell-index 0 in
    let sum : c.next-sum.result ≡ plus x (last_of w now (length now)) =
    c.next-sum.ensures.sum ∙ ap (λ l. plus x (last_of w l (length l))) c.as_slice.ensures.value in
    record {
      cells = ap (cells_in w) (c.push_reserved.ensures.items ∙ ap (λ v. now ++ v ∷ []) sum)
          ∙ run_more w c.args.sums.now.items now c.args.cells.now c.loop-cell.cell-index x c.requires.some c.next-sum.ensures.small i.cells
          (take_more c.args.cells.now c.loop-cell.cell-index 0 c.loop-cell-test.true);
      long = grind arith;
      grown = grown_more _ _ _ (c.next-sum.result ∷ []) i.grown c.push_reserved.ensures.items;
      room = grind arith;
    }
