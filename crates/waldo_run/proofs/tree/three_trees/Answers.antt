use Rattle.std.proofs.Common.{arith}
use Rattle.waldo_run.proofs.Ranging.{same_tree}
use Rattle.waldo_run.proofs.tree.three_trees.Goals as goal

pub returns-clause-zero : goal.returns-clause-zero
returns-clause-zero c =
    let same = rw c.requires.widths at c.in_ok-shelves.ensures.shelves.pieces in
    same_tree c.args.widths.now c.args.column c.rows-rows.result _ _ _ _ _ c.in_ok-zero.zero c.in_ok-zero.ensures c.rows-rows.ensures.rows
    (same.first 0 c.args.column (omega arith) (omega (arith, c.requires.column)))
    (same.second 0 c.args.column (omega arith) (omega (arith, c.requires.column)))

pub returns-clause-one : goal.returns-clause-one
returns-clause-one c =
    let same = rw c.requires.widths at c.in_ok-shelves.ensures.shelves.pieces in
    same_tree c.args.widths.now c.args.column c.rows-rows.result _ _ _ _ _ c.in_ok-one.one c.in_ok-one.ensures c.rows-rows.ensures.rows
    (same.first 1 c.args.column (omega arith) (omega (arith, c.requires.column)))
    (same.second 1 c.args.column (omega arith) (omega (arith, c.requires.column)))

pub returns-clause-two : goal.returns-clause-two
returns-clause-two c =
    let same = rw c.requires.widths at c.in_ok-shelves.ensures.shelves.pieces in
    same_tree c.args.widths.now c.args.column c.rows-rows.result _ _ _ _ _ c.in_ok-two.two c.in_ok-two.ensures c.rows-rows.ensures.rows
    (same.first 2 c.args.column (omega arith) (omega (arith, c.requires.column)))
    (same.second 2 c.args.column (omega arith) (omega (arith, c.requires.column)))
