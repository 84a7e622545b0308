use Rattle.std.proofs.Common.{◌≡◌, ◌+◌, ◌++◌, map, take}
use Rattle.server_rounds.specs.Shelves.{pieces_of, rows_of}
use Rattle.row_tree.proofs.growing.add_shelves.Given as goal

-- the rows of the first shelves were appended, and the others are as before
abbrev pub invariant-loop-i : goal.invariant-loop-i
invariant-loop-i g l = let first = take l.i (map g.S.Shelf.held l.fn.shelves.items) in record {
  held : map g.S.Shelf.held l.shelves.items ≡ map g.S.Shelf.held l.fn.shelves.items;
  tree : l.tree ≡ record l.fn.tree {
    rows = l.fn.tree.rows + rows_of first;
    first = l.fn.tree.first ++ (pieces_of first).first l.fn.tree.column;
    second = l.fn.tree.second ++ (pieces_of first).second l.fn.tree.column;
  };
}
