use Rattle.std.proofs.Common.{◌≡◌, ◌*◌, ◌++◌, take, vec_capacity}
use Rattle.scan_chunks.specs.Shelf.{IsShelf}
use Rattle.scan_chunks.proofs.Visits.{visits_to}
use Rattle.row_tree.specs.Running.{GrownFrom, cells_in}
use Rattle.row_tree.proofs.running.run_chunks.Given as goal

abbrev pub invariant-loop-c : goal.invariant-loop-c
invariant-loop-c g l = let h = g.S.Shelf.held l.fn.shelf in record {
  held : g.S.Shelf.held l.shelf ≡ h;
  shelf : IsShelf h;
  rows : l.rows ≡ h.rows;
  start : l.start ≡ h.start;
  first : cells_in l.width l.first.items ≡ cells_in l.width l.fn.first.items ++ take (64 * l.width * l.c) (h.pieces.first l.column);
  second : cells_in l.width l.second.items ≡ cells_in l.width l.fn.second.items ++ take (64 * l.width * l.c) (h.pieces.second l.column);
  first_grown : GrownFrom l.fn.first.items l.first.items;
  second_grown : GrownFrom l.fn.second.items l.second.items;
  first_room : vec_capacity l.first ≡ vec_capacity l.fn.first;
  second_room : vec_capacity l.second ≡ vec_capacity l.fn.second;
  visits : g.S.Shelf.visited l.shelf ≡ g.S.Shelf.visited l.fn.shelf ++ visits_to h l.column l.c;
}
