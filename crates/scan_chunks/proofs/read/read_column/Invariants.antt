use Rattle.std.proofs.Common.{◌≡◌, ◌*◌, ◌++◌, take}
use Rattle.scan_chunks.specs.Shelf.{IsShelf}
use Rattle.scan_chunks.proofs.Visits.{visits_to}
use Rattle.scan_chunks.proofs.read.read_column.Given as goal

abbrev pub invariant-loop-c : goal.invariant-loop-c
invariant-loop-c g l = let h = g.S.Shelf.held l.fn.shelf in record {
  held : g.S.Shelf.held l.shelf ≡ h;
  shelf : IsShelf h;
  rows : l.rows ≡ h.rows;
  start : l.start ≡ h.start;
  first : l.first.items ≡ take (64 * h.width l.column * l.c) (h.pieces.first l.column);
  second : l.second.items ≡ take (64 * h.width l.column * l.c) (h.pieces.second l.column);
  visits : g.S.Shelf.visited l.shelf ≡ g.S.Shelf.visited l.fn.shelf ++ visits_to h l.column l.c;
}
