use Rattle.std.proofs.Common.{◌≡◌, ◌*◌, ◌++◌, min}
use Rattle.scan_chunks.specs.Shelf.{IsShelf}
use Rattle.scan_chunks.proofs.Visits.{visits_to}
use Rattle.bucket_groups.proofs.Adding.{added_to}
use Rattle.bucket_groups.proofs.sums.add_shelf.Given as goal

abbrev pub invariant-loop-c : goal.invariant-loop-c
invariant-loop-c g l = let h = g.S.Shelf.held l.fn.shelf in record {
  held : g.S.Shelf.held l.shelf ≡ h;
  shelf : IsShelf h;
  rows : l.rows ≡ h.rows;
  start : l.start ≡ h.start;
  sums : l.sums ≡ added_to l.fn.sums l.first l.second (h.pieces.first l.column) (h.pieces.second l.column) (min (64 * l.c) h.rows);
  visits : g.S.Shelf.visited l.shelf ≡ g.S.Shelf.visited l.fn.shelf ++ visits_to h l.column l.c;
}
