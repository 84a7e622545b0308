use Rattle.std.proofs.Common.{◌≡◌, ◌*◌, ◌++◌, take}
use Rattle.share_product.specs.Product.{inner_of}
use Rattle.scan_chunks.specs.Shelf.{IsShelf}
use Rattle.scan_chunks.proofs.Visits.{visits_to}
use Rattle.server_rounds.proofs.values.inner_of_shelf.Given as goal

abbrev pub invariant-loop-c : goal.invariant-loop-c
invariant-loop-c g l = let h = g.S.Shelf.held l.fn.shelf in record {
  held : g.S.Shelf.held l.shelf ≡ h;
  shelf : IsShelf h;
  rows : l.rows ≡ h.rows;
  start : l.start ≡ h.start;
  sum : l.sum ≡ inner_of (take (64 * l.c) l.first) (take (64 * l.c) l.second) (take (64 * l.c) (h.pieces.first l.value)) (take (64 * l.c) (h.pieces.second l.value));
  visits : g.S.Shelf.visited l.shelf ≡ g.S.Shelf.visited l.fn.shelf ++ visits_to h l.value l.c;
}
