use Rattle.std.proofs.Common.{◌≡◌, take, All}
use Rattle.list_facts.specs.Count.{total}
use Rattle.scan_chunks.specs.Shelf.{IsShelf}
use Rattle.server_rounds.proofs.shelves.count_rows.Given as goal

abbrev pub invariant-loop-shelf : goal.invariant-loop-shelf
invariant-loop-shelf g l = record {
  count : l.count ≡ total (λ s. (g.S.Shelf.held s).rows) (take l.shelf-index l.shelves);
  shelves : All (λ s. IsShelf (g.S.Shelf.held s)) (take l.shelf-index l.shelves);
}
