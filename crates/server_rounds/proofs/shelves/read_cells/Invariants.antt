use Rattle.std.proofs.Common.{◌≡◌, map, take, drop, length}
use Rattle.std.specs.List.{flat_map}
use Rattle.scan_chunks.specs.Shelf.{Held}
use Rattle.scan_chunks.proofs.Shelves.{AreScanned}
use Rattle.server_rounds.proofs.shelves.read_cells.Given as goal

abbrev pub invariant-loop-i : goal.invariant-loop-i
invariant-loop-i g l = record {
  held : map g.S.Shelf.held l.shelves.items ≡ map g.S.Shelf.held l.fn.shelves.items;
  scanned : AreScanned g.S.Shelf.held g.S.Shelf.visited l.column (take l.i l.fn.shelves.items) (take l.i l.shelves.items);
  rest : drop l.i l.shelves.items ≡ drop l.i l.fn.shelves.items;
  first : l.first.items ≡ flat_map (λ (h : Held). h.pieces.first l.column) (take l.i (map g.S.Shelf.held l.fn.shelves.items));
  second : l.second.items ≡ flat_map (λ (h : Held). h.pieces.second l.column) (take l.i (map g.S.Shelf.held l.fn.shelves.items));
  lengths : length l.first.items ≡ length l.second.items;
}
