use Rattle.std.proofs.Common.{◌≡◌, take, drop}
use Rattle.std.specs.List.{flat_map}
use Rattle.scan_chunks.specs.Scan.{scan_of}
use Rattle.scan_chunks.proofs.Shelves.{AreScanned}
use Rattle.scan_chunks.proofs.many.scan_in_turn.Given as goal

abbrev pub invariant-loop-i : goal.invariant-loop-i
invariant-loop-i g l = record {
  scanned : AreScanned g.S.Shelf.held g.S.Shelf.visited l.column (take l.i l.fn.shelves) (take l.i l.shelves);
  rest : drop l.i l.shelves ≡ drop l.i l.fn.shelves;
  numbers : l.numbers.items ≡ flat_map (λ s. scan_of (g.S.Shelf.held s) l.column l.tables.zero l.tables.one) (take l.i l.fn.shelves);
}
