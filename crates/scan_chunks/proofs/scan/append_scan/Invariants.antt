use Rattle.std.proofs.Common.{◌≡◌, ◌≤◌, ◌+◌, ◌*◌, ◌++◌, min, vec_len, vec_capacity}
use Rattle.list_facts.specs.Listed.{listed}
use Rattle.scan_chunks.specs.Scan.{row_number}
use Rattle.scan_chunks.specs.Shelf.{IsShelf}
use Rattle.scan_chunks.proofs.Visits.{visits_to}
use Rattle.scan_chunks.proofs.scan.append_scan.Given as goal

abbrev pub invariant-loop-c : goal.invariant-loop-c
invariant-loop-c g l = let h = g.S.Shelf.held l.fn.shelf in record {
  held : g.S.Shelf.held l.shelf ≡ h;
  shelf : IsShelf h;
  rows : l.rows ≡ h.rows;
  start : l.start ≡ h.start;
  width : l.width ≡ h.width l.column;
  numbers : l.numbers.items ≡ l.fn.numbers.items ++ listed (min (64 * l.c) h.rows) (row_number l.tables.zero l.tables.one (h.width l.column) (h.pieces.first l.column) (h.pieces.second l.column));
  length : vec_len l.numbers ≡ vec_len l.fn.numbers + min (64 * l.c) h.rows;
  room : vec_len l.fn.numbers + h.rows ≤ vec_capacity l.numbers;
  visits : g.S.Shelf.visited l.shelf ≡ g.S.Shelf.visited l.fn.shelf ++ visits_to h l.column l.c;
}
