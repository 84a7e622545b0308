use Rattle.std.proofs.Common.{◌≡◌, ◌+◌, ◌++◌, vec_len, vec_capacity}
use Rattle.list_facts.specs.Listed.{listed}
use Rattle.scan_chunks.specs.Scan.{row_number}
use Rattle.scan_chunks.proofs.scan.scan_chunk.Given as goal

abbrev pub invariant-loop-i : goal.invariant-loop-i
invariant-loop-i l = record {
  numbers : l.numbers.items ≡ l.fn.numbers.items ++ listed l.i (row_number l.tables.zero l.tables.one l.width l.lent.first.now l.lent.second.now);
  length : vec_len l.numbers ≡ vec_len l.fn.numbers + l.i;
  room : vec_capacity l.numbers ≡ vec_capacity l.fn.numbers;
}
