use Rattle.std.proofs.Common.{arith, ap, List, ℕ, ◌++◌, append_assoc}
use Rattle.list_facts.proofs.Listed.{listed_more}
use Rattle.scan_chunks.specs.Scan.{row_number}
use Rattle.scan_chunks.proofs.scan.scan_chunk.Goals as goal

pub loop-i-preserved : goal.loop-i-preserved
loop-i-preserved c =
    let i = c.loop-i.invariant in
    let row = row_number c.args.tables.now.zero c.args.tables.now.one c.args.width c.args.lent.now.first.now c.args.lent.now.second.now in
    record {
      numbers =
          rw (c.push_reserved.ensures.items, i.numbers, c.add.ensures, c.dot.ensures, c.dot-in-loop-i.ensures, c.as_slice-zero.ensures, c.as_slice-one.ensures, c.row-first.ensures.row, c.row-second.ensures.row, append_assoc)
          (ap (λ (l : List ℕ). c.args.numbers.now.items ++ l) (listed_more c.loop-i.i row));
      length = omega (arith, c.push_reserved.ensures.len, i.length);
      room = rw (c.push_reserved.ensures.capacity, i.room);
    }
