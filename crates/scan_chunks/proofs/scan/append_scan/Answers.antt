use Rattle.std.proofs.Common.{rules, arith, ap, append_assoc, List, ℕ, ◌++◌, ◌≡◌, ◌∙◌, ◌+◌, ◌-◌, ◌*◌, ◌<◌, ◌≤◌, min}
use Rattle.scan_chunks.specs.Pieces.{chunks_of}
use Rattle.scan_chunks.proofs.Chunks.{chunk_long, scanned_more}
use Rattle.scan_chunks.proofs.Visits.{stopped, visited_more}
use Rattle.scan_chunks.proofs.scan.append_scan.Goals as goal

pub returns-in_err-lent-clause-part : goal.returns-in_err-lent-clause-part
returns-in_err-lent-clause-part g c =
    let i = c.loop-c.invariant in
    let h = g.S.Shelf.held c.args.shelf.now in
    let kept = rw c.in_err-lent.was at c.chunk.follows.holds-at-none.2 in
    let below : c.loop-c.c ≤ chunks_of h.rows = omega (arith, c.loop-c-test.true, c.div_ceil-c-end.ensures, i.rows) in
    stopped _ h c.args.column c.loop-c.c _ _ below (kept ∙ i.visits)

pub scan_chunk-requires-clause-first : goal.scan_chunk-requires-clause-first
scan_chunk-requires-clause-first g c =
    let i = c.loop-c.invariant in
    let h = g.S.Shelf.held c.args.shelf.now in
    let at : h.start + c.loop-c.c - h.start ≡ c.loop-c.c = omega arith in
    let count : c.min-count.result ≡ min 64 (c.rows-rows.result - 64 * c.loop-c.c) = search rules in
    let below : c.loop-c.c < chunks_of h.rows = omega (arith, c.loop-c-test.true, c.div_ceil-c-end.ensures, i.rows) in
    rw (c.in_ok-lent.ensures.first, i.held, i.start, at, count, i.rows, i.width) (chunk_long (h.width c.args.column) c.loop-c.c h.rows (h.pieces.first c.args.column) (i.shelf.first c.args.column c.requires.column) below)

pub scan_chunk-requires-clause-second : goal.scan_chunk-requires-clause-second
scan_chunk-requires-clause-second g c =
    let i = c.loop-c.invariant in
    let h = g.S.Shelf.held c.args.shelf.now in
    let at : h.start + c.loop-c.c - h.start ≡ c.loop-c.c = omega arith in
    let count : c.min-count.result ≡ min 64 (c.rows-rows.result - 64 * c.loop-c.c) = search rules in
    let below : c.loop-c.c < chunks_of h.rows = omega (arith, c.loop-c-test.true, c.div_ceil-c-end.ensures, i.rows) in
    rw (c.in_ok-lent.ensures.second, i.held, i.start, at, count, i.rows, i.width) (chunk_long (h.width c.args.column) c.loop-c.c h.rows (h.pieces.second c.args.column) (i.shelf.second c.args.column c.requires.column) below)

pub loop-c-preserved : goal.loop-c-preserved
loop-c-preserved g c =
    let i = c.loop-c.invariant in
    let h = g.S.Shelf.held c.args.shelf.now in
    let went = rw c.in_ok-lent.was at c.chunk.follows.holds-at-none.1 in
    let at : h.start + c.loop-c.c - h.start ≡ c.loop-c.c = omega arith in
    let count : c.min-count.result ≡ min 64 (c.rows-rows.result - 64 * c.loop-c.c) = search rules in
    let below : c.loop-c.c < chunks_of h.rows = omega (arith, c.loop-c-test.true, c.div_ceil-c-end.ensures, i.rows) in
    record {
      held = c.chunk.follows.holds-at-none.0 ∙ i.held;
      shelf = i.shelf;
      rows = i.rows;
      start = i.start;
      width = i.width;
      numbers =
          rw (c.scan_chunk.ensures.numbers, i.numbers, c.in_ok-lent.ensures.first, c.in_ok-lent.ensures.second, i.held, i.start, at, count, i.rows, i.width, append_assoc)
          (ap (λ (l : List ℕ). c.args.numbers.now.items ++ l)
          (scanned_more c.args.tables.now.zero c.args.tables.now.one (h.width c.args.column) c.loop-c.c h.rows (h.pieces.first c.args.column) (h.pieces.second c.args.column) below));
      length = omega (arith, c.scan_chunk.ensures.length, i.length, count, i.rows, below);
      room = omega (arith, c.scan_chunk.ensures.room, i.room);
      visits = visited_more h c.args.column c.loop-c.c _ _ _ i.visits (rw (i.start) at went);
    }
