use Rattle.std.proofs.Common.{arith, ◌≡◌, ◌∙◌, sym, ap, ℕ, List, ◌*◌, take, ◌+◌, ◌-◌, ◌≤◌}
use Rattle.scan_chunks.specs.Pieces.{chunks_of}
use Rattle.scan_chunks.proofs.Chunks.{chunk_more, all_chunks}
use Rattle.scan_chunks.proofs.Visits.{stopped, visited_more}
use Rattle.scan_chunks.proofs.read.read_column.Goals as goal

pub returns-in_err-lent-clause-part : goal.returns-in_err-lent-clause-part
returns-in_err-lent-clause-part g c =
    let i = c.loop-c.invariant in
    let h = g.S.Shelf.held c.args.shelf.now in
    let kept = rw c.in_err-lent.was at c.chunk.follows.holds-at-none.2 in
    let below : c.loop-c.c ≤ chunks_of (g.S.Shelf.held c.args.shelf.now).rows = omega (arith, c.loop-c-test.true, c.div_ceil-c-end.ensures, i.rows) in
    stopped _ h c.args.column c.loop-c.c _ _ below (kept ∙ i.visits)

pub returns-in_err-extend_from_slice-clause-part : goal.returns-in_err-extend_from_slice-clause-part
returns-in_err-extend_from_slice-clause-part g c =
    let i = c.loop-c.invariant in
    let h = g.S.Shelf.held c.args.shelf.now in
    let went = rw c.in_ok-lent.was at c.chunk.follows.holds-at-none.1 in
    let below : c.loop-c.c + 1 ≤ chunks_of (g.S.Shelf.held c.args.shelf.now).rows = omega (arith, c.loop-c-test.true, c.div_ceil-c-end.ensures, i.rows) in
    stopped _ h c.args.column (c.loop-c.c + 1) _ _ below (visited_more h c.args.column c.loop-c.c _ _ _ i.visits (rw (i.start) at went))

pub returns-in_err-extend_from_slice-2-clause-part : goal.returns-in_err-extend_from_slice-2-clause-part
returns-in_err-extend_from_slice-2-clause-part g c =
    let i = c.loop-c.invariant in
    let h = g.S.Shelf.held c.args.shelf.now in
    let went = rw c.in_ok-lent.was at c.chunk.follows.holds-at-none.1 in
    let below : c.loop-c.c + 1 ≤ chunks_of (g.S.Shelf.held c.args.shelf.now).rows = omega (arith, c.loop-c-test.true, c.div_ceil-c-end.ensures, i.rows) in
    stopped _ h c.args.column (c.loop-c.c + 1) _ _ below (visited_more h c.args.column c.loop-c.c _ _ _ i.visits (rw (i.start) at went))

pub loop-c-preserved : goal.loop-c-preserved
loop-c-preserved g c =
    let i = c.loop-c.invariant in
    let h = g.S.Shelf.held c.args.shelf.now in
    let went = rw c.in_ok-lent.was at c.chunk.follows.holds-at-none.1 in
    let at : h.start + c.loop-c.c - h.start ≡ c.loop-c.c = omega arith in
    record {
      held = c.chunk.follows.holds-at-none.0 ∙ i.held;
      shelf = i.shelf;
      rows = i.rows;
      start = i.start;
      first = rw (c.in_ok-extend_from_slice.ensures.items, c.in_ok-lent.ensures.first, i.first, i.held, i.start, at) (sym (chunk_more (h.width c.args.column) c.loop-c.c (h.pieces.first c.args.column)));
      second = rw (c.in_ok-extend_from_slice-2.ensures.items, c.in_ok-lent.ensures.second, i.second, i.held, i.start, at) (sym (chunk_more (h.width c.args.column) c.loop-c.c (h.pieces.second c.args.column)));
      visits = visited_more h c.args.column c.loop-c.c _ _ _ i.visits (rw (i.start) at went);
    }

pub returns-clause-first : goal.returns-clause-first
returns-clause-first g c =
    let i = c.loop-c.invariant in
    let h = g.S.Shelf.held c.args.shelf.now in
    let end : c.loop-c.c ≡ chunks_of h.rows = omega (arith, c.loop-c-test.false, c.div_ceil-c-end.ensures, i.rows, c.loop-c.auto.c-end) in
    c.from_vec.ensures ∙ i.first ∙ ap (λ (n : ℕ). take (64 * h.width c.args.column * n) (h.pieces.first c.args.column)) end
    ∙ all_chunks (h.width c.args.column) h.rows (h.pieces.first c.args.column) (i.shelf.first c.args.column c.requires.column)

pub returns-clause-second : goal.returns-clause-second
returns-clause-second g c =
    let i = c.loop-c.invariant in
    let h = g.S.Shelf.held c.args.shelf.now in
    let end : c.loop-c.c ≡ chunks_of h.rows = omega (arith, c.loop-c-test.false, c.div_ceil-c-end.ensures, i.rows, c.loop-c.auto.c-end) in
    c.from_vec-2.ensures ∙ i.second ∙ ap (λ (n : ℕ). take (64 * h.width c.args.column * n) (h.pieces.second c.args.column)) end
    ∙ all_chunks (h.width c.args.column) h.rows (h.pieces.second c.args.column) (i.shelf.second c.args.column c.requires.column)
