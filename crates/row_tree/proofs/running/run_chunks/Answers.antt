use Rattle.std.proofs.Common.{arith, ◌≡◌, ◌∙◌, ap, refl, ℕ, ◌+◌, ◌-◌, ◌*◌, ◌≤◌, length, vec_capacity}
use Rattle.scan_chunks.specs.Pieces.{chunk_of, chunks_of}
use Rattle.scan_chunks.proofs.Visits.{stopped, visited_more}
use Rattle.row_tree.proofs.RunningSums.{all_added, chunk_added, chunk_fits, grown_both}
use Rattle.row_tree.proofs.running.run_chunks.Goals as goal

pub run_on-requires-clause-room : goal.run_on-requires-clause-room
run_on-requires-clause-room g c =
    let i = c.loop-c.invariant in
    let h = g.S.Shelf.held c.args.shelf.now in
    let w = c.args.width in
    let at : h.start + c.loop-c.c - h.start ≡ c.loop-c.c = omega arith in
    let is : c.in_ok-lent.lent.first.now ≡ chunk_of w c.loop-c.c (h.pieces.first c.args.column) =
    rw (c.in_ok-lent.ensures.first, i.held, i.start, at, c.requires.width) refl in
    let long : length (h.pieces.first c.args.column) ≡ h.rows * w = i.shelf.first c.args.column c.requires.column ∙ ap (λ (n : ℕ). h.rows * n) c.requires.width in
    let fits = chunk_fits w h.rows c.loop-c.c (vec_capacity c.args.first.now) c.args.first.now.items c.loop-c.first.items (h.pieces.first c.args.column)
    c.in_ok-lent.lent.first.now long (omega (arith, c.requires.first_room, c.args.first.now.ok.0)) i.first is in
    omega (arith, fits, i.first_room, c.loop-c.first.ok.0)

pub run_on-requires-in-loop-c-clause-room : goal.run_on-requires-in-loop-c-clause-room
run_on-requires-in-loop-c-clause-room g c =
    let i = c.loop-c.invariant in
    let h = g.S.Shelf.held c.args.shelf.now in
    let w = c.args.width in
    let at : h.start + c.loop-c.c - h.start ≡ c.loop-c.c = omega arith in
    let is : c.in_ok-lent.lent.second.now ≡ chunk_of w c.loop-c.c (h.pieces.second c.args.column) =
    rw (c.in_ok-lent.ensures.second, i.held, i.start, at, c.requires.width) refl in
    let long : length (h.pieces.second c.args.column) ≡ h.rows * w = i.shelf.second c.args.column c.requires.column ∙ ap (λ (n : ℕ). h.rows * n) c.requires.width in
    let fits = chunk_fits w h.rows c.loop-c.c (vec_capacity c.args.second.now) c.args.second.now.items c.loop-c.second.items (h.pieces.second c.args.column)
    c.in_ok-lent.lent.second.now long (omega (arith, c.requires.second_room, c.args.second.now.ok.0)) i.second is in
    omega (arith, fits, i.second_room, c.loop-c.second.ok.0)

pub loop-c-preserved : goal.loop-c-preserved
loop-c-preserved g c =
    let i = c.loop-c.invariant in
    let h = g.S.Shelf.held c.args.shelf.now in
    let w = c.args.width in
    let went = rw c.in_ok-lent.was at c.chunk.follows.holds-at-none.1 in
    let at : h.start + c.loop-c.c - h.start ≡ c.loop-c.c = omega arith in
    let near : c.in_ok-lent.lent.first.now ≡ chunk_of w c.loop-c.c (h.pieces.first c.args.column) =
    rw (c.in_ok-lent.ensures.first, i.held, i.start, at, c.requires.width) refl in
    let far : c.in_ok-lent.lent.second.now ≡ chunk_of w c.loop-c.c (h.pieces.second c.args.column) =
    rw (c.in_ok-lent.ensures.second, i.held, i.start, at, c.requires.width) refl in
    record {
      held = c.chunk.follows.holds-at-none.0 ∙ i.held;
      shelf = i.shelf;
      rows = i.rows;
      start = i.start;
      first = chunk_added w c.loop-c.c _ _ _ (h.pieces.first c.args.column) _ i.first near c.run_on.ensures.cells;
      second = chunk_added w c.loop-c.c _ _ _ (h.pieces.second c.args.column) _ i.second far c.run_on-in-loop-c.ensures.cells;
      first_grown = grown_both _ _ _ i.first_grown c.run_on.ensures.grown;
      second_grown = grown_both _ _ _ i.second_grown c.run_on-in-loop-c.ensures.grown;
      first_room = c.run_on.ensures.room ∙ i.first_room;
      second_room = c.run_on-in-loop-c.ensures.room ∙ i.second_room;
      visits = visited_more h c.args.column c.loop-c.c _ _ _ i.visits (rw (i.start) at went);
    }

pub returns-in_err-lent-clause-part : goal.returns-in_err-lent-clause-part
returns-in_err-lent-clause-part g c =
    let i = c.loop-c.invariant in
    let h = g.S.Shelf.held c.args.shelf.now in
    let kept = rw c.in_err-lent.was at c.chunk.follows.holds-at-none.2 in
    let below : c.loop-c.c ≤ chunks_of h.rows = omega (arith, c.loop-c-test.true, c.div_ceil-c-end.ensures, i.rows) in
    stopped _ h c.args.column c.loop-c.c _ _ below (kept ∙ i.visits)

pub returns-clause-first : goal.returns-clause-first
returns-clause-first g c =
    let i = c.loop-c.invariant in
    let h = g.S.Shelf.held c.args.shelf.now in
    let w = c.args.width in
    let end : c.loop-c.c ≡ chunks_of h.rows = omega (arith, c.loop-c-test.false, c.div_ceil-c-end.ensures, i.rows, c.loop-c.auto.c-end) in
    let long : length (h.pieces.first c.args.column) ≡ h.rows * w = i.shelf.first c.args.column c.requires.column ∙ ap (λ (n : ℕ). h.rows * n) c.requires.width in
    all_added w h.rows c.loop-c.c _ _ (h.pieces.first c.args.column) long end i.first

pub returns-clause-second : goal.returns-clause-second
returns-clause-second g c =
    let i = c.loop-c.invariant in
    let h = g.S.Shelf.held c.args.shelf.now in
    let w = c.args.width in
    let end : c.loop-c.c ≡ chunks_of h.rows = omega (arith, c.loop-c-test.false, c.div_ceil-c-end.ensures, i.rows, c.loop-c.auto.c-end) in
    let long : length (h.pieces.second c.args.column) ≡ h.rows * w = i.shelf.second c.args.column c.requires.column ∙ ap (λ (n : ℕ). h.rows * n) c.requires.width in
    all_added w h.rows c.loop-c.c _ _ (h.pieces.second c.args.column) long end i.second
