use Rattle.std.proofs.Common.{rules, arith, ap, ◌≡◌, ◌∙◌, ℕ, ◌+◌, ◌-◌, ◌*◌, ◌<◌, ◌≤◌, min, length}
use Rattle.share_product.specs.Product.{inner_of}
use Rattle.scan_chunks.specs.Pieces.{chunk_of, chunks_of}
use Rattle.scan_chunks.proofs.Visits.{stopped, visited_more}
use Rattle.server_rounds.proofs.Adding.{chunk_added, pairs_of_chunk}
use Rattle.server_rounds.proofs.values.inner_of_shelf.Goals as goal

pub returns-in_err-lent-clause-part : goal.returns-in_err-lent-clause-part
returns-in_err-lent-clause-part g c =
    let i = c.loop-c.invariant in
    let h = g.S.Shelf.held c.args.shelf.now in
    let kept = rw c.in_err-lent.was at c.chunk.follows.holds-at-none.2 in
    let below : c.loop-c.c ≤ chunks_of h.rows = omega (arith, c.loop-c-test.true, c.div_ceil-c-end.ensures, i.rows) in
    stopped _ h c.args.value c.loop-c.c _ _ below (kept ∙ i.visits)

pub loop-c-preserved : goal.loop-c-preserved
loop-c-preserved g c =
    let i = c.loop-c.invariant in
    let h = g.S.Shelf.held c.args.shelf.now in
    let n = c.loop-c.c in
    let went = rw c.in_ok-lent.was at c.chunk.follows.holds-at-none.1 in
    let at : h.start + n - h.start ≡ n = omega arith in
    let one : h.width c.args.value ≡ 1 = ap h.width c.requires.value ∙ i.shelf.value in
    let there : c.args.value ≤ h.columns = omega (arith, c.requires.value) in
    let x : length (h.pieces.first c.args.value) ≡ h.rows = i.shelf.first c.args.value there ∙ ap (λ (w : ℕ). h.rows * w) one ∙ omega arith in
    let y : length (h.pieces.second c.args.value) ≡ h.rows = i.shelf.second c.args.value there ∙ ap (λ (w : ℕ). h.rows * w) one ∙ omega arith in
    let below : n < chunks_of h.rows = omega (arith, c.loop-c-test.true, c.div_ceil-c-end.ensures, i.rows) in
    let counted : c.min-count.result ≡ min 64 (c.rows-rows.result - 64 * n) = search rules in
    let count : c.min-count.result ≡ min 64 (h.rows - 64 * n) = counted ∙ ap (λ (r : ℕ). min 64 (r - 64 * n)) i.rows in
    let u = rw (i.held, i.start, at, one) at c.in_ok-lent.ensures.first in
    let v = rw (i.held, i.start, at, one) at c.in_ok-lent.ensures.second in
    let part : c.inner_lent.result ≡ inner_of (chunk_of 1 n c.args.first.now) (chunk_of 1 n c.args.second.now) (chunk_of 1 n (h.pieces.first c.args.value)) (chunk_of 1 n (h.pieces.second c.args.value)) =
    c.inner_lent.ensures
    ∙ rw (pairs_of_chunk n h.rows _ c.args.first.now c.requires.first below count, pairs_of_chunk n h.rows _ c.args.second.now c.requires.second below count, u, v) in
    record {
      held = c.chunk.follows.holds-at-none.0 ∙ i.held;
      shelf = i.shelf;
      rows = i.rows;
      start = i.start;
      sum = c.add-sum.ensures ∙ chunk_added n h.rows c.args.first.now c.args.second.now (h.pieces.first c.args.value) (h.pieces.second c.args.value) _ _ c.requires.first c.requires.second x y i.sum part;
      visits = visited_more h c.args.value n _ _ _ i.visits (rw (i.start) at went);
    }
