use Rattle.std.proofs.Common.{refl, rules, arith, ap, sym, ◌≡◌, ◌∙◌, ℕ, ◌+◌, ◌-◌, ◌*◌, ◌<◌, ◌≤◌, min, length, take, drop}
use Rattle.scan_chunks.specs.Pieces.{chunks_of}
use Rattle.scan_chunks.proofs.Chunks.{chunk_long, rows_in}
use Rattle.scan_chunks.proofs.Visits.{stopped, visited_more}
use Rattle.bucket_groups.proofs.Adding.{added_all, added_long, added_none, added_small, added_to, chunk_rows, pairs_long, rows_added}
use Rattle.bucket_groups.proofs.sums.add_shelf.Goals as goal

pub loop-c-init : goal.loop-c-init
loop-c-init g c =
    let h = g.S.Shelf.held c.args.shelf.now in
    let none : min 0 h.rows ≡ 0 = omega arith in
    record {
      held = refl;
      shelf = c.rows-rows.ensures.shelf;
      rows = c.rows-rows.ensures.value;
      start = c.first-start.ensures;
      sums = rw none (added_none c.args.sums.now c.args.first.now c.args.second.now (h.pieces.first c.args.column) (h.pieces.second c.args.column) c.requires.small);
      visits = search rules;
    }

pub add_chunk-requires-clause-small : goal.add_chunk-requires-clause-small
add_chunk-requires-clause-small g c = added_small c.args.sums.now _ _ _ _ c.loop-c.sums _ c.loop-c.invariant.sums

pub add_chunk-requires-clause-near : goal.add_chunk-requires-clause-near
add_chunk-requires-clause-near g c =
    let i = c.loop-c.invariant in
    let h = g.S.Shelf.held c.args.shelf.now in
    let n = c.loop-c.c in
    let w = length c.args.sums.now in
    let at : h.start + n - h.start ≡ n = omega arith in
    let below : n < chunks_of h.rows = omega (arith, c.loop-c-test.true, c.div_ceil-c-end.ensures, i.rows) in
    let counted : c.min-count.result ≡ min 64 (c.rows-rows.result - 64 * n) = search rules in
    let count : c.min-count.result ≡ rows_in h.rows n = counted ∙ ap (λ (r : ℕ). min 64 (r - 64 * n)) i.rows in
    let u = rw (i.held, i.start, at, c.requires.wide) at c.in_ok-lent.ensures.first in
    let x : length (h.pieces.first c.args.column) ≡ h.rows * w = i.shelf.first c.args.column c.requires.column ∙ ap (λ (m : ℕ). h.rows * m) c.requires.wide in
    rw (pairs_long n h.rows _ c.args.first.now c.requires.first count, added_long c.args.sums.now _ _ _ _ c.loop-c.sums _ i.sums)
    (ap length u ∙ chunk_long w n h.rows (h.pieces.first c.args.column) x below)

pub add_chunk-requires-clause-far : goal.add_chunk-requires-clause-far
add_chunk-requires-clause-far g c =
    let i = c.loop-c.invariant in
    let h = g.S.Shelf.held c.args.shelf.now in
    let n = c.loop-c.c in
    let w = length c.args.sums.now in
    let at : h.start + n - h.start ≡ n = omega arith in
    let below : n < chunks_of h.rows = omega (arith, c.loop-c-test.true, c.div_ceil-c-end.ensures, i.rows) in
    let counted : c.min-count.result ≡ min 64 (c.rows-rows.result - 64 * n) = search rules in
    let count : c.min-count.result ≡ rows_in h.rows n = counted ∙ ap (λ (r : ℕ). min 64 (r - 64 * n)) i.rows in
    let v = rw (i.held, i.start, at, c.requires.wide) at c.in_ok-lent.ensures.second in
    let y : length (h.pieces.second c.args.column) ≡ h.rows * w = i.shelf.second c.args.column c.requires.column ∙ ap (λ (m : ℕ). h.rows * m) c.requires.wide in
    rw (pairs_long n h.rows _ c.args.first.now c.requires.first count, added_long c.args.sums.now _ _ _ _ c.loop-c.sums _ i.sums)
    (ap length v ∙ chunk_long w n h.rows (h.pieces.second c.args.column) y below)

pub returns-in_err-lent-clause-part : goal.returns-in_err-lent-clause-part
returns-in_err-lent-clause-part g c =
    let i = c.loop-c.invariant in
    let h = g.S.Shelf.held c.args.shelf.now in
    let kept = rw c.in_err-lent.was at c.chunk.follows.holds-at-none.2 in
    let below : c.loop-c.c ≤ chunks_of h.rows = omega (arith, c.loop-c-test.true, c.div_ceil-c-end.ensures, i.rows) in
    stopped _ h c.args.column c.loop-c.c _ _ below (kept ∙ i.visits)

pub loop-c-preserved : goal.loop-c-preserved
loop-c-preserved g c =
    let i = c.loop-c.invariant in
    let h = g.S.Shelf.held c.args.shelf.now in
    let n = c.loop-c.c in
    let a = c.args.first.now in
    let b = c.args.second.now in
    let x = h.pieces.first c.args.column in
    let y = h.pieces.second c.args.column in
    let k = c.min-count.result in
    let went = rw c.in_ok-lent.was at c.chunk.follows.holds-at-none.1 in
    let at : h.start + n - h.start ≡ n = omega arith in
    let below : n < chunks_of h.rows = omega (arith, c.loop-c-test.true, c.div_ceil-c-end.ensures, i.rows) in
    let counted : k ≡ min 64 (c.rows-rows.result - 64 * n) = search rules in
    let count : k ≡ rows_in h.rows n = counted ∙ ap (λ (r : ℕ). min 64 (r - 64 * n)) i.rows in
    let u = rw (i.held, i.start, at, c.requires.wide) at c.in_ok-lent.ensures.first in
    let v = rw (i.held, i.start, at, c.requires.wide) at c.in_ok-lent.ensures.second in
    let so_far : min (64 * n) h.rows ≡ 64 * n = omega (arith, below) in
    let next : min (64 * (n + 1)) h.rows ≡ 64 * n + k = omega (arith, below, count) in
    let part : 64 * n + k - 64 * n ≡ k = omega arith in
    let before = rw so_far at i.sums in
    let f : take (64 * n + k - 64 * n) (drop (64 * n) a) ≡ take k (drop (64 * n) a) = ap (λ (m : ℕ). take m (drop (64 * n) a)) part in
    let s : take (64 * n + k - 64 * n) (drop (64 * n) b) ≡ take k (drop (64 * n) b) = ap (λ (m : ℕ). take m (drop (64 * n) b)) part in
    let long : length (take (64 * n + k - 64 * n) (drop (64 * n) a)) ≡ k = pairs_long n h.rows k a c.requires.first count ∙ sym count in
    let also : length (take (64 * n + k - 64 * n) (drop (64 * n) b)) ≡ k = pairs_long n h.rows k b c.requires.second count ∙ sym count in
    let few : k ≤ 64 = omega (arith, count) in
    record {
      held = c.chunk.follows.holds-at-none.0 ∙ i.held;
      shelf = i.shelf;
      rows = i.rows;
      start = i.start;
      sums =
          rw next
          (rows_added (64 * n) k c.args.sums.now a b x y c.loop-c.sums _ _ _ _ c.add_chunk.new.sums before long also
          (chunk_rows n k (length c.args.sums.now) a b x y _ _ _ _ few f s u v) c.add_chunk.ensures);
      visits = visited_more h c.args.column n _ _ _ i.visits (rw (i.start) at went);
    }

pub returns-clause-sums : goal.returns-clause-sums
returns-clause-sums g c =
    let i = c.loop-c.invariant in
    let h = g.S.Shelf.held c.args.shelf.now in
    let a = c.args.first.now in
    let b = c.args.second.now in
    let x = h.pieces.first c.args.column in
    let y = h.pieces.second c.args.column in
    let all : min (64 * c.loop-c.c) h.rows ≡ length a = omega (arith, c.loop-c-test.false, c.div_ceil-c-end.ensures, i.rows, c.requires.first) in
    i.sums ∙ ap (λ (m : ℕ). added_to c.args.sums.now a b x y m) all ∙ added_all c.args.sums.now a b x y (c.requires.second ∙ sym c.requires.first)
