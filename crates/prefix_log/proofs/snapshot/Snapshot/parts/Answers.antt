use Rattle.std.proofs.Common.{◌≡◌, ◌∙◌, ◌+◌, ◌/◌, ◌%◌, ◌<◌, ◌≤◌, [], cond, ltb, map, rules, arith}
use Rattle.scan_chunks.specs.Pieces.{chunks_of}
use Rattle.std.specs.Arc.{arc_value}
use Rattle.prefix_log.specs.Chunks.{first_rows}
use Rattle.prefix_log.specs.declared.snapshot.Snapshot.{Snapshot}
use Rattle.prefix_log.proofs.Cuts.{is_shelf}
use Rattle.prefix_log.proofs.Parts.{all_parts, all_pushed, part_pushed, shared_all, shared_more}
use Rattle.prefix_log.proofs.Starts.{follow_pushed}
use Rattle.prefix_log.proofs.snapshot.Snapshot.parts.Goals as goal

pub loop-worker-preserved : goal.loop-worker-preserved
loop-worker-preserved c =
    let r = c.args.self.now.rows in
    let i = c.loop-worker.invariant in
    let chunks = c.div_ceil-chunks.result in
    let count = c.from-count.result in
    let low = c.loop-worker.low in
    let lt : c.loop-worker.worker < count = omega (arith, c.loop-worker-test.true) in
    let bit : c.from.result ≡ cond (ltb c.loop-worker.worker (chunks % count)) 1 0 = search rules in
    let size : chunks ≡ chunks_of r.count = search rules in
    let left = shared_more count (chunks / count) (chunks % count) c.loop-worker.worker low c.from.result chunks lt i.left bit in
    let few : c.from.result ≤ 1 = search rules in
    record {
      so_far = part_pushed (λ (s : Snapshot). first_rows s.rows.widths s.rows.count s.rows.start (map arc_value s.rows.chunks.items)) chunks count low (low + chunks / count + c.from.result) (first_rows r.widths r.count r.start (map arc_value r.chunks.items))
          c.loop-worker.parts.items c.push.new.self.items c.in_ok-part.field-0 c.in_ok-push.ensures.items (is_shelf r.widths r.count r.start (map arc_value r.chunks.items) r.few) (omega arith) (omega (arith, left, size)) (omega arith) (omega (arith, few)) i.so_far c.in_ok-part.ensures.held;
      starts = follow_pushed (λ (s : Snapshot). first_rows s.rows.widths s.rows.count s.rows.start (map arc_value s.rows.chunks.items)) r.place _ c.loop-worker.parts.items c.push.new.self.items c.in_ok-part.field-0 c.in_ok-push.ensures.items i.starts i.so_far.rows c.in_ok-part.ensures.place;
      visits = all_pushed (λ (s : Snapshot). s.visits.items ≡ []) c.loop-worker.parts.items c.push.new.self.items c.in_ok-part.field-0 c.in_ok-push.ensures.items i.visits c.in_ok-part.ensures.visits;
      made = search rules;
      left = left;
    }

pub returns-clause-rows : goal.returns-clause-rows
returns-clause-rows c = λ column le.
    let r = c.args.self.now.rows in
    let i = c.loop-worker.invariant in
    let chunks = c.div_ceil-chunks.result in
    let count = c.from-count.result in
    let some : 0 < count = search rules in
    let done : count ≤ c.loop-worker.worker = omega (arith, c.loop-worker-test.false) in
    let size : chunks ≡ chunks_of r.count = search rules in
    let longer : chunks % count ≤ count = omega arith in
    let whole = shared_all count (chunks / count) (chunks % count) c.loop-worker.worker c.loop-worker.low chunks done longer i.left in
    all_parts chunks count c.loop-worker.low column (first_rows r.widths r.count r.start (map arc_value r.chunks.items)) _ (is_shelf r.widths r.count r.start (map arc_value r.chunks.items) r.few) (whole ∙ size) le i.so_far
