use Rattle.std.proofs.Common.{◌≡◌, ◌∙◌, ◌+◌, ◌-◌, ◌/◌, ◌<◌, ◌≤◌, ap, length, map, arith}
use Rattle.std.proofs.lemmas.List.{length-map}
use Rattle.std.specs.Arc.{arc_value}
use Rattle.prefix_log.specs.Chunks.{Store}
use Rattle.prefix_log.proofs.Kept.{any_default}
use Rattle.prefix_log.proofs.Sealed.{all_count, open_written_at}
use Rattle.prefix_log.proofs.chunks.Chunks.write.Goals as goal

pub returns-clause-written : goal.returns-clause-written
returns-clause-written c =
    let s = c.self.inside in
    let sealed = map arc_value s.sealed.items in
    let size = length-map s.sealed.items arc_value in
    let chunks = ap (λ (v : Store). v.chunks) c.self.view_is in
    let count = ap (λ (v : Store). v.sealed) c.self.view_is in
    let long = ap length chunks in
    let all = all_count (map arc_value s.sealed.items) s.unsealed.items in
    let le : length (map arc_value s.sealed.items) ≤ c.args.place / 64 = omega (arith, size, count, c.requires.unsealed) in
    let lt : c.args.place / 64 < length (map arc_value s.sealed.items) + length s.unsealed.items = omega (arith, long, all, c.requires.there) in
    let behind : c.len.result + c.len-2.result - 1 - c.args.place / 64 ≡ length (map arc_value s.sealed.items) + length s.unsealed.items - 1 - c.args.place / 64 = omega (arith, size, c.len.ensures, c.len-2.ensures) in
    let there : c.len.result + c.len-2.result - 1 - c.args.place / 64 < length s.unsealed.items = omega (arith, size, behind, le, lt) in
    open_written_at c.args.widths.now c.args.place (c.len.result + c.len-2.result - 1 - c.args.place / 64) c.args.piece.now.cells.first c.args.piece.now.cells.second (map arc_value s.sealed.items) s.unsealed.items _ c.write.new.self c.index_mut.result.now le lt behind
    (c.index_mut.ensures.value ∙ any_default s.unsealed.items (c.len.result + c.len-2.result - 1 - c.args.place / 64) c.index_mut.result.now _ there) chunks c.write.ensures
