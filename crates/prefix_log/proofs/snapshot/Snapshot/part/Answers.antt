use Rattle.std.proofs.Common.{◌∙◌, ◌*◌, ap, ℕ, map, min}
use Rattle.std.specs.Arc.{arc_value}
use Rattle.prefix_log.proofs.Cuts.{part_is_at, part_rows_at}
use Rattle.prefix_log.proofs.snapshot.Snapshot.part.Goals as goal

pub new-requires-clause-there : goal.new-requires-clause-there
new-requires-clause-there c =
    let r = c.args.self.now.rows in
    let low = c.args.low in
    let high = c.args.high in
    part_rows_at r.widths low high r.count r.start (map arc_value r.chunks.items) r.there c.requires.order c.requires.there c.min-first.result c.min-end.result (map arc_value c.in_ok-chunks.chunks.items)
    (c.min-first.ensures ∙ ap (λ (n : ℕ). min n (64 * low)) c.count-rows.ensures.value) (c.min-end.ensures ∙ ap (λ (n : ℕ). min n (64 * high)) c.count-rows.ensures.value) c.in_ok-chunks.ensures

pub returns-clause-held : goal.returns-clause-held
returns-clause-held c =
    let r = c.args.self.now.rows in
    let low = c.args.low in
    let high = c.args.high in
    part_is_at r.widths low high r.count r.start (map arc_value r.chunks.items) r.there c.requires.order c.requires.there c.min-first.result c.min-end.result (map arc_value c.in_ok-chunks.chunks.items)
    (c.min-first.ensures ∙ ap (λ (n : ℕ). min n (64 * low)) c.count-rows.ensures.value) (c.min-end.ensures ∙ ap (λ (n : ℕ). min n (64 * high)) c.count-rows.ensures.value) c.in_ok-chunks.ensures
    _ c.new.ensures.held
