use Rattle.std.proofs.Common.{◌≡◌, ◌∙◌, ◌-◌, ◌*◌, ◌<◌, [], sym, ap, length, map, min, rules, arith}
use Rattle.std.proofs.lemmas.List.{get_or-map, length-map}
use Rattle.std.specs.Arc.{arc_value}
use Rattle.scan_chunks.specs.Pieces.{chunks_of}
use Rattle.prefix_log.proofs.Cuts.{lent_is, lent_rows}
use Rattle.prefix_log.proofs.rows.Rows.chunk.Goals as goal

pub column-cells-requires : goal.column-cells-requires
column-cells-requires c =
    let s = c.args.self.now in
    let lt : c.args.c - s.start < chunks_of s.count = omega (arith, c.requires.from, c.requires.below) in
    let there : c.args.c - s.start < length s.chunks.items = omega (arith, lt, s.there.count, length-map s.chunks.items arc_value) in
    let at = get_or-map arc_value s.chunks.items (c.args.c - s.start) c.index.result.now [] there ∙ ap arc_value (sym c.index.ensures) ∙ sym c.deref-shared.ensures in
    let rows = lent_rows s.widths s.count (c.args.c - s.start) (map arc_value s.chunks.items) c.deref-shared.result.now s.there lt at in
    omega (arith, rows.columns, c.requires.column)

pub firsts-requires : goal.firsts-requires
firsts-requires c =
    let s = c.args.self.now in
    let lt : c.args.c - s.start < chunks_of s.count = omega (arith, c.requires.from, c.requires.below) in
    let there : c.args.c - s.start < length s.chunks.items = omega (arith, lt, s.there.count, length-map s.chunks.items arc_value) in
    let at = get_or-map arc_value s.chunks.items (c.args.c - s.start) c.index.result.now [] there ∙ ap arc_value (sym c.index.ensures) ∙ sym c.deref-shared.ensures in
    let rows = lent_rows s.widths s.count (c.args.c - s.start) (map arc_value s.chunks.items) c.deref-shared.result.now s.there lt at in
    let count : c.min-rows.result ≡ min 64 (s.count - 64 * (c.args.c - s.start)) = search rules in
    rw (count, c.width.ensures.value, c.column-cells.ensures) (rows.first c.args.column c.requires.column)

pub seconds-requires : goal.seconds-requires
seconds-requires c =
    let s = c.args.self.now in
    let lt : c.args.c - s.start < chunks_of s.count = omega (arith, c.requires.from, c.requires.below) in
    let there : c.args.c - s.start < length s.chunks.items = omega (arith, lt, s.there.count, length-map s.chunks.items arc_value) in
    let at = get_or-map arc_value s.chunks.items (c.args.c - s.start) c.index.result.now [] there ∙ ap arc_value (sym c.index.ensures) ∙ sym c.deref-shared.ensures in
    let rows = lent_rows s.widths s.count (c.args.c - s.start) (map arc_value s.chunks.items) c.deref-shared.result.now s.there lt at in
    let count : c.min-rows.result ≡ min 64 (s.count - 64 * (c.args.c - s.start)) = search rules in
    rw (count, c.width.ensures.value, c.column-cells.ensures) (rows.second c.args.column c.requires.column)

pub returns-clause-first : goal.returns-clause-first
returns-clause-first c =
    let s = c.args.self.now in
    let lt : c.args.c - s.start < chunks_of s.count = omega (arith, c.requires.from, c.requires.below) in
    let there : c.args.c - s.start < length s.chunks.items = omega (arith, lt, s.there.count, length-map s.chunks.items arc_value) in
    let at = get_or-map arc_value s.chunks.items (c.args.c - s.start) c.index.result.now [] there ∙ ap arc_value (sym c.index.ensures) ∙ sym c.deref-shared.ensures in
    let rows = lent_rows s.widths s.count (c.args.c - s.start) (map arc_value s.chunks.items) c.deref-shared.result.now s.there lt at in
    let count : c.min-rows.result ≡ min 64 (s.count - 64 * (c.args.c - s.start)) = search rules in
    lent_is (λ h. h.first) s.widths c.args.column s.count (c.args.c - s.start) (map arc_value s.chunks.items) c.deref-shared.result.now c.column-cells.result.now c.min-rows.result c.width.result c.firsts.result.now lt at
    c.column-cells.ensures count c.width.ensures.value c.firsts.ensures (rows.first c.args.column c.requires.column)

pub returns-clause-second : goal.returns-clause-second
returns-clause-second c =
    let s = c.args.self.now in
    let lt : c.args.c - s.start < chunks_of s.count = omega (arith, c.requires.from, c.requires.below) in
    let there : c.args.c - s.start < length s.chunks.items = omega (arith, lt, s.there.count, length-map s.chunks.items arc_value) in
    let at = get_or-map arc_value s.chunks.items (c.args.c - s.start) c.index.result.now [] there ∙ ap arc_value (sym c.index.ensures) ∙ sym c.deref-shared.ensures in
    let rows = lent_rows s.widths s.count (c.args.c - s.start) (map arc_value s.chunks.items) c.deref-shared.result.now s.there lt at in
    let count : c.min-rows.result ≡ min 64 (s.count - 64 * (c.args.c - s.start)) = search rules in
    lent_is (λ h. h.second) s.widths c.args.column s.count (c.args.c - s.start) (map arc_value s.chunks.items) c.deref-shared.result.now c.column-cells.result.now c.min-rows.result c.width.result c.seconds.result.now lt at
    c.column-cells.ensures count c.width.ensures.value c.seconds.ensures (rows.second c.args.column c.requires.column)
