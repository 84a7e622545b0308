use Rattle.std.proofs.Common.{[], ◌∷◌, ◌++◌, ◌≤◌, ap, sym, length, map, ◌∙◌, ◌≡◌, ℕ, arith}
use Rattle.std.proofs.lemmas.List.Elements.{All-same}
use Rattle.list_facts.specs.Count.{total}
use Rattle.list_facts.proofs.Listed.{length-listed}
use Rattle.scan_chunks.specs.Shelf.{Held}
use Rattle.scan_chunks.specs.Scan.{VisitsPart}
use Rattle.onehot_column.specs.Code.{width_of}
use Rattle.table_schema.specs.declared.widths.Widths.{Widths}
use Rattle.server_rounds.specs.Groups.{first_of, second_of}
use Rattle.server_rounds.specs.Plans.{views_of}
use Rattle.server_rounds.specs.Shelves.{pieces_of}
use Rattle.server_rounds.specs.Visits.{visits_at}
use Rattle.server_rounds.proofs.Parts.{held_long}
use Rattle.server_rounds.proofs.Together.{all_items, lent_held, lists_held, total-map}
use Rattle.server_rounds.proofs.Visiting.{lent_as_left, column_seen, column_begun, visited_stopped}
use Rattle.bucket_groups.proofs.Parts.{buckets_are}
use Rattle.bucket_groups.proofs.part.bucket_part.Goals as goal

pub bucket_sums-requires-clause-column : goal.bucket_sums-requires-clause-column
bucket_sums-requires-clause-column g c =
    let held = g.S.Shelf.held in
    let P : g.row.S.Denot → Type 0 = λ s. c.args.column ≤ (held s).columns in
    All-same P _ _ c.as_mut_slice.ensures.value
    (λ k d h.
    let columns = all_items (λ (x : Held). x.columns ≡ c.args.ready.now.plan.widths.columns) held c.args.shelves.now.items c.requires.shelves.columns k d h in
    omega (arith, columns, c.requires.column))

pub bucket_sums-requires-clause-wide : goal.bucket_sums-requires-clause-wide
bucket_sums-requires-clause-wide g c =
    let held = g.S.Shelf.held in
    let column = c.args.column in
    let widths = c.args.ready.now.plan.widths in
    let P : g.row.S.Denot → Type 0 = λ s. (held s).width column ≡ c.width-width.result in
    All-same P _ _ c.as_mut_slice.ensures.value
    (λ k d h.
    all_items (λ (x : Held). x.width column ≡ width_of widths column) held c.args.shelves.now.items (c.requires.shelves.wide column (omega (arith, c.requires.column))) k d h
    ∙ sym (c.width-width.ensures.value ∙ ap (λ (w : Widths). width_of w column) c.widths.ensures))

pub bucket_sums-requires-clause-first : goal.bucket_sums-requires-clause-first
bucket_sums-requires-clause-first g c =
    let held = g.S.Shelf.held in
    ap length c.as_slice-first.ensures ∙ ap length c.of_server-pairs.ensures.first ∙ held_long _ c.args.held.now c.args.server c.requires.server c.requires.chain
    ∙ sym c.requires.shelves.count ∙ total-map (λ (h : Held). h.rows) held c.args.shelves.now.items ∙ sym (ap (total (λ s. (held s).rows)) c.as_mut_slice.ensures.value)

pub returns-in_err-sums-clause-held : goal.returns-in_err-sums-clause-held
returns-in_err-sums-clause-held g c =
    lent_held g.S.Shelf.held c.args.shelves.now.len c.args.shelves.now.items c.as_mut_slice.result.now c.bucket_sums.new.shelves c.args.shelves.now.ok.0
    c.as_mut_slice.ensures.value c.in_err-sums.ensures.held

pub returns-clause-held : goal.returns-clause-held
returns-clause-held g c =
    lent_held g.S.Shelf.held c.args.shelves.now.len c.args.shelves.now.items c.as_mut_slice.result.now c.bucket_sums.new.shelves c.args.shelves.now.ok.0
    c.as_mut_slice.ensures.value c.in_ok-sums.ensures.held

pub returns-clause-words : goal.returns-clause-words
returns-clause-words g c =
    let held = g.S.Shelf.held in
    let column : ℕ = c.args.column in
    let items = c.args.shelves.now.items in
    c.with_zeros.ensures
    ∙ buckets_are c.args.ready.now.plan column c.args.run (views_of c.args.ready.now.keys c.args.server) (pieces_of (map held items))
    (first_of c.args.held.now c.args.server) (second_of c.args.held.now c.args.server) _ _ _ _ c.in_ok-sums.sums _ _ _ (length c.as_slice-first.result.now) c.width-width.result
    c.counter-start.ensures.value
    (ap length c.as_slice-first.ensures ∙ ap length c.of_server-pairs.ensures.first ∙ held_long _ c.args.held.now c.args.server c.requires.server c.requires.chain)
    (c.width-width.ensures.value ∙ ap (λ (w : Widths). width_of w column) c.widths.ensures)
    (c.as_slice-first.ensures ∙ c.of_server-pairs.ensures.first) (c.as_slice-second.ensures ∙ c.of_server-pairs.ensures.second)
    (lists_held held (λ (h : Held). h.pieces.first column) _ items c.as_mut_slice.ensures.value)
    (lists_held held (λ (h : Held). h.pieces.second column) _ items c.as_mut_slice.ensures.value)
    c.zero.ensures.own c.zero.ensures.next c.in_ok-sums.ensures.sums

pub returns-clause-long : goal.returns-clause-long
returns-clause-long g c = ap length (returns-clause-words g c) ∙ length-listed _ _

pub returns-clause-visits : goal.returns-clause-visits
returns-clause-visits g c =
    let held = g.S.Shelf.held in
    let visited = g.S.Shelf.visited in
    let column : ℕ = c.args.column in
    lent_as_left (λ s t. visited t ≡ visited s ++ visits_at (held s) (column ∷ [])) c.args.shelves.now.len c.args.shelves.now.items c.as_mut_slice.result.now
    c.bucket_sums.new.shelves c.args.shelves.now.ok.0 c.as_mut_slice.ensures.value
    (column_seen held visited column c.as_mut_slice.result.now c.bucket_sums.new.shelves c.in_ok-sums.ensures.visits)

pub returns-in_err-sums-clause-visits : goal.returns-in_err-sums-clause-visits
returns-in_err-sums-clause-visits g c =
    let held = g.S.Shelf.held in
    let visited = g.S.Shelf.visited in
    let column : ℕ = c.args.column in
    visited_stopped held visited (column ∷ []) _ _ _ c.from_residual.ensures.0
    (lent_as_left (λ s t. VisitsPart (visited s) (visited t) (visits_at (held s) (column ∷ []))) c.args.shelves.now.len c.args.shelves.now.items c.as_mut_slice.result.now
    c.bucket_sums.new.shelves c.args.shelves.now.ok.0 c.as_mut_slice.ensures.value
    (column_begun held visited column c.as_mut_slice.result.now c.bucket_sums.new.shelves c.in_err-sums.ensures.part))
