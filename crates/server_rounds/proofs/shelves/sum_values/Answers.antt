use Rattle.std.proofs.Common.{◌≡◌, ◌∙◌, sym, ap, ℕ, [], ◌∷◌, length, ◌++◌}
use Rattle.std.proofs.lemmas.List.Elements.{All-same}
use Rattle.list_facts.specs.Count.{total}
use Rattle.scan_chunks.specs.Shelf.{Held}
use Rattle.scan_chunks.specs.Scan.{VisitsPart}
use Rattle.server_rounds.specs.Visits.{visits_at}
use Rattle.server_rounds.proofs.Together.{all_items, lent_held, lists_held, total-map}
use Rattle.server_rounds.proofs.Visiting.{lent_as_left, column_seen, column_begun, visited_stopped}
use Rattle.server_rounds.proofs.shelves.sum_values.Goals as goal

pub inner_of_values-requires-clause-value : goal.inner_of_values-requires-clause-value
inner_of_values-requires-clause-value g c =
    let held = g.S.Shelf.held in
    let P : g.row.S.Denot → Type 0 = λ s. c.value.result ≡ (held s).columns in
    All-same P _ _ c.as_mut_slice.ensures.value
    (λ k d h. c.value.ensures ∙ sym (all_items (λ (x : Held). x.columns ≡ c.args.plan.now.widths.columns) held c.args.shelves.now.items c.requires.shelves.columns k d h))

pub inner_of_values-requires-clause-first : goal.inner_of_values-requires-clause-first
inner_of_values-requires-clause-first g c =
    let held = g.S.Shelf.held in
    ap length c.as_slice-first.ensures ∙ c.requires.pairs ∙ sym c.requires.shelves.count
    ∙ total-map (λ (h : Held). h.rows) held c.args.shelves.now.items ∙ sym (ap (total (λ s. (held s).rows)) c.as_mut_slice.ensures.value)

pub returns-in_err-sum-clause-held : goal.returns-in_err-sum-clause-held
returns-in_err-sum-clause-held g c =
    lent_held g.S.Shelf.held c.args.shelves.now.len c.args.shelves.now.items c.as_mut_slice.result.now c.inner_of_values.new.shelves c.args.shelves.now.ok.0
    c.as_mut_slice.ensures.value c.in_err-sum.ensures.held

pub returns-clause-held : goal.returns-clause-held
returns-clause-held g c =
    lent_held g.S.Shelf.held c.args.shelves.now.len c.args.shelves.now.items c.as_mut_slice.result.now c.inner_of_values.new.shelves c.args.shelves.now.ok.0
    c.as_mut_slice.ensures.value c.in_ok-sum.ensures.held

pub returns-clause-sum : goal.returns-clause-sum
returns-clause-sum g c =
    let held = g.S.Shelf.held in
    let value : ℕ = c.args.plan.now.widths.columns in
    let items = c.args.shelves.now.items in
    c.in_ok-sum.ensures.sum
    ∙ rw (
      c.as_slice-first.ensures,
      c.as_slice-second.ensures,
      c.value.ensures,
      lists_held held (λ (h : Held). h.pieces.first value) _ items c.as_mut_slice.ensures.value,
      lists_held held (λ (h : Held). h.pieces.second value) _ items c.as_mut_slice.ensures.value,
    )

pub returns-clause-visits : goal.returns-clause-visits
returns-clause-visits g c =
    let held = g.S.Shelf.held in
    let visited = g.S.Shelf.visited in
    let value : ℕ = c.args.plan.now.widths.columns in
    lent_as_left (λ s t. visited t ≡ visited s ++ visits_at (held s) (value ∷ [])) c.args.shelves.now.len c.args.shelves.now.items c.as_mut_slice.result.now
    c.inner_of_values.new.shelves c.args.shelves.now.ok.0 c.as_mut_slice.ensures.value
    (column_seen held visited value c.as_mut_slice.result.now c.inner_of_values.new.shelves (rw c.value.ensures at c.in_ok-sum.ensures.visits))

pub returns-in_err-sum-clause-visits : goal.returns-in_err-sum-clause-visits
returns-in_err-sum-clause-visits g c =
    let held = g.S.Shelf.held in
    let visited = g.S.Shelf.visited in
    let value : ℕ = c.args.plan.now.widths.columns in
    visited_stopped held visited (value ∷ []) _ _ _ c.from_residual.ensures.0
    (lent_as_left (λ s t. VisitsPart (visited s) (visited t) (visits_at (held s) (value ∷ []))) c.args.shelves.now.len c.args.shelves.now.items c.as_mut_slice.result.now
    c.inner_of_values.new.shelves c.args.shelves.now.ok.0 c.as_mut_slice.ensures.value
    (column_begun held visited value c.as_mut_slice.result.now c.inner_of_values.new.shelves (rw c.value.ensures at c.in_err-sum.ensures.part)))
