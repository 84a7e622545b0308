use Rattle.std.proofs.Common.{◌≡◌, ◌∙◌, ◌<◌, ◌≤◌, [], ◌∷◌, sym, ap, length, arith, length-append}
use Rattle.std.proofs.lemmas.List.Elements.{All-same}
use Rattle.scan_chunks.specs.Shelf.{Held, IsShelf}
use Rattle.scan_chunks.specs.Scan.{visits_of}
use Rattle.server_rounds.proofs.Together.{all_items, set_at, shelf_at, lists_more, lists_all, cells_together}
use Rattle.scan_chunks.proofs.Shelves.{part_whole, rest_more}
use Rattle.server_rounds.proofs.Visiting.{column_all, column_more, column_stops, none_begun, visited_stopped}
use Rattle.server_rounds.proofs.shelves.read_cells.Goals as goal

pub read_column-requires : goal.read_column-requires
read_column-requires g c =
    let held = g.S.Shelf.held in
    let columns = c.args.plan.now.widths.columns in
    let old = c.args.shelves.now.items in
    let d = c.index_mut.result.now in
    let k : c.loop-i.i < length old = omega (arith, c.args.shelves.now.ok.0, c.len-i-end.ensures, c.loop-i-test.true) in
    let is = shelf_at held old c.loop-i.shelves.items c.loop-i.i d c.loop-i.invariant.held k c.index_mut.ensures.value in
    omega (arith, all_items (λ (x : Held). x.columns ≡ columns) held old c.requires.shelves.columns c.loop-i.i d k, ap (λ (x : Held). x.columns) is, c.requires.column)

pub returns-in_err-values-clause-held : goal.returns-in_err-values-clause-held
returns-in_err-values-clause-held g c =
    let k : c.loop-i.i < length c.args.shelves.now.items = omega (arith, c.args.shelves.now.ok.0, c.len-i-end.ensures, c.loop-i-test.true) in
    set_at g.S.Shelf.held c.args.shelves.now.items c.loop-i.shelves.items c.loop-i.i c.index_mut.result.now c.read_column.new.shelf c.loop-i.invariant.held k
    c.in_err-values.ensures.held c.index_mut.ensures.value

pub returns-in_err-extend_from_slice-clause-held : goal.returns-in_err-extend_from_slice-clause-held
returns-in_err-extend_from_slice-clause-held g c =
    let k : c.loop-i.i < length c.args.shelves.now.items = omega (arith, c.args.shelves.now.ok.0, c.len-i-end.ensures, c.loop-i-test.true) in
    set_at g.S.Shelf.held c.args.shelves.now.items c.loop-i.shelves.items c.loop-i.i c.index_mut.result.now c.read_column.new.shelf c.loop-i.invariant.held k
    c.in_ok-values.ensures.held c.index_mut.ensures.value

pub returns-in_err-extend_from_slice-2-clause-held : goal.returns-in_err-extend_from_slice-2-clause-held
returns-in_err-extend_from_slice-2-clause-held g c =
    let k : c.loop-i.i < length c.args.shelves.now.items = omega (arith, c.args.shelves.now.ok.0, c.len-i-end.ensures, c.loop-i-test.true) in
    set_at g.S.Shelf.held c.args.shelves.now.items c.loop-i.shelves.items c.loop-i.i c.index_mut.result.now c.read_column.new.shelf c.loop-i.invariant.held k
    c.in_ok-values.ensures.held c.index_mut.ensures.value

pub loop-i-preserved : goal.loop-i-preserved
loop-i-preserved g c =
    let held = g.S.Shelf.held in
    let columns = c.args.column in
    let old = c.args.shelves.now.items in
    let i = c.loop-i.i in
    let d = c.index_mut.result.now in
    let k : i < length old = omega (arith, c.args.shelves.now.ok.0, c.len-i-end.ensures, c.loop-i-test.true) in
    let is = shelf_at held old c.loop-i.shelves.items i d c.loop-i.invariant.held k c.index_mut.ensures.value in
    let first : c.in_ok-values.values.first ≡ (held d).pieces.first columns = c.in_ok-values.ensures.first in
    let second : c.in_ok-values.values.second ≡ (held d).pieces.second columns = c.in_ok-values.ensures.second in
    record {
      held = set_at held old c.loop-i.shelves.items i d c.read_column.new.shelf c.loop-i.invariant.held k c.in_ok-values.ensures.held c.index_mut.ensures.value;
      scanned = column_more held g.S.Shelf.visited columns old c.loop-i.shelves.items i d c.read_column.new.shelf k c.loop-i.invariant.held c.loop-i.invariant.scanned
          c.loop-i.invariant.rest c.index_mut.ensures.value c.in_ok-values.ensures.held c.in_ok-values.ensures.visits;
      rest = rest_more old c.loop-i.shelves.items i c.read_column.new.shelf c.loop-i.invariant.rest;
      first = rw (c.in_ok-extend_from_slice.ensures.items, c.as_slice-in-loop-i.ensures, first, c.loop-i.invariant.first)
          (lists_more held (λ (h : Held). h.pieces.first columns) old i d k is);
      second = rw (c.in_ok-extend_from_slice-2.ensures.items, c.as_slice-in-loop-i-2.ensures, second, c.loop-i.invariant.second)
          (lists_more held (λ (h : Held). h.pieces.second columns) old i d k is);
      lengths = rw (c.in_ok-extend_from_slice.ensures.items, c.in_ok-extend_from_slice-2.ensures.items, c.as_slice-in-loop-i.ensures, c.as_slice-in-loop-i-2.ensures)
          (omega (arith, length-append c.loop-i.first.items c.in_ok-values.values.first, length-append c.loop-i.second.items c.in_ok-values.values.second, c.in_ok-values.values.lengths, c.loop-i.invariant.lengths));
    }

pub invariant_of-result : goal.invariant_of-result
invariant_of-result g c = record { lengths = ap length c.from_vec.ensures ∙ c.loop-i.invariant.lengths ∙ sym (ap length c.from_vec-2.ensures) }

pub returns-clause-first : goal.returns-clause-first
returns-clause-first g c =
    let end : length c.args.shelves.now.items ≤ c.loop-i.i = omega (arith, c.args.shelves.now.ok.0, c.len-i-end.ensures, c.loop-i-test.false) in
    c.from_vec.ensures ∙ c.loop-i.invariant.first ∙ lists_all g.S.Shelf.held (λ (h : Held). h.pieces.first c.args.column) c.args.shelves.now.items c.loop-i.i end

pub returns-clause-second : goal.returns-clause-second
returns-clause-second g c =
    let end : length c.args.shelves.now.items ≤ c.loop-i.i = omega (arith, c.args.shelves.now.ok.0, c.len-i-end.ensures, c.loop-i-test.false) in
    c.from_vec-2.ensures ∙ c.loop-i.invariant.second ∙ lists_all g.S.Shelf.held (λ (h : Held). h.pieces.second c.args.column) c.args.shelves.now.items c.loop-i.i end

pub returns-clause-long : goal.returns-clause-long
returns-clause-long g c =
    let held = g.S.Shelf.held in
    let widths = c.args.plan.now.widths in
    let old = c.args.shelves.now.items in
    let P : g.row.S.Denot → Type 0 = λ s. IsShelf (held s) in
    let end : length old ≤ c.loop-i.i = omega (arith, c.args.shelves.now.ok.0, c.len-i-end.ensures, c.loop-i-test.false) in
    let all = lists_all held (λ (h : Held). h.pieces.first c.args.column) old c.loop-i.i end in
    ap length (c.from_vec.ensures ∙ c.loop-i.invariant.first ∙ all)
    ∙ cells_together held widths c.args.plan.now.rows old c.args.column c.requires.column c.requires.shelves (All-same P _ _ (sym c.as_slice.ensures.value) c.rows_together-rows.ensures.shelves)

pub returns-in_err-first-clause-visits : goal.returns-in_err-first-clause-visits
returns-in_err-first-clause-visits g c =
    visited_stopped g.S.Shelf.held g.S.Shelf.visited (c.args.column ∷ []) c.args.shelves.now.items c.args.shelves.now.items _ c.from_residual.ensures.0
    (none_begun g.S.Shelf.held g.S.Shelf.visited (c.args.column ∷ []) c.args.shelves.now.items)

pub returns-in_err-second-clause-visits : goal.returns-in_err-second-clause-visits
returns-in_err-second-clause-visits g c =
    visited_stopped g.S.Shelf.held g.S.Shelf.visited (c.args.column ∷ []) c.args.shelves.now.items c.args.shelves.now.items _ c.from_residual-in_err-second.ensures.0
    (none_begun g.S.Shelf.held g.S.Shelf.visited (c.args.column ∷ []) c.args.shelves.now.items)

pub returns-in_err-values-clause-visits : goal.returns-in_err-values-clause-visits
returns-in_err-values-clause-visits g c =
    let old = c.args.shelves.now.items in
    let d = c.index_mut.result.now in
    let i = c.loop-i.invariant in
    let k : c.loop-i.i < length old = omega (arith, c.args.shelves.now.ok.0, c.len-i-end.ensures, c.loop-i-test.true) in
    visited_stopped g.S.Shelf.held g.S.Shelf.visited (c.args.column ∷ []) _ _ _ c.from_residual-in_err-values.ensures.0
    (column_stops g.S.Shelf.held g.S.Shelf.visited c.args.column old c.loop-i.shelves.items c.loop-i.i d c.read_column.new.shelf k i.held i.scanned i.rest
    c.index_mut.ensures.value c.in_err-values.ensures.part)

pub returns-in_err-extend_from_slice-clause-visits : goal.returns-in_err-extend_from_slice-clause-visits
returns-in_err-extend_from_slice-clause-visits g c =
    let visited = g.S.Shelf.visited in
    let old = c.args.shelves.now.items in
    let d = c.index_mut.result.now in
    let i = c.loop-i.invariant in
    let k : c.loop-i.i < length old = omega (arith, c.args.shelves.now.ok.0, c.len-i-end.ensures, c.loop-i-test.true) in
    visited_stopped g.S.Shelf.held g.S.Shelf.visited (c.args.column ∷ []) _ _ _ c.from_residual-in_err-extend_from_slice.ensures.0
    (column_stops g.S.Shelf.held g.S.Shelf.visited c.args.column old c.loop-i.shelves.items c.loop-i.i d c.read_column.new.shelf k i.held i.scanned i.rest
    c.index_mut.ensures.value (part_whole (visited d) (visited c.read_column.new.shelf) (visits_of (g.S.Shelf.held d) c.args.column) c.in_ok-values.ensures.visits))

pub returns-in_err-extend_from_slice-2-clause-visits : goal.returns-in_err-extend_from_slice-2-clause-visits
returns-in_err-extend_from_slice-2-clause-visits g c =
    let visited = g.S.Shelf.visited in
    let old = c.args.shelves.now.items in
    let d = c.index_mut.result.now in
    let i = c.loop-i.invariant in
    let k : c.loop-i.i < length old = omega (arith, c.args.shelves.now.ok.0, c.len-i-end.ensures, c.loop-i-test.true) in
    visited_stopped g.S.Shelf.held g.S.Shelf.visited (c.args.column ∷ []) _ _ _ c.from_residual-in_err-extend_from_slice-2.ensures.0
    (column_stops g.S.Shelf.held g.S.Shelf.visited c.args.column old c.loop-i.shelves.items c.loop-i.i d c.read_column.new.shelf k i.held i.scanned i.rest
    c.index_mut.ensures.value (part_whole (visited d) (visited c.read_column.new.shelf) (visits_of (g.S.Shelf.held d) c.args.column) c.in_ok-values.ensures.visits))

pub returns-clause-visits : goal.returns-clause-visits
returns-clause-visits g c =
    let end : length c.args.shelves.now.items ≤ c.loop-i.i = omega (arith, c.args.shelves.now.ok.0, c.len-i-end.ensures, c.loop-i-test.false) in
    column_all g.S.Shelf.held g.S.Shelf.visited c.args.column c.args.shelves.now.items c.loop-i.shelves.items c.loop-i.i end c.loop-i.invariant.held c.loop-i.invariant.scanned
