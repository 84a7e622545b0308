use Rattle.std.proofs.Common.{◌∙◌, sym, ap, arith}
use Rattle.std.proofs.lemmas.List.Elements.{All-same}
use Rattle.scan_chunks.specs.Shelf.{Held, IsShelf}
use Rattle.server_rounds.specs.Stretches.{rows_in}
use Rattle.server_rounds.proofs.Stretched.{bits_given, can_scan_to, none_given, scan_whole, stopped_given}
use Rattle.server_rounds.proofs.Together.{total-map}
use Rattle.server_rounds.proofs.stretches.bits_at_once.Goals as goal

pub words_by_shelves-requires-clause-count : goal.words_by_shelves-requires-clause-count
words_by_shelves-requires-clause-count g c κs within =
    ap (rows_in g.S.Shelf.held) c.as_mut_slice.ensures.value
    ∙ sym (total-map (λ (h : Held). h.rows) g.S.Shelf.held c.args.zero.now.items) ∙ c.requires.zero.rows.count ∙ sym c.rows_together-rows.ensures.count

pub words_by_shelves-requires-clause-rows : goal.words_by_shelves-requires-clause-rows
words_by_shelves-requires-clause-rows g c κs within =
    let held = g.S.Shelf.held in
    let a = c.args in
    let z = a.plan.now in
    let t = c.in_ok-tables.ensures in
    let at = c.column-column.ensures in
    let l0 = scan_whole held z c.column-column.result c.in_ok-tables.tables.zero a.zero.now.items _ c.requires.zero.rows c.as_mut_slice.ensures.value in
    let l1 = scan_whole held z c.column-column.result c.in_ok-tables.tables.one a.one.now.items _ c.requires.one.rows c.as_mut_slice-2.ensures.value in
    let l2 = scan_whole held z c.column-column.result c.in_ok-tables.tables.two a.two.now.items _ c.requires.two.rows c.as_mut_slice-3.ensures.value in
    let few = c.rows_together-rows.ensures in
    record {
      at0 = can_scan_to held z a.keys.now.zero a.run a.j _ _ a.zero.now.items _ _ at.value at.there c.requires.zero t.zero c.as_mut_slice.ensures.value l0;
      at1 = can_scan_to held z a.keys.now.one a.run a.j _ _ a.one.now.items _ _ at.value at.there c.requires.one t.one c.as_mut_slice-2.ensures.value l1;
      at2 = can_scan_to held z a.keys.now.two a.run a.j _ _ a.two.now.items _ _ at.value at.there c.requires.two t.two c.as_mut_slice-3.ensures.value l2;
      long1 = l1 ∙ sym l0;
      long2 = l2 ∙ sym l0;
      few = omega (arith, l0, few.count, few.few);
      counters = omega (arith, l0, few.count, few.few, c.bits_counter-start.ensures.small);
    }

pub returns-in_err-tables-clause-zero : goal.returns-in_err-tables-clause-zero
returns-in_err-tables-clause-zero g c =
    none_given g.S.Shelf.held g.S.Shelf.visited c.args.plan.now c.args.keys.now.zero c.args.run c.args.j c.args.zero.now.items _ _ c.from_residual.ensures.0

pub returns-in_err-tables-clause-one : goal.returns-in_err-tables-clause-one
returns-in_err-tables-clause-one g c =
    none_given g.S.Shelf.held g.S.Shelf.visited c.args.plan.now c.args.keys.now.one c.args.run c.args.j c.args.one.now.items _ _ c.from_residual.ensures.0

pub returns-in_err-tables-clause-two : goal.returns-in_err-tables-clause-two
returns-in_err-tables-clause-two g c =
    none_given g.S.Shelf.held g.S.Shelf.visited c.args.plan.now c.args.keys.now.two c.args.run c.args.j c.args.two.now.items _ _ c.from_residual.ensures.0

pub returns-in_err-words-clause-zero : goal.returns-in_err-words-clause-zero
returns-in_err-words-clause-zero g c =
    let a = c.args in
    stopped_given g.S.Shelf.held g.S.Shelf.visited a.plan.now a.keys.now.zero a.run a.j c.column-column.result a.zero.now.len _ a.zero.now.items c.as_mut_slice.result.now
    c.words_by_shelves.new.zero _ _ _ _ c.from_residual-in_err-words.ensures.0 a.zero.now.ok.0 c.as_mut_slice.ensures.value c.column-column.ensures.value c.in_err-words.ensures.at0

pub returns-in_err-words-clause-one : goal.returns-in_err-words-clause-one
returns-in_err-words-clause-one g c =
    let a = c.args in
    stopped_given g.S.Shelf.held g.S.Shelf.visited a.plan.now a.keys.now.one a.run a.j c.column-column.result a.one.now.len _ a.one.now.items c.as_mut_slice-2.result.now
    c.words_by_shelves.new.one _ _ _ _ c.from_residual-in_err-words.ensures.0 a.one.now.ok.0 c.as_mut_slice-2.ensures.value c.column-column.ensures.value c.in_err-words.ensures.at1

pub returns-in_err-words-clause-two : goal.returns-in_err-words-clause-two
returns-in_err-words-clause-two g c =
    let a = c.args in
    stopped_given g.S.Shelf.held g.S.Shelf.visited a.plan.now a.keys.now.two a.run a.j c.column-column.result a.two.now.len _ a.two.now.items c.as_mut_slice-3.result.now
    c.words_by_shelves.new.two _ _ _ _ c.from_residual-in_err-words.ensures.0 a.two.now.ok.0 c.as_mut_slice-3.ensures.value c.column-column.ensures.value c.in_err-words.ensures.at2

pub returns-clause-zero : goal.returns-clause-zero
returns-clause-zero g c =
    let held = g.S.Shelf.held in
    let a = c.args in
    let at = c.column-column.ensures in
    let P : g.row.S.Denot → Type 0 = λ s. IsShelf (held s) in
    bits_given held g.S.Shelf.visited a.plan.now a.keys.now.zero a.run a.j c.column-column.result c.bits_counter-start.result a.zero.now.len _ a.zero.now.items
    c.as_mut_slice.result.now c.words_by_shelves.new.zero _ _ a.zero.now.ok.0 c.as_mut_slice.ensures.value at.value at.there c.bits_counter-start.ensures.value c.in_ok-tables.ensures.zero
    c.requires.zero.rows (All-same P _ _ (sym c.as_slice.ensures.value) c.rows_together-rows.ensures.shelves) c.in_ok-words.ensures.at0

pub returns-clause-one : goal.returns-clause-one
returns-clause-one g c =
    let held = g.S.Shelf.held in
    let a = c.args in
    let at = c.column-column.ensures in
    let P : g.row.S.Denot → Type 0 = λ s. IsShelf (held s) in
    bits_given held g.S.Shelf.visited a.plan.now a.keys.now.one a.run a.j c.column-column.result c.bits_counter-start.result a.one.now.len _ a.one.now.items
    c.as_mut_slice-2.result.now c.words_by_shelves.new.one _ _ a.one.now.ok.0 c.as_mut_slice-2.ensures.value at.value at.there c.bits_counter-start.ensures.value c.in_ok-tables.ensures.one
    c.requires.one.rows (All-same P _ _ (sym c.as_slice-2.ensures.value) c.rows_together.ensures.shelves) c.in_ok-words.ensures.at1

pub returns-clause-two : goal.returns-clause-two
returns-clause-two g c =
    let held = g.S.Shelf.held in
    let a = c.args in
    let at = c.column-column.ensures in
    let P : g.row.S.Denot → Type 0 = λ s. IsShelf (held s) in
    bits_given held g.S.Shelf.visited a.plan.now a.keys.now.two a.run a.j c.column-column.result c.bits_counter-start.result a.two.now.len _ a.two.now.items
    c.as_mut_slice-3.result.now c.words_by_shelves.new.two _ _ a.two.now.ok.0 c.as_mut_slice-3.ensures.value at.value at.there c.bits_counter-start.ensures.value c.in_ok-tables.ensures.two
    c.requires.two.rows (All-same P _ _ (sym c.as_slice-3.ensures.value) c.rows_together-2.ensures.shelves) c.in_ok-words.ensures.at2
