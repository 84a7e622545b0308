use Rattle.std.proofs.Common.{◌≡◌, ◌∙◌, refl, ap, sym, ◌++◌, ◌≤◌, ◌<◌, ◌*◌, ℕ, get_or, take, length, arith}
use Rattle.std.proofs.lemmas.List.{take_all}
use Rattle.list_facts.specs.Count.{total}
use Rattle.scan_chunks.specs.Scan.{visits_of, VisitsPart}
use Rattle.scan_chunks.proofs.Shelves.{IsScanned, zip_weaker, item_left, zip_set, zip_more, rest_more, part_whole, part_none, on_err}
use Rattle.server_rounds.proofs.Adding.{lists_long, rows_within, shelf_added}
use Rattle.server_rounds.proofs.Together.{total_more}
use Rattle.server_rounds.proofs.values.inner_of_values.Goals as goal

pub overflow_add-to : goal.overflow_add-to
overflow_add-to g c =
    let within = rows_within g.S.Shelf.held c.args.shelves.now c.loop-i.shelves c.loop-i.i c.loop-i.from c.index-shelves-i.result c.loop-i.invariant.rest (omega arith) c.loop-i.invariant.from in
    omega (arith, within, c.rows.ensures.value, c.requires.first)

pub offset_bounds-first-from : goal.offset_bounds-first-from
offset_bounds-first-from g c =
    let within = rows_within g.S.Shelf.held c.args.shelves.now c.loop-i.shelves c.loop-i.i c.loop-i.from c.index-shelves-i.result c.loop-i.invariant.rest (omega arith) c.loop-i.invariant.from in
    omega (arith, within, c.rows.ensures.value, c.requires.first)

pub offset_bounds-second-from : goal.offset_bounds-second-from
offset_bounds-second-from g c =
    let within = rows_within g.S.Shelf.held c.args.shelves.now c.loop-i.shelves c.loop-i.i c.loop-i.from c.index-shelves-i.result c.loop-i.invariant.rest (omega arith) c.loop-i.invariant.from in
    omega (arith, within, c.rows.ensures.value, c.requires.first, c.requires.second)

pub slice_bounds-inner_of_shelf-end : goal.slice_bounds-inner_of_shelf-end
slice_bounds-inner_of_shelf-end g c =
    let within = rows_within g.S.Shelf.held c.args.shelves.now c.loop-i.shelves c.loop-i.i c.loop-i.from c.index-shelves-i.result c.loop-i.invariant.rest (omega arith) c.loop-i.invariant.from in
    omega (arith, within, c.rows.ensures.value, c.requires.first)

pub slice_bounds-inner_of_shelf-end-in-loop-i : goal.slice_bounds-inner_of_shelf-end-in-loop-i
slice_bounds-inner_of_shelf-end-in-loop-i g c =
    let within = rows_within g.S.Shelf.held c.args.shelves.now c.loop-i.shelves c.loop-i.i c.loop-i.from c.index-shelves-i.result c.loop-i.invariant.rest (omega arith) c.loop-i.invariant.from in
    omega (arith, within, c.rows.ensures.value, c.requires.first, c.requires.second)

pub inner_of_shelf-requires-clause-value : goal.inner_of_shelf-requires-clause-value
inner_of_shelf-requires-clause-value g c =
    rw (item_left c.args.shelves.now c.loop-i.shelves c.loop-i.i c.index-shelves-i.result c.loop-i.invariant.rest)
    (c.requires.value c.loop-i.i c.index-shelves-i.result (omega arith))

pub returns-in_err-part-clause-held : goal.returns-in_err-part-clause-held
returns-in_err-part-clause-held g c =
    let held = g.S.Shelf.held in
    let old = c.args.shelves.now in
    let now = c.loop-i.shelves in
    let i = c.loop-i.i in
    let d = c.index-shelves-i.result in
    let e : get_or now i d ≡ get_or old i d = item_left old now i d c.loop-i.invariant.rest in
    zip_set (λ s t. held t ≡ held s) (λ s. refl) old now i d c.inner_of_shelf.new.shelf (omega arith) (omega arith)
    (zip_weaker (IsScanned held g.S.Shelf.visited c.args.value) (λ s t. held t ≡ held s) (λ s t p. p.same) (take i old) (take i now) c.loop-i.invariant.scanned)
    c.loop-i.invariant.rest (c.in_err-part.ensures.held ∙ ap held e)

pub returns-in_err-part-clause-part : goal.returns-in_err-part-clause-part
returns-in_err-part-clause-part g c =
    let held = g.S.Shelf.held in
    let visited = g.S.Shelf.visited in
    let value = c.args.value in
    let old = c.args.shelves.now in
    let now = c.loop-i.shelves in
    let i = c.loop-i.i in
    let d = c.index-shelves-i.result in
    let e : get_or now i d ≡ get_or old i d = item_left old now i d c.loop-i.invariant.rest in
    on_err _ _
    (zip_set (λ s t. VisitsPart (visited s) (visited t) (visits_of (held s) value)) (λ s. part_none (visited s) (visits_of (held s) value)) old now i d c.inner_of_shelf.new.shelf (omega arith) (omega arith)
    (zip_weaker (IsScanned held visited value) (λ s t. VisitsPart (visited s) (visited t) (visits_of (held s) value))
    (λ s t p. part_whole (visited s) (visited t) (visits_of (held s) value) p.seen) (take i old) (take i now) c.loop-i.invariant.scanned)
    c.loop-i.invariant.rest (rw e at c.in_err-part.ensures.part))

pub loop-i-preserved : goal.loop-i-preserved
loop-i-preserved g c =
    let held = g.S.Shelf.held in
    let visited = g.S.Shelf.visited in
    let value = c.args.value in
    let old = c.args.shelves.now in
    let now = c.loop-i.shelves in
    let i = c.loop-i.i in
    let from = c.loop-i.from in
    let count = c.rows.result in
    let d = c.index-shelves-i.result in
    let inv = c.loop-i.invariant in
    let below : i < length old = omega arith in
    let e : get_or now i d ≡ get_or old i d = item_left old now i d inv.rest in
    let within = rows_within held old now i from d inv.rest below inv.from in
    let shelf = rw e at c.rows.ensures.shelf in
    let rows : (held (get_or old i d)).rows ≡ count = sym (c.rows.ensures.value ∙ ap (λ s. (held s).rows) e) in
    let last : value ≡ (held (get_or old i d)).columns = c.requires.value i d below in
    let one : (held (get_or old i d)).width value ≡ 1 = ap (held (get_or old i d)).width last ∙ shelf.value in
    let there : value ≤ (held (get_or old i d)).columns = omega (arith, last) in
    let x : length ((held (get_or old i d)).pieces.first value) ≡ count = shelf.first value there ∙ ap (λ (w : ℕ). (held (get_or old i d)).rows * w) one ∙ omega (arith, rows) in
    let y : length ((held (get_or old i d)).pieces.second value) ≡ count = shelf.second value there ∙ ap (λ (w : ℕ). (held (get_or old i d)).rows * w) one ∙ omega (arith, rows) in
    record {
      scanned = zip_more (IsScanned held visited value) old now i d c.inner_of_shelf.new.shelf below (omega arith) inv.scanned
          (record { same = c.in_ok-part.ensures.held ∙ ap held e; seen = rw e at c.in_ok-part.ensures.visits });
      rest = rest_more old now i c.inner_of_shelf.new.shelf inv.rest;
      from = omega (arith, total_more (λ s. (held s).rows) old i d below, inv.from, rows);
      first = lists_long (λ s. (held s).pieces.first value) old i from count d below inv.first x;
      second = lists_long (λ s. (held s).pieces.second value) old i from count d below inv.second y;
      sum = c.add-sum.ensures
          ∙ shelf_added held old now i from count value d c.args.first.now c.args.second.now _ _ below inv.rest
          (omega (arith, within, c.requires.first)) (omega (arith, within, c.requires.first, c.requires.second)) inv.first inv.second inv.sum c.in_ok-part.ensures.sum;
    }

pub returns-clause-held : goal.returns-clause-held
returns-clause-held g c =
    let held = g.S.Shelf.held in
    let old = c.args.shelves.now in
    let before : take c.loop-i.i old ≡ old = take_all c.loop-i.i old (omega arith) in
    let after : take c.loop-i.i c.loop-i.shelves ≡ c.loop-i.shelves = take_all c.loop-i.i c.loop-i.shelves (omega arith) in
    zip_weaker (IsScanned held g.S.Shelf.visited c.args.value) (λ s t. held t ≡ held s) (λ s t p. p.same) old c.loop-i.shelves
    (rw (before, after) at c.loop-i.invariant.scanned)

pub returns-clause-sum : goal.returns-clause-sum
returns-clause-sum g c =
    let held = g.S.Shelf.held in
    let old = c.args.shelves.now in
    let all : take c.loop-i.i old ≡ old = take_all c.loop-i.i old (omega arith) in
    let whole : c.loop-i.from ≡ length c.args.first.now = c.loop-i.invariant.from ∙ ap (total (λ s. (held s).rows)) all ∙ sym c.requires.first in
    let first = take_all c.loop-i.from c.args.first.now (omega (arith, whole)) in
    let second = take_all c.loop-i.from c.args.second.now (omega (arith, whole, c.requires.second)) in
    c.loop-i.invariant.sum ∙ rw (all, first, second)

pub returns-clause-visits : goal.returns-clause-visits
returns-clause-visits g c =
    let held = g.S.Shelf.held in
    let visited = g.S.Shelf.visited in
    let old = c.args.shelves.now in
    let before : take c.loop-i.i old ≡ old = take_all c.loop-i.i old (omega arith) in
    let after : take c.loop-i.i c.loop-i.shelves ≡ c.loop-i.shelves = take_all c.loop-i.i c.loop-i.shelves (omega arith) in
    zip_weaker (IsScanned held visited c.args.value) (λ s t. visited t ≡ visited s ++ visits_of (held s) c.args.value) (λ s t p. p.seen) old c.loop-i.shelves
    (rw (before, after) at c.loop-i.invariant.scanned)
