use Rattle.std.proofs.Common.{◌≡◌, ◌∙◌, refl, ap, sym, ◌++◌, ◌+◌, ◌<◌, ◌*◌, ℕ, List, [], get_or, take, length, replicate, arith}
use Rattle.std.proofs.lemmas.List.{get_or-replicate, length-replicate, take_all}
use Rattle.std.specs.List.{flat_map}
use Rattle.list_facts.specs.Count.{total}
use Rattle.list_facts.specs.Listed.{listed}
use Rattle.list_facts.proofs.Listed.{length-listed}
use Rattle.scan_chunks.specs.Scan.{visits_of, VisitsPart}
use Rattle.scan_chunks.proofs.Shelves.{IsScanned, zip_weaker, flat_map_more, item_left, zip_set, zip_more, rest_more, part_whole, part_none, on_err}
use Rattle.server_rounds.proofs.Adding.{lists_long, rows_within}
use Rattle.server_rounds.proofs.Together.{total_more}
use Rattle.bucket_groups.proofs.Adding.{all_rows, cell_sum, no_rows, put_back, shelf_more, sums_small, zip_same}
use Rattle.bucket_groups.proofs.sums.bucket_sums.Goals as goal

pub returns-in_err-sums-clause-held : goal.returns-in_err-sums-clause-held
returns-in_err-sums-clause-held g c = zip_same (λ s t. g.S.Shelf.held t ≡ g.S.Shelf.held s) (λ s. refl) c.args.shelves.now

pub returns-in_err-sums-clause-part : goal.returns-in_err-sums-clause-part
returns-in_err-sums-clause-part g c =
    let held = g.S.Shelf.held in
    let visited = g.S.Shelf.visited in
    on_err _ _
    (zip_same (λ s t. VisitsPart (visited s) (visited t) (visits_of (held s) c.args.column)) (λ s. part_none (visited s) (visits_of (held s) c.args.column)) c.args.shelves.now)

pub loop-i-init : goal.loop-i-init
loop-i-init g c =
    let w = c.args.width in
    let none : 0 ≡ 0 * w = omega arith in
    let a = c.args.first.now in
    let b = c.args.second.now in
    let free : c.in_ok-sums.sums.items ≡ replicate w 0 = c.in_ok-sums.ensures.items_if_clones_equal (λ y same. same) in
    record {
      scanned = tt;
      rest = refl;
      from = refl;
      first = none;
      second = none;
      sums = no_rows w a b [] [] c.in_ok-sums.sums.items (ap length free ∙ length-replicate w 0) (λ b k. ap (λ (l : List ℕ). get_or l b 0) free ∙ get_or-replicate w b 0 0 k);
    }

pub overflow_add-to : goal.overflow_add-to
overflow_add-to g c =
    let within = rows_within g.S.Shelf.held c.args.shelves.now c.loop-i.shelves c.loop-i.i c.loop-i.from c.index-shelves-i.result c.loop-i.invariant.rest (omega arith) c.loop-i.invariant.from in
    omega (arith, within, c.rows.ensures.value, c.requires.first)

pub offset_bounds-first-from : goal.offset_bounds-first-from
offset_bounds-first-from g c =
    let within = rows_within g.S.Shelf.held c.args.shelves.now c.loop-i.shelves c.loop-i.i c.loop-i.from c.index-shelves-i.result c.loop-i.invariant.rest (omega arith) c.loop-i.invariant.from in
    omega (arith, within, c.rows.ensures.value, c.requires.first)

pub offset_bounds-second-from : goal.offset_bounds-second-from
offset_bounds-second-from g c =
    let within = rows_within g.S.Shelf.held c.args.shelves.now c.loop-i.shelves c.loop-i.i c.loop-i.from c.index-shelves-i.result c.loop-i.invariant.rest (omega arith) c.loop-i.invariant.from in
    omega (arith, within, c.rows.ensures.value, c.requires.first, c.requires.second)

pub slice_bounds-add_shelf-end : goal.slice_bounds-add_shelf-end
slice_bounds-add_shelf-end g c =
    let within = rows_within g.S.Shelf.held c.args.shelves.now c.loop-i.shelves c.loop-i.i c.loop-i.from c.index-shelves-i.result c.loop-i.invariant.rest (omega arith) c.loop-i.invariant.from in
    omega (arith, within, c.rows.ensures.value, c.requires.first)

pub slice_bounds-add_shelf-end-in-loop-i : goal.slice_bounds-add_shelf-end-in-loop-i
slice_bounds-add_shelf-end-in-loop-i g c =
    let within = rows_within g.S.Shelf.held c.args.shelves.now c.loop-i.shelves c.loop-i.i c.loop-i.from c.index-shelves-i.result c.loop-i.invariant.rest (omega arith) c.loop-i.invariant.from in
    omega (arith, within, c.rows.ensures.value, c.requires.first, c.requires.second)

pub add_shelf-requires-clause-small : goal.add_shelf-requires-clause-small
add_shelf-requires-clause-small g c =
    let old = take c.loop-i.i c.args.shelves.now in
    let held = g.S.Shelf.held in
    sums_small c.args.width c.loop-i.from c.args.first.now c.args.second.now (flat_map (λ s. (held s).pieces.first c.args.column) old) (flat_map (λ s. (held s).pieces.second c.args.column) old)
    c.deref_mut.result.now (c.deref_mut.ensures.value ∙ c.loop-i.invariant.sums)

pub add_shelf-requires-clause-column : goal.add_shelf-requires-clause-column
add_shelf-requires-clause-column g c =
    rw (item_left c.args.shelves.now c.loop-i.shelves c.loop-i.i c.index-shelves-i.result c.loop-i.invariant.rest)
    (c.requires.column c.loop-i.i c.index-shelves-i.result (omega arith))

pub add_shelf-requires-clause-wide : goal.add_shelf-requires-clause-wide
add_shelf-requires-clause-wide g c =
    rw (item_left c.args.shelves.now c.loop-i.shelves c.loop-i.i c.index-shelves-i.result c.loop-i.invariant.rest)
    (c.requires.wide c.loop-i.i c.index-shelves-i.result (omega arith)
    ∙ sym (ap length (c.deref_mut.ensures.value ∙ c.loop-i.invariant.sums) ∙ length-listed c.args.width _))

pub returns-in_err-add_shelf-clause-held : goal.returns-in_err-add_shelf-clause-held
returns-in_err-add_shelf-clause-held g c =
    let held = g.S.Shelf.held in
    let old = c.args.shelves.now in
    let now = c.loop-i.shelves in
    let i = c.loop-i.i in
    let d = c.index-shelves-i.result in
    let e : get_or now i d ≡ get_or old i d = item_left old now i d c.loop-i.invariant.rest in
    zip_set (λ s t. held t ≡ held s) (λ s. refl) old now i d c.add_shelf.new.shelf (omega arith) (omega arith)
    (zip_weaker (IsScanned held g.S.Shelf.visited c.args.column) (λ s t. held t ≡ held s) (λ s t p. p.same) (take i old) (take i now) c.loop-i.invariant.scanned)
    c.loop-i.invariant.rest (c.in_err-add_shelf.ensures.held ∙ ap held e)

pub returns-in_err-add_shelf-clause-part : goal.returns-in_err-add_shelf-clause-part
returns-in_err-add_shelf-clause-part g c =
    let held = g.S.Shelf.held in
    let visited = g.S.Shelf.visited in
    let column = c.args.column in
    let old = c.args.shelves.now in
    let now = c.loop-i.shelves in
    let i = c.loop-i.i in
    let d = c.index-shelves-i.result in
    let e : get_or now i d ≡ get_or old i d = item_left old now i d c.loop-i.invariant.rest in
    on_err _ _
    (zip_set (λ s t. VisitsPart (visited s) (visited t) (visits_of (held s) column)) (λ s. part_none (visited s) (visits_of (held s) column)) old now i d c.add_shelf.new.shelf (omega arith) (omega arith)
    (zip_weaker (IsScanned held visited column) (λ s t. VisitsPart (visited s) (visited t) (visits_of (held s) column))
    (λ s t p. part_whole (visited s) (visited t) (visits_of (held s) column) p.seen) (take i old) (take i now) c.loop-i.invariant.scanned)
    c.loop-i.invariant.rest (rw e at c.in_err-add_shelf.ensures.part))

pub loop-i-preserved : goal.loop-i-preserved
loop-i-preserved g c =
    let held = g.S.Shelf.held in
    let visited = g.S.Shelf.visited in
    let column = c.args.column in
    let w = c.args.width in
    let old = c.args.shelves.now in
    let now = c.loop-i.shelves in
    let i = c.loop-i.i in
    let from = c.loop-i.from in
    let count = c.rows.result in
    let d = c.index-shelves-i.result in
    let inv = c.loop-i.invariant in
    let below : i < length old = omega arith in
    let e : get_or now i d ≡ get_or old i d = item_left old now i d inv.rest in
    let within = rows_within held old now i from d inv.rest below inv.from in
    let shelf = rw e at c.rows.ensures.shelf in
    let rows : (held (get_or old i d)).rows ≡ count = sym (c.rows.ensures.value ∙ ap (λ s. (held s).rows) e) in
    let there = c.requires.column i d below in
    let wide = c.requires.wide i d below in
    let x : length ((held (get_or old i d)).pieces.first column) ≡ count * w = shelf.first column there ∙ ap (λ (m : ℕ). (held (get_or old i d)).rows * m) wide ∙ ap (λ (m : ℕ). m * w) rows in
    let y : length ((held (get_or old i d)).pieces.second column) ≡ count * w = shelf.second column there ∙ ap (λ (m : ℕ). (held (get_or old i d)).rows * m) wide ∙ ap (λ (m : ℕ). m * w) rows in
    let both : (from + count) * w ≡ from * w + count * w = omega arith in
    let X = flat_map (λ s. (held s).pieces.first column) (take i old) in
    let Y = flat_map (λ s. (held s).pieces.second column) (take i old) in
    let before : c.deref_mut.result.now ≡ listed w (λ b. cell_sum c.args.first.now c.args.second.now X Y w b from) = c.deref_mut.ensures.value ∙ inv.sums in
    let after = shelf_more from count w c.args.first.now c.args.second.now X Y ((held (get_or old i d)).pieces.first column) ((held (get_or old i d)).pieces.second column) c.deref_mut.result.now _ _ c.add_shelf.new.sums
    inv.first inv.second before (omega (arith, within, c.rows.ensures.value, c.requires.first)) (omega (arith, within, c.rows.ensures.value, c.requires.first, c.requires.second))
    refl refl (rw e at c.in_ok-add_shelf.ensures.sums) in
    let whole : c.add_shelf.new.sums ≡ listed w (λ b. cell_sum c.args.first.now c.args.second.now (flat_map (λ s. (held s).pieces.first column) (take (i + 1) old)) (flat_map (λ s. (held s).pieces.second column) (take (i + 1) old)) w b (from + count)) =
    rw (flat_map_more (λ s. (held s).pieces.first column) old i d below, flat_map_more (λ s. (held s).pieces.second column) old i d below) at after in
    let long : length c.add_shelf.new.sums ≡ length c.loop-i.sums.items = ap length whole ∙ length-listed w _ ∙ sym (ap length inv.sums ∙ length-listed w _) in
    record {
      scanned = zip_more (IsScanned held visited column) old now i d c.add_shelf.new.shelf below (omega arith) inv.scanned
          (record { same = c.in_ok-add_shelf.ensures.held ∙ ap held e; seen = rw e at c.in_ok-add_shelf.ensures.visits });
      rest = rest_more old now i c.add_shelf.new.shelf inv.rest;
      from = omega (arith, total_more (λ s. (held s).rows) old i d below, inv.from, rows);
      first = lists_long (λ s. (held s).pieces.first column) old i (from * w) (count * w) d below inv.first x ∙ sym both;
      second = lists_long (λ s. (held s).pieces.second column) old i (from * w) (count * w) d below inv.second y ∙ sym both;
      sums = put_back c.loop-i.sums.len c.add_shelf.new.sums c.loop-i.sums.items (omega (arith, c.loop-i.sums.ok.0)) long ∙ whole;
    }

pub returns-clause-held : goal.returns-clause-held
returns-clause-held g c =
    let held = g.S.Shelf.held in
    let old = c.args.shelves.now in
    let before : take c.loop-i.i old ≡ old = take_all c.loop-i.i old (omega arith) in
    let after : take c.loop-i.i c.loop-i.shelves ≡ c.loop-i.shelves = take_all c.loop-i.i c.loop-i.shelves (omega arith) in
    zip_weaker (IsScanned held g.S.Shelf.visited c.args.column) (λ s t. held t ≡ held s) (λ s t p. p.same) old c.loop-i.shelves
    (rw (before, after) at c.loop-i.invariant.scanned)

pub returns-clause-sums : goal.returns-clause-sums
returns-clause-sums g c =
    let held = g.S.Shelf.held in
    let old = c.args.shelves.now in
    let w = c.args.width in
    let all : take c.loop-i.i old ≡ old = take_all c.loop-i.i old (omega arith) in
    let whole : c.loop-i.from ≡ length c.args.first.now = c.loop-i.invariant.from ∙ ap (total (λ s. (held s).rows)) all ∙ sym c.requires.first in
    c.from_vec.ensures ∙ rw (all, whole) at c.loop-i.invariant.sums
    ∙ all_rows (length c.args.first.now) w c.args.first.now c.args.second.now (flat_map (λ s. (held s).pieces.first c.args.column) old) (flat_map (λ s. (held s).pieces.second c.args.column) old) refl c.requires.second

pub returns-clause-visits : goal.returns-clause-visits
returns-clause-visits g c =
    let held = g.S.Shelf.held in
    let visited = g.S.Shelf.visited in
    let old = c.args.shelves.now in
    let before : take c.loop-i.i old ≡ old = take_all c.loop-i.i old (omega arith) in
    let after : take c.loop-i.i c.loop-i.shelves ≡ c.loop-i.shelves = take_all c.loop-i.i c.loop-i.shelves (omega arith) in
    zip_weaker (IsScanned held visited c.args.column) (λ s t. visited t ≡ visited s ++ visits_of (held s) c.args.column) (λ s t p. p.seen) old c.loop-i.shelves
    (rw (before, after) at c.loop-i.invariant.scanned)
