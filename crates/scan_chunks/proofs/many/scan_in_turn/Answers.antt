use Rattle.std.proofs.Common.{◌≡◌, ◌∙◌, ap, ◌++◌, get_or, take, arith, refl}
use Rattle.std.proofs.lemmas.List.{take_all}
use Rattle.scan_chunks.specs.Scan.{scan_of, visits_of, VisitsPart}
use Rattle.scan_chunks.proofs.Shelves.{IsScanned, zip_weaker, item_left, zip_set, zip_more, rest_more, flat_map_more, part_whole, part_none, on_err}
use Rattle.scan_chunks.proofs.many.scan_in_turn.Goals as goal

pub append_scan-requires-clause-column : goal.append_scan-requires-clause-column
append_scan-requires-clause-column g c =
    rw (item_left c.args.shelves.now c.loop-i.shelves c.loop-i.i c.index-shelves-i.result c.loop-i.invariant.rest)
    (c.requires.column c.loop-i.i c.index-shelves-i.result (omega arith))

pub append_scan-requires-clause-zero : goal.append_scan-requires-clause-zero
append_scan-requires-clause-zero g c =
    rw (item_left c.args.shelves.now c.loop-i.shelves c.loop-i.i c.index-shelves-i.result c.loop-i.invariant.rest)
    (c.requires.zero c.loop-i.i c.index-shelves-i.result (omega arith))

pub append_scan-requires-clause-one : goal.append_scan-requires-clause-one
append_scan-requires-clause-one g c =
    rw (item_left c.args.shelves.now c.loop-i.shelves c.loop-i.i c.index-shelves-i.result c.loop-i.invariant.rest)
    (c.requires.one c.loop-i.i c.index-shelves-i.result (omega arith))

pub returns-in_err-append_scan-clause-held : goal.returns-in_err-append_scan-clause-held
returns-in_err-append_scan-clause-held g c =
    let held = g.S.Shelf.held in
    let visited = g.S.Shelf.visited in
    let column = c.args.column in
    let old = c.args.shelves.now in
    let now = c.loop-i.shelves in
    let i = c.loop-i.i in
    let d = c.index-shelves-i.result in
    let new = c.append_scan.new.shelf in
    let e : get_or now i d ≡ get_or old i d = item_left old now i d c.loop-i.invariant.rest in
    zip_set (λ s t. held t ≡ held s) (λ s. refl) old now i d new (omega arith) (omega arith)
    (zip_weaker (IsScanned held visited column) (λ s t. held t ≡ held s) (λ s t p. p.same) (take i old) (take i now) c.loop-i.invariant.scanned)
    c.loop-i.invariant.rest (c.in_err-append_scan.ensures.held ∙ ap held e)

pub returns-in_err-append_scan-clause-part : goal.returns-in_err-append_scan-clause-part
returns-in_err-append_scan-clause-part g c =
    let held = g.S.Shelf.held in
    let visited = g.S.Shelf.visited in
    let column = c.args.column in
    let old = c.args.shelves.now in
    let now = c.loop-i.shelves in
    let i = c.loop-i.i in
    let d = c.index-shelves-i.result in
    let new = c.append_scan.new.shelf in
    let e : get_or now i d ≡ get_or old i d = item_left old now i d c.loop-i.invariant.rest in
    on_err _ _
    (zip_set (λ s t. VisitsPart (visited s) (visited t) (visits_of (held s) column)) (λ s. part_none (visited s) (visits_of (held s) column)) old now i d new (omega arith) (omega arith)
    (zip_weaker (IsScanned held visited column) (λ s t. VisitsPart (visited s) (visited t) (visits_of (held s) column))
    (λ s t p. part_whole (visited s) (visited t) (visits_of (held s) column) p.seen) (take i old) (take i now) c.loop-i.invariant.scanned)
    c.loop-i.invariant.rest (rw e at c.in_err-append_scan.ensures.part))

pub loop-i-preserved : goal.loop-i-preserved
loop-i-preserved g c =
    let held = g.S.Shelf.held in
    let visited = g.S.Shelf.visited in
    let column = c.args.column in
    let old = c.args.shelves.now in
    let now = c.loop-i.shelves in
    let i = c.loop-i.i in
    let d = c.index-shelves-i.result in
    let new = c.append_scan.new.shelf in
    let e : get_or now i d ≡ get_or old i d = item_left old now i d c.loop-i.invariant.rest in
    record {
      scanned = zip_more (IsScanned held visited column) old now i d new (omega arith) (omega arith) c.loop-i.invariant.scanned
          (record { same = c.in_ok-append_scan.ensures.held ∙ ap held e; seen = rw e at c.in_ok-append_scan.ensures.visits });
      rest = rest_more old now i new c.loop-i.invariant.rest;
      numbers =
          rw (c.in_ok-append_scan.ensures.numbers, e, c.loop-i.invariant.numbers)
          (flat_map_more (λ s. scan_of (held s) column c.args.tables.now.zero c.args.tables.now.one) old i d (omega arith));
    }

pub returns-clause-held : goal.returns-clause-held
returns-clause-held g c =
    let held = g.S.Shelf.held in
    let old = c.args.shelves.now in
    let before : take c.loop-i.i old ≡ old = take_all c.loop-i.i old (omega arith) in
    let after : take c.loop-i.i c.loop-i.shelves ≡ c.loop-i.shelves = take_all c.loop-i.i c.loop-i.shelves (omega arith) in
    zip_weaker (IsScanned held g.S.Shelf.visited c.args.column) (λ s t. held t ≡ held s) (λ s t p. p.same) old c.loop-i.shelves
    (rw (before, after) at c.loop-i.invariant.scanned)

pub returns-clause-visits : goal.returns-clause-visits
returns-clause-visits g c =
    let held = g.S.Shelf.held in
    let visited = g.S.Shelf.visited in
    let old = c.args.shelves.now in
    let before : take c.loop-i.i old ≡ old = take_all c.loop-i.i old (omega arith) in
    let after : take c.loop-i.i c.loop-i.shelves ≡ c.loop-i.shelves = take_all c.loop-i.i c.loop-i.shelves (omega arith) in
    zip_weaker (IsScanned held visited c.args.column) (λ s t. visited t ≡ visited s ++ visits_of (held s) c.args.column) (λ s t p. p.seen) old c.loop-i.shelves
    (rw (before, after) at c.loop-i.invariant.scanned)
