use Rattle.std.proofs.Common.{◌+◌, ◌<◌, length, ap, subst, arith}
use Rattle.std.proofs.lemmas.List.Elements.{All-more}
use Rattle.scan_chunks.specs.Shelf.{IsShelf}
use Rattle.server_rounds.proofs.Together.{total_more, total_below}
use Rattle.server_rounds.proofs.shelves.count_rows.Goals as goal

pub overflow_add-count : goal.overflow_add-count
overflow_add-count g c =
    let held = g.S.Shelf.held in
    let f = λ (s : g.row.S.Denot). (held s).rows in
    let xs = c.args.shelves.now in
    let i = c.loop-shelf.shelf-index in
    let d = c.shelf-item.result in
    let below : i < length xs = omega arith in
    omega (arith, total_more f xs i d below, total_below f xs (i + 1), c.loop-shelf.invariant.count, ap f c.shelf-item.is, c.rows-count.ensures.value, c.requires)

pub loop-shelf-preserved : goal.loop-shelf-preserved
loop-shelf-preserved g c =
    let held = g.S.Shelf.held in
    let f = λ (s : g.row.S.Denot). (held s).rows in
    let xs = c.args.shelves.now in
    let i = c.loop-shelf.shelf-index in
    let d = c.shelf-item.result in
    let below : i < length xs = omega arith in
    let P : g.row.S.Denot → Type 0 = λ s. IsShelf (held s) in
    record {
      count = omega (arith, total_more f xs i d below, c.loop-shelf.invariant.count, ap f c.shelf-item.is, c.rows-count.ensures.value);
      shelves = All-more P xs i d below c.loop-shelf.invariant.shelves (subst P c.shelf-item.is c.rows-count.ensures.shelf);
    }
