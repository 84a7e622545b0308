use Rattle.std.proofs.Common.{◌<◌, ◌≡◌, ◌≤◌, ap, arith, length}
use Rattle.scan_chunks.specs.Shelf.{Held}
use Rattle.server_rounds.proofs.Together.{all_items, set_at, shelf_at}
use Rattle.row_tree.specs.Column.{Tree}
use Rattle.row_tree.proofs.Shelved.{grown_all, grown_more, room_more}
use Rattle.row_tree.proofs.growing.add_shelves.Goals as goal

pub add_rows-requires-clause-column : goal.add_rows-requires-clause-column
add_rows-requires-clause-column g c =
    let held = g.S.Shelf.held in
    let old = c.args.shelves.now.items in
    let d = c.index_mut.result.now in
    let k : c.loop-i.i < length old = omega (arith, c.args.shelves.now.ok.0, c.len-i-end.ensures, c.loop-i-test.true) in
    let is = shelf_at held old c.loop-i.shelves.items c.loop-i.i d c.loop-i.invariant.held k c.index_mut.ensures.value in
    let column = ap (λ (t : Tree). t.column) c.loop-i.invariant.tree in
    omega (arith, all_items (λ (h : Held). c.args.tree.now.column ≤ h.columns) held old c.requires.columns c.loop-i.i d k, ap (λ (h : Held). h.columns) is, column)

pub add_rows-requires-clause-width : goal.add_rows-requires-clause-width
add_rows-requires-clause-width g c =
    let held = g.S.Shelf.held in
    let old = c.args.shelves.now.items in
    let d = c.index_mut.result.now in
    let k : c.loop-i.i < length old = omega (arith, c.args.shelves.now.ok.0, c.len-i-end.ensures, c.loop-i-test.true) in
    let is = shelf_at held old c.loop-i.shelves.items c.loop-i.i d c.loop-i.invariant.held k c.index_mut.ensures.value in
    rw (c.loop-i.invariant.tree, is) (all_items (λ (h : Held). h.width c.args.tree.now.column ≡ c.args.tree.now.width) held old c.requires.width c.loop-i.i d k)

pub add_rows-requires-clause-few : goal.add_rows-requires-clause-few
add_rows-requires-clause-few g c =
    let held = g.S.Shelf.held in
    let old = c.args.shelves.now.items in
    let d = c.index_mut.result.now in
    let k : c.loop-i.i < length old = omega (arith, c.args.shelves.now.ok.0, c.len-i-end.ensures, c.loop-i-test.true) in
    let is = shelf_at held old c.loop-i.shelves.items c.loop-i.i d c.loop-i.invariant.held k c.index_mut.ensures.value in
    rw (c.loop-i.invariant.tree) (room_more held old c.loop-i.i d c.args.tree.now.rows k is c.requires.few)

pub loop-i-preserved : goal.loop-i-preserved
loop-i-preserved g c =
    let held = g.S.Shelf.held in
    let old = c.args.shelves.now.items in
    let d = c.index_mut.result.now in
    let k : c.loop-i.i < length old = omega (arith, c.args.shelves.now.ok.0, c.len-i-end.ensures, c.loop-i-test.true) in
    let is = shelf_at held old c.loop-i.shelves.items c.loop-i.i d c.loop-i.invariant.held k c.index_mut.ensures.value in
    record {
      held = set_at held old c.loop-i.shelves.items c.loop-i.i d c.add_rows.new.shelf c.loop-i.invariant.held k c.add_rows.ensures.held c.index_mut.ensures.value;
      tree = grown_more held old c.loop-i.i d c.args.tree.now c.loop-i.tree c.add_rows.new.self k is c.loop-i.invariant.tree c.in_ok-add_rows.ensures.rows;
    }

pub returns : goal.returns
returns g c =
    let end : length c.args.shelves.now.items ≤ c.loop-i.i = omega (arith, c.args.shelves.now.ok.0, c.len-i-end.ensures, c.loop-i-test.false) in
    record { rows = grown_all g.S.Shelf.held c.args.shelves.now.items c.loop-i.i c.args.tree.now c.loop-i.tree end c.loop-i.invariant.tree }
