use Rattle.std.proofs.Common.{◌≡◌, ◌+◌, ◌*◌, ◌^◌, ◌%◌, ◌≤◌, get_or, ◌∙◌, arith, rules}
use Rattle.table_schema.proofs.WidthLaws.{shifted}
use Rattle.ring128.specs.Signed.{word_of}
use Rattle.onehot_column.specs.Code.{start_of}
use Rattle.onehot_column.proofs.CodeLaws.{column_more, value_more, start_below, start_more, whole_length, width_below}
use Rattle.onehot_column.proofs.coding.code.Goals as goal

pub loop-c-init : goal.loop-c-init
loop-c-init c =
    let w = c.args.widths.now in
    record {
      cells = search rules;
      len = search rules;
      room = omega (arith, c.in_ok-cells.ensures.exact, c.cells.ensures, whole_length w);
    }

pub push_one_hot-requires : goal.push_one_hot-requires
push_one_hot-requires c =
    let w = c.args.widths.now in
    let n = c.loop-c.c in
    let size : 1 * 2 ^ get_or w.bits n 0 % 18446744073709551616 ≡ 2 ^ get_or w.bits n 0 = shifted (get_or w.bits n 0) (w.legal.2 n c.loop-c-test.true).1 in
    let inside : start_of w (n + 1) ≤ start_of w (w.columns + 1) = start_below w (n + 1) (w.columns + 1) (omega arith) in
    omega (arith, size, inside, c.loop-c.invariant.len, c.loop-c.invariant.room, start_more w n, width_below w n c.loop-c-test.true)

pub loop-c-preserved : goal.loop-c-preserved
loop-c-preserved c =
    let w = c.args.widths.now in
    let n = c.loop-c.c in
    let size : 1 * 2 ^ get_or w.bits n 0 % 18446744073709551616 ≡ 2 ^ get_or w.bits n 0 = shifted (get_or w.bits n 0) (w.legal.2 n c.loop-c-test.true).1 in
    record {
      cells = column_more w c.args.row.now n _ _ _ c.loop-c-test.true size c.loop-c.invariant.cells c.push_one_hot.ensures.items;
      len = omega (arith, c.push_one_hot.ensures.len, size, c.loop-c.invariant.len, start_more w n, width_below w n c.loop-c-test.true);
      room = c.push_one_hot.ensures.capacity ∙ c.loop-c.invariant.room;
    }

pub returns : goal.returns
returns c =
    let w = c.args.widths.now in
    let n : c.loop-c.c ≡ w.columns = omega arith in
    let so_far = rw n at c.loop-c.invariant.cells in
    let word : c.word.result ≡ word_of c.args.row.now.value = search rules in
    c.from_vec.ensures ∙ value_more w c.args.row.now c.word.result _ _ word so_far c.push_reserved.ensures.items
