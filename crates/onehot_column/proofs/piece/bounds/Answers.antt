use Rattle.std.proofs.Common.{◌≡◌, ◌+◌, ◌<◌, ◌≤◌, ap, length, take, get_or, arith, rules}
use Rattle.std.proofs.lemmas.List.{get_or-take, length-take}
use Rattle.table_schema.proofs.WidthLaws.{few_bits, shifted}
use Rattle.onehot_column.specs.Code.{start_of}
use Rattle.onehot_column.proofs.CodeLaws.{start_more, start_below, width_below, whole_length}
use Rattle.onehot_column.proofs.piece.bounds.Goals as goal

pub overflow_add-start : goal.overflow_add-start
overflow_add-start c =
    let w = c.args.widths.now in
    let i = c.loop-b.b-index in
    let b = get_or (take c.args.c w.bits) i 0 in
    let lt : i < length (take c.args.c w.bits) = search rules in
    let below : i < c.args.c = omega (arith, length-take c.args.c w.bits) in
    let few : b ≤ 8 = rw (get_or-take c.args.c w.bits i 0 below) (w.legal.2 i (omega arith)).1 in
    rw (shifted b few) (omega (arith, few_bits b few))

pub loop-b-preserved : goal.loop-b-preserved
loop-b-preserved c =
    let w = c.args.widths.now in
    let i = c.loop-b.b-index in
    let b = get_or w.bits i 0 in
    let lt : i < length (take c.args.c w.bits) = search rules in
    let below : i < c.args.c = omega (arith, length-take c.args.c w.bits) in
    let few : b ≤ 8 = (w.legal.2 i (omega arith)).1 in
    rw (get_or-take c.args.c w.bits i 0 below, shifted b few) record {
      sum = omega (arith, c.loop-b.invariant.sum, start_more w i, width_below w i (omega arith));
      few = omega (arith, few_bits b few);
    }

pub returns-clause-within : goal.returns-clause-within
returns-clause-within c =
    let w = c.args.widths.now in
    let n : c.loop-b.b-index ≡ c.args.c = search rules in
    let few = (w.legal.2 c.args.c c.requires).1 in
    let sum = ap (start_of w) n in
    rw (shifted (get_or w.bits c.args.c 0) few)
    (omega (arith, c.loop-b.invariant.sum, sum, width_below w c.args.c c.requires, start_more w c.args.c, start_below w (c.args.c + 1) (w.columns + 1) (omega arith), whole_length w))
