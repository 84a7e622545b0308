use Rattle.std.proofs.Common.{◌∙◌, arith}
use Rattle.onehot_column.proofs.CodeLaws.{hot_more}
use Rattle.onehot_column.proofs.coding.push_one_hot.Goals as goal

pub loop-x-preserved : goal.loop-x-preserved
loop-x-preserved c = record {
  items = c.push_reserved.ensures.items ∙ hot_more c.args.place c.loop-x.x c.from.result _ _ c.loop-x.invariant.items c.from.ensures;
  len = omega arith;
  room = omega arith;
}
