use Rattle.std.proofs.Common.{arith}
use Rattle.list_facts.proofs.Listed.{listed_more}
use Rattle.share_product.proofs.product.locals.Goals as goal

pub loop-i-preserved : goal.loop-i-preserved
loop-i-preserved c = record {
  rows = rw (c.push_reserved.ensures.items, c.local.ensures, c.as_slice-a_first.ensures, c.as_slice-a_second.ensures, c.as_slice-b_first.ensures, c.as_slice-b_second.ensures, c.loop-i.invariant.rows) (listed_more _ _);
  len = omega arith;
  room = omega arith;
}
