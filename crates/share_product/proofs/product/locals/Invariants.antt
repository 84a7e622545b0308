use Rattle.std.proofs.Common.{◌≡◌, length, get_or}
use Rattle.std.specs.Prelude.{vec_len, vec_capacity}
use Rattle.list_facts.specs.Listed.{listed}
use Rattle.share_product.specs.Product.{local_of}
use Rattle.share_product.proofs.product.locals.Given as goal

abbrev pub invariant-loop-i : goal.invariant-loop-i
invariant-loop-i l = record {
  rows : l.rows.items ≡ listed l.i (λ i. local_of (get_or l.a.first i 0) (get_or l.a.second i 0) (get_or l.b.first i 0) (get_or l.b.second i 0));
  len : vec_len l.rows ≡ l.i;
  room : vec_capacity l.rows ≡ length l.a.first;
}
