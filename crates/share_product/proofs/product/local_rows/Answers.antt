use Rattle.std.proofs.Common.{length, ◌∙◌, ap, arith}
use Rattle.list_facts.proofs.Listed.{length-listed}
use Rattle.share_product.proofs.Products.{rows_in_place}
use Rattle.share_product.proofs.product.local_rows.Goals as goal

pub add_parts-requires : goal.add_parts-requires
add_parts-requires c =
    let long = ap length (c.into_vec-rows.ensures ∙ c.in_ok-locals.ensures) ∙ length-listed _ _ in
    omega (arith, long)

pub returns : goal.returns
returns c =
    c.from_vec.ensures
    ∙ rows_in_place c.args.a.now.first c.args.a.now.second c.args.b.now.first c.args.b.now.second c.args.zero.now.own c.args.zero.now.next c.args.start _ _ _ _
    (c.into_vec-rows.ensures ∙ c.in_ok-locals.ensures) (omega arith) c.deref_mut.ensures.value c.add_parts.ensures
