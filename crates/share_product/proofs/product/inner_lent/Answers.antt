use Rattle.std.proofs.Common.{◌≡◌, ◌∙◌, get_or, arith}
use Rattle.share_product.specs.Product.{local_of}
use Rattle.share_product.proofs.Products.{local_by_two, inner_of-more}
use Rattle.share_product.proofs.product.inner_lent.Goals as goal

pub loop-i-preserved : goal.loop-i-preserved
loop-i-preserved c =
    let i = c.loop-i.i in
    let a = c.args.a_first.now in
    let a' = c.args.a_second.now in
    let b = c.args.b_first.now in
    let b' = c.args.b_second.now in
    let one : c.add-in-loop-i.result ≡ local_of (get_or a i 0) (get_or a' i 0) (get_or b i 0) (get_or b' i 0) =
    c.add-in-loop-i.ensures ∙ rw (c.mul-near.ensures, c.add.ensures, c.mul.ensures) (local_by_two (get_or a i 0) (get_or a' i 0) (get_or b i 0) (get_or b' i 0)) in (
      inner_of-more c.loop-i.sum _ _ i a a' b b' c.requires.a c.requires.b_first c.requires.b_second (omega arith) c.add-sum.ensures one ∙ c.loop-i.invariant.0,
      omega (arith, c.add-sum.ensures),
    )
