use Rattle.std.proofs.Common.{◌∙◌}
use Rattle.share_product.proofs.Products.{local_by_two}
use Rattle.share_product.proofs.product.local.Goals as goal

pub returns : goal.returns
returns c =
    c.add-2.ensures ∙ rw (c.mul-near.ensures, c.add.ensures, c.mul.ensures) (local_by_two c.args.a.first c.args.a.second c.args.b.first c.args.b.second)
