use Rattle.share_product.proofs.Products.{inners_join}
use Rattle.share_product.proofs.laws.inners_join.Goals as goal

pub returns : goal.returns
returns c = inners_join
