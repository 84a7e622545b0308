use Rattle.share_product.proofs.Products.{inners_add_up}
use Rattle.share_product.proofs.laws.inners_add_up.Goals as goal

pub returns : goal.returns
returns c = inners_add_up
