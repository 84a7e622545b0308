use Rattle.share_product.proofs.Products.{locals_add_up}
use Rattle.share_product.proofs.laws.locals_add_up.Goals as goal

pub returns : goal.returns
returns c = locals_add_up
