use Rattle.share_product.proofs.Products.{rows_add_up}
use Rattle.share_product.proofs.laws.rows_add_up.Goals as goal

pub returns : goal.returns
returns c = rows_add_up
