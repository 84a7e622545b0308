use Rattle.share_product.proofs.Products.{reshare_shares}
use Rattle.share_product.proofs.laws.reshare_shares.Goals as goal

pub returns : goal.returns
returns c = reshare_shares
