use Rattle.std.proofs.Common.{◌≡◌, ◌<◌, ◌^◌, drop}
use Rattle.ring128.specs.Ring.{plus}
use Rattle.share_product.specs.Product.{inner_of}
use Rattle.share_product.proofs.product.inner_lent.Given as goal

-- the sum so far, and the part for what is left
abbrev pub invariant-loop-i : goal.invariant-loop-i
invariant-loop-i l =
    (plus l.sum (inner_of (drop l.i l.a_first) (drop l.i l.a_second) (drop l.i l.b_first) (drop l.i l.b_second)) ≡ inner_of l.a_first l.a_second l.b_first l.b_second)
    × (l.sum < 2 ^ 128)
