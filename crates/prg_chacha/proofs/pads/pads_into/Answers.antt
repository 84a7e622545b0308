use Rattle.std.proofs.Common.{◌≡◌, length, arith}
use Rattle.list_facts.proofs.Listed.{listed_is}
use Rattle.prg_chacha.proofs.pads.pads_into.Goals as goal

pub returns : goal.returns
returns c =
    let whole : c.loop-place.place-index ≡ length c.args.to.now = omega arith in
    listed_is (length c.args.to.now) _ 0 c.loop-place.to (omega arith) (λ i h. c.loop-place.invariant.drawn i (omega arith))
