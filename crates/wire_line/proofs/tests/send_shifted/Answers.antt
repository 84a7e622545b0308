use Rattle.std.proofs.Common.{rules}
use Rattle.wire_line.proofs.Below.{one_went_below}
use Rattle.wire_line.specs.declared.message.Peer.TheVariants.{Client, Server0}
use Rattle.wire_line.proofs.tests.send_shifted.Goals as goal

pub returns : goal.returns
returns g c =
    one_went_below g.W.Wire.sight c.send-sent.result c.over-over.result c.send-sent.new.wire c.args.wire.now _
    c.args.shifts Client Server0 c.args.words.now c.send-sent.new.words (search rules) (search rules) (search rules) (λ e. search rules) c.send-sent.ensures
