use Rattle.std.proofs.Common.{rules, refl, length, ◌+◌}
use Rattle.server_rounds.proofs.Zeroed.{both_zeroed}
use Rattle.server_rounds.proofs.zeros.+stretches.Goals as goal

pub add_both-returns : goal.add_both-returns
add_both-returns g t c =
    let a = c.args in
    both_zeroed a.keys.now a.start (a.start + length a.zero.now) a.zero.now a.one.now a.two.now c.zero-1.given.0 c.one-1.given.0 c.two-1.given.0
    a.zero_rest.now a.one_rest.now a.two_rest.now c.zero_rest-1.given.0 c.one_rest-1.given.0 c.two_rest-1.given.0
    refl c.requires.front.long1 c.requires.front.long2 (search rules) (search rules)
