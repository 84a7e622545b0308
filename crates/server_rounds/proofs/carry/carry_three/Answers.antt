use Rattle.std.proofs.Common.{[], ◌∷◌, refl, rules}
use Rattle.wire_line.specs.Carried.{went_both}
use Rattle.server_rounds.proofs.Messages.{going, group_one, group_two, group_three}
use Rattle.server_rounds.proofs.Noting.{group_after_none, group_after_one, group_after_two, group_all}
use Rattle.server_rounds.proofs.carry.carry_three.Goals as goal

pub returns-in_err-two-clause-messages : goal.returns-in_err-two-clause-messages
returns-in_err-two-clause-messages g c =
    let way = c.args.way in
    let x = c.args.words.zero in
    let y = c.args.words.one in
    let z = c.args.words.two in
    let m0 = going way 0 x c.in_ok-zero.zero in
    let m1 = going way 1 y c.in_ok-one.one in
    let w0 = rw (c.sender.ensures, c.receiver.ensures) at c.in_ok-zero.ensures.carried in
    let w1 = rw (c.sender-2.ensures, c.receiver-2.ensures) at c.in_ok-one.ensures.carried in
    let both = went_both g.W.Wire.sight g.met.W.Wire.both_pass _ _ _ (m0 ∷ []) (m1 ∷ []) w0 w1 in
    let all = went_both g.W.Wire.sight g.met.W.Wire.both_pass _ _ _ (m0 ∷ m1 ∷ []) [] both c.in_err-two.ensures.kept in
    (m0 ∷ m1 ∷ [], all, group_two way x y z _ _ c.in_ok-zero.ensures.long c.in_ok-one.ensures.long, search rules)

pub returns-clause-messages : goal.returns-clause-messages
returns-clause-messages g c =
    let way = c.args.way in
    let x = c.args.words.zero in
    let y = c.args.words.one in
    let z = c.args.words.two in
    let m0 = going way 0 x c.in_ok-zero.zero in
    let m1 = going way 1 y c.in_ok-one.one in
    let m2 = going way 2 z c.in_ok-two.two in
    let w0 = rw (c.sender.ensures, c.receiver.ensures) at c.in_ok-zero.ensures.carried in
    let w1 = rw (c.sender-2.ensures, c.receiver-2.ensures) at c.in_ok-one.ensures.carried in
    let w2 = rw (c.sender-3.ensures, c.receiver-3.ensures) at c.in_ok-two.ensures.carried in
    let both = went_both g.W.Wire.sight g.met.W.Wire.both_pass _ _ _ (m0 ∷ []) (m1 ∷ []) w0 w1 in
    let all = went_both g.W.Wire.sight g.met.W.Wire.both_pass _ _ _ (m0 ∷ m1 ∷ []) (m2 ∷ []) both w2 in (
      m0 ∷ m1 ∷ m2 ∷ [],
      all,
      group_three way x y z _ _ _ c.in_ok-zero.ensures.long c.in_ok-one.ensures.long c.in_ok-two.ensures.long,
      record { full = refl; at0 = refl; at1 = refl; at2 = refl },
    )

pub returns-in_err-one-clause-messages : goal.returns-in_err-one-clause-messages
returns-in_err-one-clause-messages g c =
    let way = c.args.way in
    let x = c.args.words.zero in
    let m0 = going way 0 x c.in_ok-zero.zero in
    let w0 = rw (c.sender.ensures, c.receiver.ensures) at c.in_ok-zero.ensures.carried in
    let all = went_both g.W.Wire.sight g.met.W.Wire.both_pass _ _ _ (m0 ∷ []) [] w0 c.in_err-one.ensures.kept in
    (m0 ∷ [], all, group_one way x c.args.words.one c.args.words.two _ c.in_ok-zero.ensures.long, search rules)

pub returns-in_err-zero-clause-trace : goal.returns-in_err-zero-clause-trace
returns-in_err-zero-clause-trace g c =
    group_after_none c.args.way _ _ _ _ _ _ c.from_residual.ensures.0 (rw (c.sender.ensures, c.receiver.ensures) at c.in_err-zero.ensures.trace)

pub returns-in_err-one-clause-trace : goal.returns-in_err-one-clause-trace
returns-in_err-one-clause-trace g c =
    group_after_one c.args.way _ _ _ _ _ _ _ c.from_residual-in_err-one.ensures.0 (rw (c.sender.ensures, c.receiver.ensures) at c.in_ok-zero.ensures.trace)
    (rw (c.sender-2.ensures, c.receiver-2.ensures) at c.in_err-one.ensures.trace)

pub returns-in_err-two-clause-trace : goal.returns-in_err-two-clause-trace
returns-in_err-two-clause-trace g c =
    group_after_two c.args.way _ _ _ _ _ _ _ _ c.from_residual-in_err-two.ensures.0 (rw (c.sender.ensures, c.receiver.ensures) at c.in_ok-zero.ensures.trace)
    (rw (c.sender-2.ensures, c.receiver-2.ensures) at c.in_ok-one.ensures.trace) (rw (c.sender-3.ensures, c.receiver-3.ensures) at c.in_err-two.ensures.trace)

pub returns-clause-trace : goal.returns-clause-trace
returns-clause-trace g c =
    group_all c.args.way _ _ _ _ _ _ _ (rw (c.sender.ensures, c.receiver.ensures) at c.in_ok-zero.ensures.trace)
    (rw (c.sender-2.ensures, c.receiver-2.ensures) at c.in_ok-one.ensures.trace) (rw (c.sender-3.ensures, c.receiver-3.ensures) at c.in_ok-two.ensures.trace)
