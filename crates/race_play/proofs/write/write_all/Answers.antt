use Rattle.std.proofs.Common.{length, arith}
use Rattle.race_play.proofs.Writing.{grows_trans, on_err, turns_room, wrote_first}
use Rattle.race_play.proofs.write.write_all.Goals as goal

pub write_turn-requires-clause-room : goal.write_turn-requires-clause-room
write_turn-requires-clause-room g c turn = omega (arith, turns_room _ _ _ _ turn c.loop-i-test.true, c.loop-i.invariant.wrote.room, c.requires.room)

pub loop-i-preserved : goal.loop-i-preserved
loop-i-preserved g c =
    let before = c.loop-i.invariant in
    let e = c.in_ok-write_turn.ensures in
    record { of = e.pass; grows = grows_trans _ _ _ before.grows e.grows; wrote = e.wrote _ before.grows before.wrote }

pub returns-in_err-write_turn-clause-broken : goal.returns-in_err-write_turn-clause-broken
returns-in_err-write_turn-clause-broken g c =
    let before = c.loop-i.invariant in
    let b = c.in_err-write_turn.ensures.broken _ before.grows before.wrote in
    on_err c.from_residual.result _ (wrote_first _ _ _ _ b.0 (length c.args.rows.now) _ b.2 _ (let le = b.1 in let lt = c.loop-i-test.true in omega arith) b.3)
