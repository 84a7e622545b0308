use Rattle.std.proofs.Common.{◌≡◌, ℕ, ap, sym, length, arith}
use Rattle.waldo_table.specs.Tables.{PassView}
use Rattle.race_play.proofs.Splitting.{fresh_given, fresh_kept, long_push, numbered_push, ready_push}
use Rattle.race_play.proofs.Sums.{rooms_all, rooms_more, rooms_within, tsum}
use Rattle.race_play.proofs.together.split_jobs.Goals as goal

pub split_pass-mine-requires-clause-room : goal.split_pass-mine-requires-clause-room
split_pass-mine-requires-clause-room c =
    omega (arith, c.len-room.ensures, c.in_ok-turns_of.field-0.ok.0, ap length c.in_ok-turns_of.ensures, rooms_within c.args.writers c.loop-number.number c.args.rows c.loop-number-test.true, c.loop-number.invariant.room, c.requires.room)

pub loop-number-preserved : goal.loop-number-preserved
loop-number-preserved c =
    let before = c.loop-number.invariant in
    let split = c.split_pass-mine.ensures in
    let kept = split.kept in
    let given = split.given in
    let len = ap length c.in_ok-turns_of.ensures in
    record {
      of = split.pass.0;
      fresh = fresh_kept c.loop-number.pass c.split_pass-mine.new.pass (ap (λ (p : PassView). p.sight.own) kept) (ap (λ (p : PassView). p.floor) kept) before.fresh;
      ready = ready_push c.args.table.now c.args.rows c.args.writers _ _ _ c.in_ok-push.ensures.items before.ready (record {
        of = split.pass.1;
        number = c.loop-number-test.true;
        fresh = fresh_given c.loop-number.pass c.split_pass-mine.result c.len-room.result given before.fresh;
        room = omega (arith, ap (λ (p : PassView). p.sight.room) given, c.len-room.ensures, c.in_ok-turns_of.field-0.ok.0, len);
      });
      numbered = numbered_push _ _ _ c.in_ok-push.ensures.items before.numbered (sym before.long);
      long = long_push _ _ _ _ c.in_ok-push.ensures.items before.long;
      room = omega (
        arith,
        rooms_more c.args.writers c.loop-number.number c.args.rows,
        ap (λ (p : PassView). p.sight.room) kept,
        before.room,
        c.len-room.ensures,
        c.in_ok-turns_of.field-0.ok.0,
        len,
        rooms_within c.args.writers c.loop-number.number c.args.rows c.loop-number-test.true,
        c.requires.room,
      );
    }

pub returns-clause-room : goal.returns-clause-room
returns-clause-room c =
    let e : c.loop-number.number ≡ c.args.writers = omega (arith, c.loop-number-test.false, c.loop-number.auto.number-end) in
    let s = ap (λ (k : ℕ). tsum (λ (y : ℕ). 1) c.args.writers 0 k c.args.rows) e in
    omega (arith, s, rooms_all c.args.writers c.args.rows c.requires.some, c.loop-number.invariant.room)
