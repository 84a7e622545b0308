use Rattle.race_play.proofs.Gathering.{taken_ended, taken_own}
use Rattle.race_play.proofs.gather.take_in.Goals as goal

pub returns-clause-all : goal.returns-clause-all
returns-clause-all c =
    let e = rw (← c.into_vec.ensures) at rw c.in-Some.is at c.requires.done.ended in
    let all = c.requires.all in
    record {
      own = taken_own (λ v. v.items) c.args.rows.now c.args.master.now c.args.writers _ _ _ _ _ _ _ _ _ _ c.gather.ensures.gathered c.in_ok-push.ensures.items c.in_ok-push-2.ensures.items e all.own;
      ended = taken_ended (λ v. v.items) c.args.rows.now c.args.master.now c.args.writers _ _ _ _ _ _ _ _ _ _ c.gather.ensures.gathered c.in_ok-push.ensures.items c.in_ok-push-2.ensures.items e c.requires.number c.gather.ensures.grows.0 c.gather.ensures.grows.1 all.ended;
    }
