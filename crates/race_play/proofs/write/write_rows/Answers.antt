use Rattle.race_play.proofs.Writing.{on_err, wrote_alone, wrote_back}
use Rattle.race_play.proofs.write.write_rows.Goals as goal

pub returns-clause-wrote : goal.returns-clause-wrote
returns-clause-wrote g c =
    let a = c.in_ok-line.ensures in
    rw c.from_vec.ensures (wrote_back _ _ _ _ _ _ _ _ _ c.in_ok-places.ensures.wrote a.grows a.own a.room a.back)

pub returns-in_err-line-clause-broken : goal.returns-in_err-line-clause-broken
returns-in_err-line-clause-broken g c =
    let a = c.in_err-line.ensures in
    on_err c.from_residual-in_err-line.result _ (wrote_alone _ _ _ _ _ _ _ _ c.in_ok-places.ensures.wrote a.grows a.own a.room a.floor)
