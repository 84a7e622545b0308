use Rattle.std.proofs.Common.{sym}
use Rattle.race_play.proofs.Writing.{back_err, on_err}
use Rattle.race_play.proofs.write.agree_back.Goals as goal

pub returns-in_err-line-clause-floor : goal.returns-in_err-line-clause-floor
returns-in_err-line-clause-floor g c =
    on_err c.from_residual.result _ (back_err c.args.writer c.agree.result _ _ c.agree.ensures.floor (sym c.in_err-line.ensures))
