use Rattle.std.proofs.Common.{rules}
use Rattle.std.proofs.lemmas.Result.{IfOk-weaker}
use Rattle.waldo_run.proofs.Begun.{nothing_breaks, on_err, refused_replies, refused_words}
use Rattle.waldo_run.proofs.Growing.{refused_sees}
use Rattle.waldo_run.proofs.Tampering.{still_carried}
use Rattle.waldo_run.proofs.still.reply_in.Goals as goal

pub returns-in-Err-clause-reply : goal.returns-in-Err-clause-reply
returns-in-Err-clause-reply g c =
    let none = still_carried g.W.Wire.sight g.met.W.Wire.none_passes _ c.args.wires.now.items in
    IfOk-weaker c.refused_words.result _ _
    (λ reply e. refused_replies _ _ _ _ _ reply (refused_words _ _ e.1 c.in-Err.ensures.exact) (search rules) none e.0) c.refused_words.ensures

pub returns-in-Err-clause-memory : goal.returns-in-Err-clause-memory
returns-in-Err-clause-memory g c =
    on_err c.refused_words.result _ (nothing_breaks _ _ _ (still_carried g.W.Wire.sight g.met.W.Wire.none_passes _ c.args.wires.now.items))

pub returns-in-Err-clause-trace : goal.returns-in-Err-clause-trace
returns-in-Err-clause-trace g c =
    refused_sees _ _ c.args.trace.now c.refused_words.result
    (IfOk-weaker c.refused_words.result _ _ (λ reply e. (c.in-Err.fault, refused_words _ _ e.1 c.in-Err.ensures.exact)) c.refused_words.ensures)
