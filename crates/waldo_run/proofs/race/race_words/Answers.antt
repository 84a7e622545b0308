use Rattle.std.proofs.Common.{inl, refl, rules}
use Rattle.std.proofs.lemmas.Result.{IfOk-weaker}
use Rattle.visit_trace.specs.Growing.{grew_nothing}
use Rattle.visit_trace.specs.Seen.{Grew}
use Rattle.waldo_run.proofs.Begun.{on_err, refused_words}
use Rattle.waldo_run.proofs.Racing.{none_carried, only_race, words_refused}
use Rattle.waldo_run.proofs.race.race_words.Goals as goal

pub race_command-requires-clause-racing : goal.race_command-requires-clause-racing
race_command-requires-clause-racing g c κs within = only_race _ c.in-Ok.command c.requires.begins c.in-Ok.ensures.exact

pub returns-in-Ok-clause-raced : goal.returns-in-Ok-clause-raced
returns-in-Ok-clause-raced g c = rw c.in-Ok.ensures.exact c.race_command.ensures.raced

pub returns-in-Ok-clause-carried : goal.returns-in-Ok-clause-carried
returns-in-Ok-clause-carried g c = rw c.in-Ok.ensures.exact c.race_command.ensures.carried

pub returns-in-Err-clause-carried : goal.returns-in-Err-clause-carried
returns-in-Err-clause-carried g c = none_carried _ _ _ refl

pub returns-in-Err-clause-raced : goal.returns-in-Err-clause-raced
returns-in-Err-clause-raced g c =
    IfOk-weaker c.refused_words.result _ _
    (λ reply e. words_refused _ (Grew c.args.trace.now c.args.trace.now) refl (grew_nothing c.args.trace.now) _ _ c.in-Err.fault reply (refused_words _ _ e.1 c.in-Err.ensures.exact) (search rules) e.0)
    c.refused_words.ensures

pub returns-in-Ok-clause-trace_first : goal.returns-in-Ok-clause-trace_first
returns-in-Ok-clause-trace_first g c = rw c.in-Ok.ensures.exact c.race_command.ensures.trace_first

pub returns-in-Err-clause-trace_first : goal.returns-in-Err-clause-trace_first
returns-in-Err-clause-trace_first g c = on_err _ _ (inl refl)
