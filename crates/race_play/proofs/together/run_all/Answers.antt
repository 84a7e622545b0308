use Rattle.std.proofs.Common.{◌≡◌, ◌∙◌, ℕ, ◌<◌, List, sym, ap, subst, length, get_or}
use Rattle.race_play.specs.Jobs.{AreNumbered}
use Rattle.race_play.specs.declared.jobs.WriterJob.{WriterJob}
use Rattle.race_play.proofs.Splitting.{numbered_same, whole_slice}
use Rattle.race_play.proofs.together.run_all.Goals as goal

pub returns-clause-numbered : goal.returns-clause-numbered
returns-clause-numbered g c n =
    let items = c.args.jobs.now.items in
    let new = c.run_writers.new.jobs in
    let value = c.as_mut_slice.ensures.value in
    let long = c.run_writers.ensures.long ∙ ap length value in
    let same = subst (λ (l : List WriterJob). (i : ℕ) (d : WriterJob) → i < length l → (get_or new i d).number ≡ (get_or l i d).number) value c.run_writers.ensures.numbers in
    subst (λ (l : List WriterJob). AreNumbered 0 l) (sym (whole_slice items new c.args.jobs.now.len long c.args.jobs.now.ok.0)) (numbered_same 0 items new long same n)
