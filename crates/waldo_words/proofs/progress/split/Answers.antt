use Rattle.std.proofs.Common.{◌≡◌, None, ap, arith, refl, sym}
use Rattle.text_reading.specs.Cut.{cut_at}
use Rattle.waldo_words.proofs.EqualSigns.{cut_split}
use Rattle.waldo_words.proofs.progress.split.Goals as goal

pub returns-in-None-clause-front : goal.returns-in-None-clause-front
returns-in-None-clause-front c =
    let k : cut_at 61 c.args.word.now ≡ (c.args.word.now, None) = rw c.in-None.is at (cut_split 61 c.args.word.now c.split_once.result c.split_once.ensures.cases (omega arith)) in
    rw k refl

pub returns-in-None-clause-after : goal.returns-in-None-clause-after
returns-in-None-clause-after c =
    let k : cut_at 61 c.args.word.now ≡ (c.args.word.now, None) = rw c.in-None.is at (cut_split 61 c.args.word.now c.split_once.result c.split_once.ensures.cases (omega arith)) in
    rw k refl

pub returns-in-Some-clause-front : goal.returns-in-Some-clause-front
returns-in-Some-clause-front c =
    sym (ap (λ p. p.0) (rw c.in-Some.is at (cut_split 61 c.args.word.now c.split_once.result c.split_once.ensures.cases (omega arith))))

pub returns-in-Some-clause-after : goal.returns-in-Some-clause-after
returns-in-Some-clause-after c =
    sym (ap (λ p. p.1) (rw c.in-Some.is at (cut_split 61 c.args.word.now c.split_once.result c.split_once.ensures.cases (omega arith))))
