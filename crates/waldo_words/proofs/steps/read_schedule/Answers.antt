use Rattle.std.proofs.Common.{◌≡◌, ◌∙◌, ◌+◌, ◌++◌, ◌∷◌, ◌≤◌, [], Some, arith, length, length-append, refl, sym}
use Rattle.std.proofs.lemmas.List.Elements.{All-nil, All-push}
use Rattle.std.specs.Option.{option_copied}
use Rattle.text_reading.proofs.CutLaws.{some_piece}
use Rattle.text_reading.specs.Cut.{cut_at, pieces}
use Rattle.waldo_words.specs.Legal.{IsStep}
use Rattle.waldo_words.specs.Steps.{schedule_of, step_of, steps_of}
use Rattle.waldo_words.proofs.StepLaws.{few_enough, fewer_left, good_step, none_left, onto}
use Rattle.waldo_words.proofs.steps.read_schedule.Goals as goal

pub loop-rest-init : goal.loop-rest-init
loop-rest-init c =
    let text = c.args.text.now in
    let few : length (pieces 32 text) ≤ 4096 = omega (arith, c.count_pieces-had.ensures, c.if-had-gt-MOST_STEPS.false) in
    rw c.in_ok-steps.ensures.items (record {
      reads = few_enough text few;
      some = omega (arith, some_piece 32 text);
      few = omega (arith, few);
      legal = All-nil IsStep;
    })

pub loop-rest-preserved : goal.loop-rest-preserved
loop-rest-preserved c =
    let bytes = c.in-Some.bytes.now in
    let steps = c.loop-rest.steps.items in
    let step = c.in-Some-step.step in
    let after : option_copied c.cut.result.1 ≡ (cut_at 32 bytes).1 = c.cut.ensures.after in
    let front : c.cut.result.0.now ≡ (cut_at 32 bytes).0 = c.cut.ensures.front in
    let read : step_of (cut_at 32 bytes).0 ≡ Some step = rw front at (sym c.in-Some-step.ensures.value) in
    let so_far : onto steps (steps_of (pieces 32 bytes)) ≡ schedule_of c.args.text.now = rw c.in-Some.is at c.loop-rest.invariant.reads in
    let few : length steps + length (pieces 32 bytes) ≤ 4096 = rw c.in-Some.is at c.loop-rest.invariant.few in
    let pushed : c.push.new.self.items ≡ steps ++ step ∷ [] = c.in_ok-push-in-Some-step.ensures.items in
    rw (pushed, after) (record {
      reads = good_step steps bytes step read ∙ so_far;
      some = omega (arith, length-append steps (step ∷ []));
      few = omega (arith, length-append steps (step ∷ []), fewer_left bytes, few);
      legal = All-push IsStep steps step c.loop-rest.invariant.legal c.in-Some-step.ensures.legal;
    })

pub returns-clause-exact : goal.returns-clause-exact
returns-clause-exact c =
    let steps = c.loop-rest.steps.items in
    let all : schedule_of c.args.text.now ≡ Some steps = sym (rw c.in_default.is at c.loop-rest.invariant.reads) ∙ none_left steps in
    rw (all, c.from_vec.ensures) refl
