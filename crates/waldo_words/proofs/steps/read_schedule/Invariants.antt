use Rattle.std.proofs.Common.{◌≡◌, ◌+◌, ◌≤◌, length, All}
use Rattle.std.specs.Option.{option_copied}
use Rattle.text_reading.specs.Cut.{pieces_left}
use Rattle.waldo_words.specs.Legal.{IsStep}
use Rattle.waldo_words.specs.Steps.{schedule_of, steps_of}
use Rattle.waldo_words.proofs.StepLaws.{onto}
use Rattle.waldo_words.proofs.steps.read_schedule.Given as goal

-- the steps so far and those of the tokens that are left are the schedule
abbrev pub invariant-loop-rest : goal.invariant-loop-rest
invariant-loop-rest l = record {
  reads : onto l.steps.items (steps_of (pieces_left 32 (option_copied l.rest))) ≡ schedule_of l.text;
  some : 1 ≤ length l.steps.items + length (pieces_left 32 (option_copied l.rest));
  few : length l.steps.items + length (pieces_left 32 (option_copied l.rest)) ≤ 4096;
  legal : All IsStep l.steps.items;
}

abbrev pub decreases-loop-rest : goal.decreases-loop-rest
decreases-loop-rest l = length (pieces_left 32 (option_copied l.rest))
