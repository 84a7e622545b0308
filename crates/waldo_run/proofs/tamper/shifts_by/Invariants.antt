use Rattle.std.proofs.Common.{◌≡◌, map, take}
use Rattle.waldo_run.specs.Tampered.{shift_by}
use Rattle.waldo_run.proofs.tamper.shifts_by.Given as goal

abbrev pub invariant-loop-word : goal.invariant-loop-word
invariant-loop-word l = l.shifts ≡ map (shift_by l.key) (take l.word-index l.words)
