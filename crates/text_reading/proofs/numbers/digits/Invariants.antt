use Rattle.std.proofs.Common.{◌≡◌, drop}
use Rattle.text_reading.specs.Number.{digits_of}
use Rattle.text_reading.proofs.numbers.digits.Given as goal

abbrev pub invariant-loop-b : goal.invariant-loop-b
invariant-loop-b l = digits_of l.value (drop l.b-index l.bytes) ≡ digits_of 0 l.bytes
