use Rattle.std.proofs.Common.{◌≡◌, ◌<◌, ◌^◌, drop}
use Rattle.waldo_words.specs.Values.{wide_digits_of}
use Rattle.waldo_words.proofs.numbers.wide_digits.Given as goal

abbrev pub invariant-loop-b : goal.invariant-loop-b
invariant-loop-b l = record {
  reads : wide_digits_of l.value (drop l.b-index l.text) ≡ wide_digits_of 0 l.text;
  small : l.value < 2 ^ 128;
}
