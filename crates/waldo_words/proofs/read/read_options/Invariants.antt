use Rattle.std.proofs.Common.{◌≡◌, ◌+◌, drop, map}
use Rattle.std.specs.Prelude.{string_bytes}
use Rattle.waldo_words.specs.Legal.{IsProgress}
use Rattle.waldo_words.specs.Words.{beginning, options_from}
use Rattle.waldo_words.proofs.read.read_options.Given as goal

-- the options of the words that are left, behind those so far, are the options of all
abbrev pub invariant-loop-i : goal.invariant-loop-i
invariant-loop-i l = record {
  same : options_from l.command l.schema (l.i + 2) l.progress (map string_bytes (drop l.i l.words)) ≡ options_from l.command l.schema 2 beginning (map string_bytes l.words);
  legal : IsProgress l.command l.schema l.progress;
}
