use Rattle.std.proofs.Common.{◌≡◌, ◌+◌, drop, map}
use Rattle.std.specs.Prelude.{string_bytes}
use Rattle.waldo_words.specs.Words.{to_word}
use Rattle.waldo_words.proofs.finish.to_word.Given as goal

-- the word is looked for among those that are left
abbrev pub invariant-loop-i : goal.invariant-loop-i
invariant-loop-i l = to_word (l.i + 2) (map string_bytes (drop l.i l.words)) ≡ to_word 2 (map string_bytes l.words)
