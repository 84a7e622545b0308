use Rattle.std.proofs.Common.{◌≡◌, ◌∷◌, take, All}
use Rattle.std.specs.List.{flat_map}
use Rattle.key_tree.proofs.key_words.to_words.Given as goal

abbrev pub invariant-loop-level : goal.invariant-loop-level
invariant-loop-level g l = record {
  words : l.words.items ≡ l.low ∷ l.high ∷ flat_map g.L.KeyLevel.words (take l.level-index l.level-items);
  undone : All (λ v. g.L.KeyLevel.read (g.L.KeyLevel.words v) ≡ v) (take l.level-index l.level-items);
}
