-- Comparison keys are read back from their words.
use Rattle.std.proofs.Common.{◌≡◌, ℕ, zero, suc, ◌+◌, ◌*◌, All, refl, ap, subst, ◌∙◌}
use Rattle.std.proofs.lemmas.List.Elements.{All-cons, All-nil}
use Rattle.ring128.specs.declared.party.Party.TheVariants.{Zero, One}
use Rattle.key_tree.specs.KeyWords.{key_words, key_read}
use Rattle.key_tree.specs.Seeds.{IsSeed}
use Rattle.key_tree.specs.Tree.{root_for, side_at, start}
use Rattle.key_tree.specs.declared.level.Level.{Level}
use Rattle.key_tree.specs.declared.node.Node.{Node}
use Rattle.key_tree.proofs.Halves.{between_is_seed, level_back, root_is_seed, seed_back}
use Rattle.key_tree.proofs.Reading.{key_back, length-key_words}
use Rattle.compare_keys.specs.declared.level.CompareLevel.{CompareLevel}
use Rattle.compare_keys.specs.Compares.{compare_key}
use Rattle.compare_keys.specs.CompareWords.{level_words, level_read}
use Rattle.compare_keys.specs.Generated.{compare_level, levels_of}
use Rattle.compare_keys.specs.Laws.{KeysAddUp, WordsReadBack}
use Rattle.compare_keys.proofs.Sums.{length-levels_of, compare_keys_add_up}

pub keys_add_up : KeysAddUp
keys_add_up bits a weight r s h w x i = compare_keys_add_up bits a weight x r s h i w

-- what is read from a level's words is the level
abbrev IsBack : CompareLevel → Type 0
IsBack l = level_read (level_words l) ≡ l

one_back : (l : CompareLevel) → IsSeed l.level.seed → IsBack l
one_back l is = ap (λ (t : Level). let c : CompareLevel = record { level = t; value = l.value } in c) (level_back l.level is)

levels_back : (weight k a total : ℕ) (n m : Node) → All IsBack (levels_of weight k a total n m)
levels_back weight zero a total n m = All-nil IsBack
levels_back weight (suc k) a total n m =
    let l = compare_level weight (side_at a k) total n m in
    All-cons IsBack l _ (one_back l (between_is_seed (side_at a k) n m)) (levels_back weight k a _ _ _)

pub words_read_back : WordsReadBack
words_read_back party bits a weight r s p q =
    let k = compare_key party bits a weight r s in
    let e = length-levels_of weight bits a 0 (start Zero r) (start One s) in
    record {
      levels = e;
      long = length-key_words level_words 4 k (λ l. refl) ∙ ap (λ (n : ℕ). 3 + 4 * n) e;
      undone =
          subst (λ (n : ℕ). key_read level_read 4 n (key_words level_words k) ≡ k) e
          (key_back level_words level_read 4 k (λ l. refl) (levels_back weight bits a 0 (start Zero r) (start One s))
          (seed_back (root_for party r s) (root_is_seed party r s p q)));
    }
