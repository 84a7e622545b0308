-- Point keys are read back from their words.
use Rattle.std.proofs.Common.{◌≡◌, ℕ, zero, suc, ◌+◌, ◌*◌, All, refl, ap, subst, ◌∙◌}
use Rattle.std.proofs.lemmas.List.Elements.{All-cons, All-nil}
use Rattle.ring128.specs.declared.party.Party.TheVariants.{Zero, One}
use Rattle.key_tree.specs.KeyWords.{key_words, key_read, level_words, level_read}
use Rattle.key_tree.specs.Tree.{root_for, side_at, level_between, start}
use Rattle.key_tree.specs.declared.level.Level.{Level}
use Rattle.key_tree.specs.declared.node.Node.{Node}
use Rattle.key_tree.proofs.Halves.{between_is_seed, level_back, root_is_seed, seed_back}
use Rattle.key_tree.proofs.Reading.{key_back, length-key_words}
use Rattle.point_keys.specs.Laws.{KeysAddUp, WordsReadBack}
use Rattle.point_keys.specs.Points.{levels_of, point_key}
use Rattle.point_keys.proofs.Sums.{length-levels_of, point_keys_add_up}

pub keys_add_up : KeysAddUp
keys_add_up bits a weight r s h w x i = point_keys_add_up bits a weight x r s h i w

-- what is read from a level's words is the level
abbrev IsBack : Level → Type 0
IsBack l = level_read (level_words l) ≡ l

levels_back : (k a : ℕ) (n m : Node) → All IsBack (levels_of k a n m)
levels_back zero a n m = All-nil IsBack
levels_back (suc k) a n m =
    let l = level_between (side_at a k) n m in
    All-cons IsBack l _ (level_back l (between_is_seed (side_at a k) n m)) (levels_back k a _ _)

pub words_read_back : WordsReadBack
words_read_back party bits a weight r s p q =
    let k = point_key party bits a weight r s in
    let e = length-levels_of bits a (start Zero r) (start One s) in
    record {
      levels = e;
      long = length-key_words level_words 3 k (λ l. refl) ∙ ap (λ (n : ℕ). 3 + 3 * n) e;
      undone =
          subst (λ (n : ℕ). key_read level_read 3 n (key_words level_words k) ≡ k) e
          (key_back level_words level_read 3 k (λ l. refl) (levels_back bits a (start Zero r) (start One s))
          (seed_back (root_for party r s) (root_is_seed party r s p q)));
    }
