use Rattle.std.proofs.Common.{◌≡◌, ◌<◌, ◌≤◌, ◌∷◌, ◌++◌, ℕ, List, length, sym, ap, subst, ◌∙◌, arith}
use Rattle.key_tree.specs.Keys.{Key}
use Rattle.key_tree.specs.KeyWords.{key_words, key_read}
use Rattle.key_tree.proofs.Reading.{written_more, all_more, written_whole, written_back, length-key_words}
use Rattle.key_tree.proofs.key_words.to_words.Given.{Over}
use Rattle.key_tree.proofs.key_words.to_words.Goals as goal

pub loop-level-preserved : goal.loop-level-preserved
loop-level-preserved g c =
    let items = c.deref-level-items.result.now in
    let below : c.loop-level.level-index < length items = omega arith in
    record {
      words =
          c.in_ok-push_words.ensures.pushed
          ∙ ap (λ (xs : List ℕ). xs ++ g.L.KeyLevel.words c.level-item.result) c.loop-level.invariant.words
          ∙ ap (λ (xs : List ℕ). c.halves-low.result.0 ∷ c.halves-low.result.1 ∷ xs)
          (sym (written_more g.L.KeyLevel.words items c.loop-level.level-index c.level-item.result below c.level-item.is));
      undone = all_more (λ v. g.L.KeyLevel.read (g.L.KeyLevel.words v) ≡ v) items c.loop-level.level-index c.level-item.result below c.level-item.is
          c.loop-level.invariant.undone c.push_words.ensures.undone;
    }

-- what was written is the words of the key
written : (g : Over) (c : goal.After-from_vec g)
    → c.from_vec.result ≡ key_words g.L.KeyLevel.words (record { root = c.key.inside.root; levels = c.key.inside.levels.items; last = c.key.inside.last })
written g c =
    let items = c.deref-level-items.result.now in
    let all : length items ≤ c.loop-level.level-index = omega arith in
    c.from_vec.ensures
    ∙ written_whole g.L.KeyLevel.words c.key.inside.root c.key.inside.levels.items items c.key.inside.last c.halves-low.result.0 c.halves-low.result.1 c.loop-level.level-index
    c.loop-level.words.items c.push-3.new.self.items c.in_ok-push-3.ensures.items c.loop-level.invariant.words all c.deref-level-items.ensures.value
    c.halves-low.ensures.low c.halves-low.ensures.high

pub returns-clause-words : goal.returns-clause-words
returns-clause-words g c = written g c ∙ ap (key_words g.L.KeyLevel.words) c.key.view_is

pub returns-clause-length : goal.returns-clause-length
returns-clause-length g c =
    ap length (written g c ∙ ap (key_words g.L.KeyLevel.words) c.key.view_is)
    ∙ length-key_words g.L.KeyLevel.words g.L.KeyLevel.WIDTH c.args.key.now g.met.L.KeyLevel.long

pub returns-clause-undone : goal.returns-clause-undone
returns-clause-undone g c =
    let items = c.deref-level-items.result.now in
    let all : length items ≤ c.loop-level.level-index = omega arith in
    subst (λ (k : Key g.row.L.Denot). key_read g.L.KeyLevel.read g.L.KeyLevel.WIDTH (length k.levels) c.from_vec.result ≡ k) c.key.view_is
    (written_back g.L.KeyLevel.words g.L.KeyLevel.read g.L.KeyLevel.WIDTH c.key.inside.root c.key.inside.levels.items items c.key.inside.last
    c.halves-low.result.0 c.halves-low.result.1 c.loop-level.level-index c.from_vec.result (written g c)
    g.met.L.KeyLevel.long c.loop-level.invariant.undone all c.deref-level-items.ensures.value
    c.halves-low.ensures.low c.halves-low.ensures.high c.halves-low.ensures.undone)
