-- Seeds and levels are read back from their words.
use Rattle.std.proofs.Common.{◌≡◌, ℕ, zero, suc, ◌+◌, ◌-◌, ◌/◌, ◌%◌, ◌^◌, ◌<◌, Bool, true, false, [], ◌∷◌, get_or, refl, ap, arith}
use Rattle.std.proofs.lemmas.Nat.{mod_below, xor_lt}
use Rattle.rand_chacha.specs.Block.{block_word}
use Rattle.prg_chacha.specs.declared.seed.Seed.{Seed}
use Rattle.prg_chacha.specs.declared.side.Side.{Side}
use Rattle.prg_chacha.specs.Prg.{word, child_place, child_of, derive_of, eight_at, xor_of, low_of, high_of, from_halves_of, joined, words_of, stream_of}
use Rattle.prg_chacha.proofs.Keys.{eight_items}
use Rattle.prg_chacha.proofs.Seeds.{halves_same}
use Rattle.ring128.specs.declared.party.Party.{Party}
use Rattle.ring128.specs.declared.party.Party.TheVariants.{Zero, One}
use Rattle.key_tree.specs.declared.level.Level.{Level}
use Rattle.key_tree.specs.declared.node.Node.{Node}
use Rattle.key_tree.specs.KeyWords.{level_words, level_read}
use Rattle.key_tree.specs.Seeds.{IsSeed, DerivedAreSeeds}
use Rattle.key_tree.specs.Tree.{level_between, other, root_for}

eight_small : (a b c d e f g h : ℕ)
    → a < 2 ^ 32 → b < 2 ^ 32 → c < 2 ^ 32 → d < 2 ^ 32 → e < 2 ^ 32 → f < 2 ^ 32 → g < 2 ^ 32 → h < 2 ^ 32
    → (i : ℕ) → get_or (a ∷ b ∷ c ∷ d ∷ e ∷ f ∷ g ∷ h ∷ []) i 0 < 2 ^ 32
eight_small a b c d e f g h p q r s t u v w zero = p
eight_small a b c d e f g h p q r s t u v w (suc zero) = q
eight_small a b c d e f g h p q r s t u v w (suc (suc zero)) = r
eight_small a b c d e f g h p q r s t u v w (suc (suc (suc zero))) = s
eight_small a b c d e f g h p q r s t u v w (suc (suc (suc (suc zero)))) = t
eight_small a b c d e f g h p q r s t u v w (suc (suc (suc (suc (suc zero))))) = u
eight_small a b c d e f g h p q r s t u v w (suc (suc (suc (suc (suc (suc zero)))))) = v
eight_small a b c d e f g h p q r s t u v w (suc (suc (suc (suc (suc (suc (suc zero))))))) = w
eight_small a b c d e f g h p q r s t u v w (suc (suc (suc (suc (suc (suc (suc (suc i)))))))) = omega arith

word_small : (s : Seed) (stream place : ℕ) → word s stream place < 2 ^ 32
unfolding block_word
word_small s stream place = mod_below _ (2 ^ 32) (omega arith)

evened : (w : ℕ) → w < 2 ^ 32 → w - w % 2 < 2 ^ 32
evened w h = omega arith

child_is_seed : (s : Seed) (side : Side) → IsSeed (child_of s side)
unfolding child_of eight_at
child_is_seed s side =
    let small = λ (i : ℕ). word_small s 0 (child_place side + i) in
    record {
      long = refl;
      small = eight_small _ _ _ _ _ _ _ _ (evened _ (word_small s 0 (child_place side))) (small 1) (small 2) (small 3) (small 4) (small 5) (small 6) (small 7);
    }

pub derived_are_seeds : DerivedAreSeeds
unfolding derive_of eight_at
derived_are_seeds s kind a b =
    let small = λ (i : ℕ). word_small s (stream_of kind a b) (0 + i) in
    record { long = refl; small = eight_small _ _ _ _ _ _ _ _ (word_small s (stream_of kind a b) 0) (small 1) (small 2) (small 3) (small 4) (small 5) (small 6) (small 7) }

xor_is_seed : (s t : Seed) → IsSeed s → IsSeed t → IsSeed (xor_of s t)
unfolding xor_of
xor_is_seed s t p q =
    let small = λ (i : ℕ). xor_lt 32 (get_or s.words i 0) (get_or t.words i 0) (p.small i) (q.small i) in
    record { long = refl; small = eight_small _ _ _ _ _ _ _ _ (small 0) (small 1) (small 2) (small 3) (small 4) (small 5) (small 6) (small 7) }

four_back : (a b c d : ℕ) → a < 2 ^ 32 → b < 2 ^ 32 → c < 2 ^ 32 → d < 2 ^ 32 → words_of (joined a b c d) ≡ a ∷ b ∷ c ∷ d ∷ []
four_back a b c d p q r s =
    let n = joined a b c d in
    let e : n % 2 ^ 32 ≡ a = omega arith in
    let f : n / 2 ^ 32 % 2 ^ 32 ≡ b = omega arith in
    let g : n / 2 ^ 64 % 2 ^ 32 ≡ c = omega arith in
    let h : n / 2 ^ 96 % 2 ^ 32 ≡ d = omega arith in
    rw (e, f, g, h) refl

pub seed_back : (s : Seed) → IsSeed s → from_halves_of (low_of s) (high_of s) ≡ s
seed_back s is =
    let at = λ (i : ℕ). get_or s.words i 0 in
    halves_same s (low_of s) (high_of s) (at 0) (at 1) (at 2) (at 3) (at 4) (at 5) (at 6) (at 7)
    (four_back (at 0) (at 1) (at 2) (at 3) (is.small 0) (is.small 1) (is.small 2) (is.small 3))
    (four_back (at 4) (at 5) (at 6) (at 7) (is.small 4) (is.small 5) (is.small 6) (is.small 7))
    (eight_items s.words is.long)

abbrev level : Seed → Bool → Bool → Level
level s l r = record { seed = s; left = l; right = r }

parts_back : (s : Seed) (l r : Bool) → IsSeed s → level_read (level_words (level s l r)) ≡ level s l r
parts_back s true true is = ap (λ (t : Seed). level t true true) (seed_back s is)
parts_back s true false is = ap (λ (t : Seed). level t true false) (seed_back s is)
parts_back s false true is = ap (λ (t : Seed). level t false true) (seed_back s is)
parts_back s false false is = ap (λ (t : Seed). level t false false) (seed_back s is)

pub level_back : (l : Level) → IsSeed l.seed → level_read (level_words l) ≡ l
level_back l is = parts_back l.seed l.left l.right is

-- the level between two nodes has a seed that is read back
pub between_is_seed : (keep : Side) (n m : Node) → IsSeed (level_between keep n m).seed
unfolding level_between
between_is_seed keep n m = xor_is_seed _ _ (child_is_seed n.seed (other keep)) (child_is_seed m.seed (other keep))

pub root_is_seed : (party : Party) (r s : Seed) → IsSeed r → IsSeed s → IsSeed (root_for party r s)
root_is_seed Zero r s p q = p
root_is_seed One r s p q = q
