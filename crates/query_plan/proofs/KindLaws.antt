-- Keys of a predicate of any kind: they are read back from their words, and their tables add up.
use Rattle.std.proofs.Common.{◌≡◌, ℕ, zero, suc, ◌^◌, ◌<◌, ◌≤◌, Bool, true, false, cond, leb, ◌&&◌, ◌==◌, List, length, refl, sym, ap, ◌∙◌, arith}
use Rattle.std.proofs.lemmas.Bool.{le-leb}
use Rattle.std.proofs.lemmas.Bool.Decides.{nat_tests}
use Rattle.list_facts.specs.Listed.{listed}
use Rattle.list_facts.proofs.Listed.{length-listed, listed_same}
use Rattle.prg_chacha.specs.declared.seed.Seed.{Seed}
use Rattle.ring128.specs.Laws.{IsKeyPair}
use Rattle.ring128.specs.Ring.{sums}
use Rattle.ring128.specs.declared.party.Party.{Party}
use Rattle.ring128.specs.declared.party.Party.TheVariants.{Zero, One}
use Rattle.ring128.proofs.Laws.{sums-listed}
use Rattle.key_tree.specs.Seeds.{IsSeed, DerivedAreSeeds}
use Rattle.point_keys.specs.Laws as points
use Rattle.point_keys.specs.Points.{point_at}
use Rattle.compare_keys.specs.Laws as compares
use Rattle.compare_keys.specs.Compares.{at_most}
use Rattle.interval_keys.specs.Laws as intervals
use Rattle.interval_keys.specs.Intervals.{inside, root_at}
use Rattle.table_schema.specs.declared.shapes.Kind.{Kind}
use Rattle.table_schema.specs.declared.shapes.Kind.TheVariants as kinds
use Rattle.query_plan.specs.declared.key.PredicateKey.{PredicateKey}
use Rattle.query_plan.specs.declared.key.PredicateKey.TheVariants as keys
use Rattle.query_plan.specs.PredicateKeys.{bits_of, key_of_kind, key_of_words, length_of, table_of, words_of_key}
use Rattle.query_plan.specs.Query.{IsKind}
use Rattle.query_plan.specs.Views.{IsTablePair}

-- what the keys of each kind do, and that drawn seeds are seeds
pub record Known : Type 0 where
  pub seeds : DerivedAreSeeds
  pub point_sums : points.KeysAddUp
  pub point_words : points.WordsReadBack
  pub compare_sums : compares.KeysAddUp
  pub compare_words : compares.WordsReadBack
  pub interval_sums : intervals.KeysAddUp
  pub interval_words : intervals.WordsReadBack

-- a key of a kind over `bits` bits that its words give again
pub record IsReadBack (kind : Kind) (bits : ℕ) (k : PredicateKey) : Type 0 where
  pub levels : bits_of k ≡ bits
  pub long : length (words_of_key k) ≡ length_of kind bits
  pub undone : key_of_words kind bits (words_of_key k) ≡ k

-- four roots that are seeds
abbrev pub AreRoots : List Seed → Type 0
AreRoots roots = (i : ℕ) → i < 4 → IsSeed (root_at roots i)

pub kind_back : Known → (kind : Kind) (party : Party) (bits low high weight : ℕ) (roots : List Seed) → AreRoots roots
    → IsReadBack kind bits (key_of_kind kind party bits low high weight roots)
kind_back known kinds.Point party bits low high weight roots are =
    let b = known.point_words party bits low weight (root_at roots 0) (root_at roots 1) (are 0 (omega arith)) (are 1 (omega arith)) in
    record { levels = b.levels; long = b.long; undone = ap keys.Point b.undone }
kind_back known kinds.AtMost party bits low high weight roots are =
    let b = known.compare_words party bits high weight (root_at roots 0) (root_at roots 1) (are 0 (omega arith)) (are 1 (omega arith)) in
    record { levels = b.levels; long = b.long; undone = ap keys.AtMost b.undone }
kind_back known kinds.Interval party bits low high weight roots are =
    let b = known.interval_words party bits low high weight roots are in
    record { levels = b.levels; long = b.long; undone = ap keys.Interval b.undone }

-- two tables of `bits` bits whose values add up
listed_pair : (bits m n : ℕ) (f g h whole : ℕ → ℕ) → m ≡ bits → n ≡ bits → IsKeyPair bits f g h → ((x : ℕ) → h x ≡ whole x)
    → IsTablePair (2 ^ bits) (listed (2 ^ m) f) (listed (2 ^ n) g) whole
listed_pair bits m n f g h whole d e pair same = record {
  long0 = length-listed (2 ^ m) f ∙ ap (λ (k : ℕ). 2 ^ k) d;
  long1 = length-listed (2 ^ n) g ∙ ap (λ (k : ℕ). 2 ^ k) e;
  adds_up =
      ap (λ (k : ℕ). sums (listed (2 ^ k) f) (listed (2 ^ n) g)) d
      ∙ ap (λ (k : ℕ). sums (listed (2 ^ bits) f) (listed (2 ^ k) g)) e
      ∙ sums-listed (2 ^ bits) f g
      ∙ listed_same (2 ^ bits) _ _ (λ x b. pair x b ∙ same x);
}

point_inside : (low high weight x : ℕ) → low ≡ high → point_at low weight x ≡ inside low high weight x
point_inside low high weight x e = grind (arith, nat_tests)

at_most_inside : (low high weight x : ℕ) → low ≡ 0 → at_most high weight x ≡ inside low high weight x
at_most_inside low high weight x e = grind (arith, nat_tests)

pub kind_pair : Known → (kind : Kind) (bits low high weight : ℕ) (roots : List Seed) → AreRoots roots → IsKind kind low high → high < 2 ^ bits
    → weight < 2 ^ 128
    → IsTablePair (2 ^ bits) (table_of Zero (key_of_kind kind Zero bits low high weight roots)) (table_of One (key_of_kind kind One bits low high weight roots))
    (inside low high weight)
kind_pair known kinds.Point bits low high weight roots are is h w =
    let levels = λ (party : Party). (kind_back known kinds.Point party bits low high weight roots are).levels in
    listed_pair bits _ _ _ _ (point_at low weight) (inside low high weight) (levels Zero) (levels One)
    (known.point_sums bits low weight (root_at roots 0) (root_at roots 1) (omega arith) w) (λ x. point_inside low high weight x is)
kind_pair known kinds.AtMost bits low high weight roots are is h w =
    let levels = λ (party : Party). (kind_back known kinds.AtMost party bits low high weight roots are).levels in
    listed_pair bits _ _ _ _ (at_most high weight) (inside low high weight) (levels Zero) (levels One)
    (known.compare_sums bits high weight (root_at roots 0) (root_at roots 1) h w) (λ x. at_most_inside low high weight x is)
kind_pair known kinds.Interval bits low high weight roots are is h w =
    let levels = λ (party : Party). (kind_back known kinds.Interval party bits low high weight roots are).levels in
    listed_pair bits _ _ _ _ (inside low high weight) (inside low high weight) (levels Zero) (levels One)
    (known.interval_sums bits low high weight roots is h w) (λ x. refl)
