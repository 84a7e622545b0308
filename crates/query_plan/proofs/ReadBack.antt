-- The servers read their keys from the key messages, and the tables of the keys add up.
use Rattle.std.proofs.Common.{◌≡◌, ℕ, zero, suc, ◌+◌, ◌*◌, ◌%◌, ◌^◌, ◌<◌, ◌≤◌, List, [], ◌∷◌, ◌++◌, length, map, take, drop, get_or, refl, sym, ap, subst, ◌∙◌, arith, append_assoc, length-append}
use Rattle.std.specs.Prelude.{sum_by}
use Rattle.std.specs.List.{flat_map, range_with_len}
use Rattle.std.proofs.Math.Seq.{take-append_seam, drop-append_seam}
use Rattle.std.proofs.lemmas.List.{append-nil, drop-drop, get_or-map, get_or-take, length-map, length-take-le}
use Rattle.std.proofs.lemmas.List.FromFn.{get_or-map-range_with_len}
use Rattle.std.proofs.lemmas.List.Sums.{sum_by-cons}
use Rattle.prg_chacha.specs.declared.seed.Seed.{Seed}
use Rattle.ring128.specs.declared.party.Party.{Party}
use Rattle.ring128.specs.declared.party.Party.TheVariants.{Zero, One}
use Rattle.table_schema.specs.declared.shapes.Part.{Part}
use Rattle.table_schema.specs.declared.shapes.Shape.{Shape}
use Rattle.table_schema.specs.declared.widths.Widths.{Widths}
use Rattle.query_plan.specs.declared.key.KeyPair.{KeyPair}
use Rattle.query_plan.specs.declared.key.PredicateKey.{PredicateKey}
use Rattle.query_plan.specs.declared.query.Predicate.{Predicate}
use Rattle.query_plan.specs.declared.query.Query.{Query}
use Rattle.query_plan.specs.KeyMessages.{KeysRead, key_at, keys_read, message_length, message_words, no_pair, pair_at, pair_read, pair_words, pairs_read, part_length, parts_of, run_length, run_words}
use Rattle.query_plan.specs.Laws.{KeysAddUp, MessagesAreLong}
use Rattle.query_plan.specs.PredicateKeys.{key_of_words, table_of, words_of_key}
use Rattle.query_plan.specs.Query.{IsNext, Suits, no_predicate, part_of, predicate_at, shaped}
use Rattle.query_plan.specs.Seeds.{roots_of, weights_of}
use Rattle.query_plan.specs.Views.{IsTablePair, weight_inside}
use Rattle.query_plan.proofs.KindLaws.{AreRoots, IsReadBack, Known, kind_back, kind_pair}
use Rattle.query_plan.proofs.Legal.{if_below}
use Rattle.query_plan.proofs.OddKeys.{weight_small}

-- what stands where there is no part
abbrev none : Part
none = part_of no_predicate

-- ---- one part

-- words of the part's length, twice, from which a pair is read
record IsPairBack (bits : List ℕ) (part : Part) (words : List ℕ) (pair : KeyPair) : Type 0 where
  long : length words ≡ 2 * part_length bits part
  undone : (tail : List ℕ) → pair_read bits part (words ++ tail) ≡ pair

-- the first of two lists that stand before others, and the second
first_of : (n : ℕ) (xs ys zs : List ℕ) → length xs ≡ n → take n ((xs ++ ys) ++ zs) ≡ xs
first_of n xs ys zs e =
    ap (take n) (append_assoc xs ys zs) ∙ ap (λ (m : ℕ). take m (xs ++ (ys ++ zs))) (sym e) ∙ take-append_seam xs (ys ++ zs)

second_of : (n : ℕ) (xs ys zs : List ℕ) → length xs ≡ n → length ys ≡ n → take n (drop n ((xs ++ ys) ++ zs)) ≡ ys
second_of n xs ys zs e f =
    ap (λ (ws : List ℕ). take n (drop n ws)) (append_assoc xs ys zs)
    ∙ ap (λ (m : ℕ). take n (drop m (xs ++ (ys ++ zs)))) (sym e)
    ∙ ap (take n) (drop-append_seam xs (ys ++ zs))
    ∙ ap (λ (m : ℕ). take m (ys ++ zs)) (sym f)
    ∙ take-append_seam ys zs

pair_back : (bits : List ℕ) (part : Part) (k m : PredicateKey)
    → IsReadBack part.kind (get_or bits part.column 0) k → IsReadBack part.kind (get_or bits part.column 0) m
    → IsPairBack bits part (words_of_key k ++ words_of_key m) (record { party0 = k; party1 = m })
pair_back bits part k m p q =
    let n = part_length bits part in
    let read = key_of_words part.kind (get_or bits part.column 0) in
    record {
      long = omega (arith, length-append (words_of_key k) (words_of_key m), p.long, q.long);
      undone = λ tail.
          let ws = (words_of_key k ++ words_of_key m) ++ tail in
          let front : read (take n ws) ≡ k = ap read (first_of n (words_of_key k) (words_of_key m) tail p.long) ∙ p.undone in
          let back : read (take n (drop n ws)) ≡ m = ap read (second_of n (words_of_key k) (words_of_key m) tail p.long q.long) ∙ q.undone in
          ap (λ (u : PredicateKey). let r : KeyPair = record { party0 = u; party1 = read (take n (drop n ws)) } in r) front
          ∙ ap (λ (u : PredicateKey). let r : KeyPair = record { party0 = k; party1 = u } in r) back;
    }

-- ---- all parts of a run

-- the words g of pairs f, from place a on, for parts one after another
abbrev ArePairsBack : List ℕ → List Part → (ℕ → List ℕ) → (ℕ → KeyPair) → ℕ → Type 0
ArePairsBack bits parts g f a = (i : ℕ) → i < length parts → IsPairBack bits (get_or parts i none) (g (a + i)) (f (a + i))

here : (bits : List ℕ) (part : Part) (parts : List Part) (g : ℕ → List ℕ) (f : ℕ → KeyPair) (a : ℕ) → ArePairsBack bits (part ∷ parts) g f a
    → IsPairBack bits part (g a) (f a)
here bits part parts g f a all =
    let e : a + 0 ≡ a = omega arith in
    subst (λ (n : ℕ). IsPairBack bits part (g n) (f n)) e (all 0 (omega arith))

others : (bits : List ℕ) (part : Part) (parts : List Part) (g : ℕ → List ℕ) (f : ℕ → KeyPair) (a : ℕ) → ArePairsBack bits (part ∷ parts) g f a
    → ArePairsBack bits parts g f (a + 1)
others bits part parts g f a all i h =
    let e : a + suc i ≡ a + 1 + i = omega arith in
    subst (λ (n : ℕ). IsPairBack bits (get_or parts i none) (g n) (f n)) e (all (suc i) (omega arith))

long_run : (bits : List ℕ) (parts : List Part) (g : ℕ → List ℕ) (f : ℕ → KeyPair) (a : ℕ) → ArePairsBack bits parts g f a
    → length (flat_map g (range_with_len a (length parts))) ≡ run_length bits parts
long_run bits [] g f a all = refl
long_run bits (part ∷ parts) g f a all =
    let rest = flat_map g (range_with_len (a + 1) (length parts)) in
    let both : length (g a) + length rest ≡ 2 * sum_by (part_length bits) (part ∷ parts) =
    omega (arith, sum_by-cons (part_length bits) part parts, (here bits part parts g f a all).long, long_run bits parts g f (a + 1) (others bits part parts g f a all)) in
    length-append (g a) rest ∙ both

run_back : (bits : List ℕ) (parts : List Part) (g : ℕ → List ℕ) (f : ℕ → KeyPair) (a : ℕ) (tail : List ℕ) → ArePairsBack bits parts g f a
    → pairs_read bits parts (flat_map g (range_with_len a (length parts)) ++ tail) ≡ map f (range_with_len a (length parts))
run_back bits [] g f a tail all = refl
run_back bits (part ∷ parts) g f a tail all =
    let rest = flat_map g (range_with_len (a + 1) (length parts)) in
    let pair = here bits part parts g f a all in
    let seam : drop (2 * part_length bits part) (g a ++ (rest ++ tail)) ≡ rest ++ tail =
    ap (λ (n : ℕ). drop n (g a ++ (rest ++ tail))) (sym pair.long) ∙ drop-append_seam (g a) (rest ++ tail) in
    ap (λ (ws : List ℕ). pair_read bits part ws ∷ pairs_read bits parts (drop (2 * part_length bits part) ws)) (append_assoc (g a) rest tail)
    ∙ ap (λ (p : KeyPair). p ∷ pairs_read bits parts (drop (2 * part_length bits part) (g a ++ (rest ++ tail)))) (pair.undone (rest ++ tail))
    ∙ ap (λ (ws : List ℕ). f a ∷ pairs_read bits parts ws) seam
    ∙ ap (λ (ps : List KeyPair). f a ∷ ps) (run_back bits parts g f (a + 1) tail (others bits part parts g f a all))

-- ---- the parts of a query

length-parts : (query : Query) → length query.predicates ≡ 4 → query.count ≤ 4 → length (parts_of (shaped query)) ≡ query.count
length-parts query four few =
    length-take-le query.count (map part_of query.predicates) (omega (arith, length-map query.predicates part_of))

part_is : (query : Query) → length query.predicates ≡ 4 → query.count ≤ 4 → (j : ℕ) → j < query.count
    → get_or (parts_of (shaped query)) j none ≡ part_of (predicate_at query j)
part_is query four few j h =
    get_or-take query.count (map part_of query.predicates) j none h
    ∙ get_or-map part_of query.predicates j no_predicate none (omega arith)

-- the pair that server k has of predicate j in a run
abbrev pair_of : Query → List ℕ → Seed → ℕ → ℕ → ℕ → KeyPair
pair_of query bits seed k run j = record { party0 = key_at query bits seed Zero run j k; party1 = key_at query bits seed One run j ((k + 1) % 3) }

module _ (known : Known) (query : Query) (w : Widths) (seed : Seed) (four : length query.predicates ≡ 4) (suits : Suits w.columns w.bits query) where
  roots_are : (run j k : ℕ) → AreRoots (roots_of seed run j k)
  roots_are run j k zero h = known.seeds seed 17 (4 * run + j) (4 * k + 0)
  roots_are run j k (suc zero) h = known.seeds seed 17 (4 * run + j) (4 * k + 1)
  roots_are run j k (suc (suc zero)) h = known.seeds seed 17 (4 * run + j) (4 * k + 2)
  roots_are run j k (suc (suc (suc zero))) h = known.seeds seed 17 (4 * run + j) (4 * k + 3)
  roots_are run j k (suc (suc (suc (suc i)))) h = absurd (omega arith)

  key_back : (party : Party) (run j k : ℕ)
      → let p = predicate_at query j in IsReadBack p.kind (get_or w.bits p.column 0) (key_at query w.bits seed party run j k)
  key_back party run j k =
      let p = predicate_at query j in
      kind_back known p.kind party (get_or w.bits p.column 0) p.low p.high (weights_of seed run j) (roots_of seed run j k) (roots_are run j k)

  pairs_back : (k run : ℕ) → ArePairsBack w.bits (parts_of (shaped query)) (pair_words query w.bits seed k run) (pair_of query w.bits seed k run) 0
  pairs_back k run i h =
      let within : i < query.count = omega (arith, length-parts query four suits.few) in
      let e : i ≡ 0 + i = omega arith in
      subst (λ (n : ℕ). IsPairBack w.bits (get_or (parts_of (shaped query)) i none) (pair_words query w.bits seed k run n) (pair_of query w.bits seed k run n)) e
      (subst (λ (part : Part). IsPairBack w.bits part (pair_words query w.bits seed k run i) (pair_of query w.bits seed k run i))
      (sym (part_is query four suits.few i within))
      (pair_back w.bits (part_of (predicate_at query i)) (key_at query w.bits seed Zero run i k) (key_at query w.bits seed One run i ((k + 1) % 3))
      (key_back Zero run i k) (key_back One run i ((k + 1) % 3))))

  length-run : (k run : ℕ) → length (run_words query w.bits seed k run) ≡ run_length w.bits (parts_of (shaped query))
  length-run k run =
      subst (λ (n : ℕ). length (flat_map (pair_words query w.bits seed k run) (range_with_len 0 n)) ≡ run_length w.bits (parts_of (shaped query)))
      (length-parts query four suits.few)
      (long_run w.bits (parts_of (shaped query)) _ (pair_of query w.bits seed k run) 0 (pairs_back k run))

  run_read : (k run : ℕ) (tail : List ℕ)
      → pairs_read w.bits (parts_of (shaped query)) (run_words query w.bits seed k run ++ tail)
      ≡ map (pair_of query w.bits seed k run) (range_with_len 0 query.count)
  run_read k run tail =
      subst
      (λ (n : ℕ). pairs_read w.bits (parts_of (shaped query)) (flat_map (pair_words query w.bits seed k run) (range_with_len 0 n) ++ tail)
      ≡ map (pair_of query w.bits seed k run) (range_with_len 0 n))
      (length-parts query four suits.few)
      (run_back w.bits (parts_of (shaped query)) _ (pair_of query w.bits seed k run) 0 tail (pairs_back k run))

  pub length-message : (k : ℕ) → length (message_words query w.bits seed k) ≡ message_length (shaped query) w.bits
  length-message k =
      omega (arith, length-append (run_words query w.bits seed k 0) (run_words query w.bits seed k 1), length-run k 0, length-run k 1)

  -- the words past the first run
  past_run : (k : ℕ) → drop (4 + run_length w.bits (parts_of (shaped query))) (message_words query w.bits seed k) ≡ run_words query w.bits seed k 1
  past_run k =
      let ws = message_words query w.bits seed k in
      sym (drop-drop (run_length w.bits (parts_of (shaped query))) 4 ws)
      ∙ ap (λ (n : ℕ). drop n (run_words query w.bits seed k 0 ++ run_words query w.bits seed k 1)) (sym (length-run k 0))
      ∙ drop-append_seam (run_words query w.bits seed k 0) (run_words query w.bits seed k 1)

  abbrev read : ℕ → KeysRead
  read k = keys_read (shaped query) w.bits (message_words query w.bits seed k)

  pair_is : (k run j : ℕ) → run < 2 → j < query.count → pair_at (read k) run j ≡ pair_of query w.bits seed k run j
  pair_is k zero j h i =
      ap (λ (ps : List KeyPair). get_or ps j no_pair) (run_read k 0 (run_words query w.bits seed k 1))
      ∙ get_or-map-range_with_len (pair_of query w.bits seed k 0) 0 query.count j j no_pair i (omega arith)
  pair_is k (suc zero) j h i =
      ap (λ (ws : List ℕ). get_or (pairs_read w.bits (parts_of (shaped query)) ws) j no_pair) (past_run k ∙ sym (append-nil (run_words query w.bits seed k 1)))
      ∙ ap (λ (ps : List KeyPair). get_or ps j no_pair) (run_read k 1 [])
      ∙ get_or-map-range_with_len (pair_of query w.bits seed k 1) 0 query.count j j no_pair i (omega arith)
  pair_is k (suc (suc run)) j h i = absurd (omega arith)

  -- a predicate of the query is legal
  legal_at : (j : ℕ) → j < query.count → IsNext w.columns w.bits (take j query.predicates) (predicate_at query j)
  legal_at j h = let few = suits.few in if_below w.columns w.bits query j h (suits.placed j (omega arith))

  -- the tables of both keys for a share
  made_pair : (run j k : ℕ) → j < query.count
      → let p = predicate_at query j in
      IsTablePair (2 ^ get_or w.bits p.column 0) (table_of Zero (key_at query w.bits seed Zero run j k)) (table_of One (key_at query w.bits seed One run j k))
      (weight_inside p (weights_of seed run j))
  made_pair run j k h =
      let p = predicate_at query j in
      let legal = (legal_at j h).legal in
      kind_pair known p.kind (get_or w.bits p.column 0) p.low p.high (weights_of seed run j) (roots_of seed run j k) (roots_are run j k)
      legal.kind legal.high (weight_small seed run j)

  -- and as they are read
  pub read_pair : (run j k : ℕ) → run < 2 → j < query.count
      → let p = predicate_at query j in
      IsTablePair (2 ^ get_or w.bits p.column 0) (table_of Zero (pair_at (read ((k + 1) % 3)) run j).party0) (table_of One (pair_at (read k) run j).party1)
      (weight_inside p (weights_of seed run j))
  read_pair run j k h i =
      let p = predicate_at query j in
      let next = (k + 1) % 3 in
      subst
      (λ (x : KeyPair). IsTablePair (2 ^ get_or w.bits p.column 0) (table_of Zero x.party0) (table_of One (pair_at (read k) run j).party1) (weight_inside p (weights_of seed run j)))
      (sym (pair_is next run j h i))
      (subst
      (λ (x : KeyPair). IsTablePair (2 ^ get_or w.bits p.column 0) (table_of Zero (key_at query w.bits seed Zero run j next)) (table_of One x.party1) (weight_inside p (weights_of seed run j)))
      (sym (pair_is k run j h i))
      (made_pair run j next i))

pub messages_are_long : Known → MessagesAreLong
messages_are_long known query w seed k four suits = length-message known query w seed four suits k

pub keys_add_up : Known → KeysAddUp
keys_add_up known query w seed four widths suits = record {
  seeds = λ k h. refl;
  pairs = λ run j k h i l. read_pair known query w seed four suits run j k h i;
}
