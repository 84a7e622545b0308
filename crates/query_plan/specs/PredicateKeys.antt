-- Keys of a predicate of any kind: the key, its words and its values.
use Rattle.std.specs.Prelude.{ℕ, ◌^◌, List, length}
use Rattle.list_facts.specs.Listed.{listed}
use Rattle.prg_chacha.specs.declared.seed.Seed.{Seed}
use Rattle.ring128.specs.declared.party.Party.{Party}
use Rattle.ring128.specs.declared.party.Party.TheVariants.{Zero, One}
use Rattle.point_keys.specs.Points as points
use Rattle.point_keys.specs.PointWords as point_words
use Rattle.compare_keys.specs.Compares as compares
use Rattle.compare_keys.specs.CompareWords as compare_words
use Rattle.interval_keys.specs.Intervals as intervals
use Rattle.interval_keys.specs.IntervalWords as interval_words
use Rattle.table_schema.specs.declared.shapes.Kind.{Kind}
use Rattle.table_schema.specs.declared.shapes.Kind.TheVariants as kinds
use Rattle.query_plan.specs.declared.key.PredicateKey.{PredicateKey}
use Rattle.query_plan.specs.declared.key.PredicateKey.TheVariants as keys
use Rattle.query_plan.specs.declared.key.KeyPair.{KeyPair}
use Rattle.query_plan.specs.declared.query.Predicate.{Predicate}

-- the key of a party, by kind, for the buckets from low to high of a column of `bits` bits, with a weight, from four roots:
-- those of party 0 and party 1, and for the lower end of an interval those of party 0 and party 1
abbrev pub key_of_kind : Kind → Party → ℕ → ℕ → ℕ → ℕ → List Seed → PredicateKey
key_of_kind kinds.Point party bits low high weight roots =
    keys.Point (points.point_key party bits low weight (intervals.root_at roots 0) (intervals.root_at roots 1))
key_of_kind kinds.AtMost party bits low high weight roots =
    keys.AtMost (compares.compare_key party bits high weight (intervals.root_at roots 0) (intervals.root_at roots 1))
key_of_kind kinds.Interval party bits low high weight roots = keys.Interval (intervals.interval_key party bits low high weight roots)

abbrev pub key_for : Party → ℕ → Predicate → ℕ → List Seed → PredicateKey
key_for party bits p weight roots = key_of_kind p.kind party bits p.low p.high weight roots

-- how many words the key of a predicate of this kind has, over a column of `bits` bits
abbrev pub length_of : Kind → ℕ → ℕ
length_of kinds.Point bits = point_words.length_of bits
length_of kinds.AtMost bits = compare_words.length_of bits
length_of kinds.Interval bits = interval_words.length_of bits

-- the words of a key
abbrev pub words_of_key : PredicateKey → List ℕ
words_of_key (keys.Point k) = point_words.words_of_key k
words_of_key (keys.AtMost k) = compare_words.words_of_key k
words_of_key (keys.Interval k) = interval_words.words_of_key k

-- the key of this kind that a list of words is; of each control word its two lowest bits count
abbrev pub key_of_words : Kind → ℕ → List ℕ → PredicateKey
key_of_words kinds.Point bits ws = keys.Point (point_words.key_of_words bits ws)
key_of_words kinds.AtMost bits ws = keys.AtMost (compare_words.key_of_words bits ws)
key_of_words kinds.Interval bits ws = keys.Interval (interval_words.key_of_words bits ws)

-- the bits of the numbers at which a key has values
abbrev pub bits_of : PredicateKey → ℕ
bits_of (keys.Point k) = length k.levels
bits_of (keys.AtMost k) = length k.levels
bits_of (keys.Interval k) = length k.upper.levels

-- the value of a party's key at a bucket
abbrev pub value_of : PredicateKey → Party → ℕ → ℕ
value_of (keys.Point k) = points.value_of k
value_of (keys.AtMost k) = compares.value_of k
value_of (keys.Interval k) = intervals.value_of k

-- its values at all buckets, in order
abbrev pub table_of : Party → PredicateKey → List ℕ
table_of party k = listed (2 ^ bits_of k) (value_of k party)

-- of two keys that of a party
abbrev pub key_in : Party → KeyPair → PredicateKey
key_in Zero pair = pair.party0
key_in One pair = pair.party1
