-- The key message of each server: its words, and what a server reads from words.
use Rattle.std.specs.Prelude.{ℕ, zero, suc, ◌≡◌, ◌≢◌, ◌<◌, ◌+◌, ◌*◌, ◌%◌, ⊤, List, [], ◌∷◌, ◌++◌, get_or, take, drop, slice_index, sum_by}
use Rattle.std.specs.List.{flat_map, range_with_len}
use Rattle.prg_chacha.specs.Prg.{low_of, high_of, from_halves_of}
use Rattle.prg_chacha.specs.declared.seed.Seed.{Seed}
use Rattle.ring128.specs.declared.party.Party.{Party}
use Rattle.ring128.specs.declared.party.Party.TheVariants.{Zero, One}
use Rattle.table_schema.specs.declared.shapes.Kind.TheVariants.{Point}
use Rattle.table_schema.specs.declared.shapes.Part.{Part}
use Rattle.table_schema.specs.declared.shapes.Shape.{Shape}
use Rattle.table_schema.specs.declared.widths.Widths.{Widths}
use Rattle.query_plan.specs.declared.key.KeyPair.{KeyPair}
use Rattle.query_plan.specs.declared.key.PredicateKey.{PredicateKey}
use Rattle.query_plan.specs.declared.message.MessageFault.{MessageFault}
use Rattle.query_plan.specs.declared.message.MessageFault.TheVariants.{Length, Memory}
use Rattle.query_plan.specs.declared.query.Query.{Query}
use Rattle.query_plan.specs.PredicateKeys.{key_for, key_of_words, length_of, table_of, words_of_key}
use Rattle.query_plan.specs.Query.{predicate_at}
use Rattle.query_plan.specs.Seeds.{zero_seed, roots_of, weights_of}
use Rattle.query_plan.specs.Views.{View}

-- the key of a party for share k of predicate j in a run, over columns of these bits
abbrev pub key_at : Query → List ℕ → Seed → Party → ℕ → ℕ → ℕ → PredicateKey
key_at query bits seed party run j k =
    let p = predicate_at query j in
    key_for party (slice_index bits p.column) p (weights_of seed run j) (roots_of seed run j k)

-- the words of server k's two keys of predicate j in a run: party 0's for share k, and party 1's for share k + 1
abbrev pub pair_words : Query → List ℕ → Seed → ℕ → ℕ → ℕ → List ℕ
pair_words query bits seed k run j
    = words_of_key (key_at query bits seed Zero run j k) ++ words_of_key (key_at query bits seed One run j ((k + 1) % 3))

-- the words of all its keys in a run
abbrev pub run_words : Query → List ℕ → Seed → ℕ → ℕ → List ℕ
run_words query bits seed k run = flat_map (pair_words query bits seed k run) (range_with_len 0 query.count)

-- the words of server k's seed of zero parts, and of the next server's
abbrev pub seed_words : Seed → ℕ → List ℕ
seed_words seed k =
    let own = zero_seed seed k in
    let next = zero_seed seed ((k + 1) % 3) in
    low_of own ∷ high_of own ∷ low_of next ∷ high_of next ∷ []

-- the key message to server k: its seed of zero parts, the next server's, and its keys of both runs
abbrev pub message_words : Query → List ℕ → Seed → ℕ → List ℕ
message_words query bits seed k = seed_words seed k ++ (run_words query bits seed k 0 ++ run_words query bits seed k 1)

-- what keys were made for
pub record Asked : Type 0 where
  pub query : Query
  pub widths : Widths
  pub seed : Seed

-- how many words the key of a part has
abbrev pub part_length : List ℕ → Part → ℕ
part_length bits part = length_of part.kind (slice_index bits part.column)

-- how many words the keys of these parts have in a run, two of each part
abbrev pub run_length : List ℕ → List Part → ℕ
run_length bits parts = 2 * sum_by (part_length bits) parts

-- the parts that there are
abbrev pub parts_of : Shape → List Part
parts_of shape = take shape.count shape.parts

-- how many words a key message has
abbrev pub message_length : Shape → List ℕ → ℕ
message_length shape bits = 4 + 2 * run_length bits (parts_of shape)

-- part j of a shape
abbrev pub part_at : Shape → ℕ → Part
part_at shape j = get_or shape.parts j (record { column = 0; kind = Point })

-- a part on one of `columns` columns
abbrev pub HasColumn : ℕ → Part → Type 0
HasColumn columns part = part.column < columns

-- when each fault comes, for a list of `had` words where a key message has `wanted`
abbrev pub HasMessageFault : ℕ → ℕ → MessageFault → Type 0
HasMessageFault had wanted (Length h w) = (h ≡ had) × (w ≡ wanted) × (had ≢ wanted)
HasMessageFault had wanted Memory = ⊤

-- the two keys of a part that a list of words begins with
abbrev pub pair_read : List ℕ → Part → List ℕ → KeyPair
pair_read bits part ws =
    let length = part_length bits part in
    record {
      party0 = key_of_words part.kind (slice_index bits part.column) (take length ws);
      party1 = key_of_words part.kind (slice_index bits part.column) (take length (drop length ws));
    }

-- the keys of these parts, one part after another
abbrev pub pairs_read : List ℕ → List Part → List ℕ → List KeyPair
pairs_read bits [] ws = []
pairs_read bits (part ∷ parts) ws = pair_read bits part ws ∷ pairs_read bits parts (drop (2 * part_length bits part) ws)

-- what a server keeps of its key message: two seeds, and its keys by run and predicate
pub record KeysRead : Type 0 where
  pub own : Seed
  pub next : Seed
  pub run0 : List KeyPair
  pub run1 : List KeyPair

-- what a server reads from words, whatever they are
abbrev pub keys_read : Shape → List ℕ → List ℕ → KeysRead
keys_read shape bits ws =
    let parts = parts_of shape in
    record {
      own = from_halves_of (slice_index ws 0) (slice_index ws 1);
      next = from_halves_of (slice_index ws 2) (slice_index ws 3);
      run0 = pairs_read bits parts (drop 4 ws);
      run1 = pairs_read bits parts (drop (4 + run_length bits parts) ws);
    }

-- what stands where there are no keys
abbrev pub no_pair : KeyPair
no_pair = record { party0 = key_of_words Point 0 []; party1 = key_of_words Point 0 [] }

-- the keys of predicate j in a run
abbrev pub pair_at : KeysRead → ℕ → ℕ → KeyPair
pair_at keys zero j = get_or keys.run0 j no_pair
pair_at keys (suc run) j = get_or keys.run1 j no_pair

-- the tables of the keys by run and predicate
abbrev pub view_from : KeysRead → View
view_from keys = record {
  own = keys.own;
  next = keys.next;
  party0 = λ run j. table_of Zero (pair_at keys run j).party0;
  party1 = λ run j. table_of One (pair_at keys run j).party1;
}

abbrev pub view_of : Shape → List ℕ → List ℕ → View
view_of shape bits ws = view_from (keys_read shape bits ws)
