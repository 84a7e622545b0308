-- What the definitions of keys say together.
use Rattle.std.specs.Prelude.{ℕ, ◌≡◌, ◌<◌, ◌%◌, List, length}
use Rattle.prg_chacha.specs.declared.seed.Seed.{Seed}
use Rattle.table_schema.specs.Limits.{AreWidths}
use Rattle.table_schema.specs.declared.widths.Widths.{Widths}
use Rattle.query_plan.specs.declared.query.Query.{Query}
use Rattle.query_plan.specs.KeyMessages.{Asked, message_length, message_words, view_of}
use Rattle.query_plan.specs.Query.{Suits, shaped}
use Rattle.query_plan.specs.Seeds.{weights_of}
use Rattle.query_plan.specs.Views.{AreKeys, View, key_from}

-- what the three servers read from the key messages of a query, over columns of these bits
abbrev pub views_of : Query → List ℕ → Seed → ℕ → View
views_of query bits seed k = view_of (shaped query) bits (message_words query bits seed k)

-- it is keys of the query, with weight 1 in run 0 and with the weights of the seed in run 1
abbrev pub KeysAddUp : Type 0
KeysAddUp =
    (query : Query) (w : Widths) (seed : Seed) → length query.predicates ≡ 4 → AreWidths w.columns w.bits → Suits w.columns w.bits query
    → AreKeys w.bits (views_of query w.bits seed) query (weights_of seed)

-- the same of what keys were made for
abbrev pub AreKeysOf : Asked → Type 0
AreKeysOf asked = AreKeys asked.widths.bits (views_of asked.query asked.widths.bits asked.seed) asked.query (weights_of asked.seed)

-- each key message has the words that the query's shape asks for
abbrev pub MessagesAreLong : Type 0
MessagesAreLong =
    (query : Query) (w : Widths) (seed : Seed) (k : ℕ) → length query.predicates ≡ 4 → Suits w.columns w.bits query
    → length (message_words query w.bits seed k) ≡ message_length (shaped query) w.bits

-- the key of any number of predicates is odd
abbrev pub KeysAreOdd : Type 0
KeysAreOdd = (seed : Seed) (n : ℕ) → key_from (weights_of seed 1) n % 2 ≡ 1
