-- The nine messages of a query over three trees, and what they open.
use Rattle.std.specs.Prelude.{ℕ, ◌≡◌, ◌<◌, ◌≤◌, ◌+◌, ◌*◌, List, [], ◌∷◌, length, slice_index}
use Rattle.ring128.specs.Ring.{plus}
use Rattle.wire_line.specs.declared.message.Message.{Message}
use Rattle.wire_line.specs.declared.message.Peer.TheVariants.{Client}
use Rattle.wire_line.specs.Messages.{message_at}
use Rattle.query_plan.specs.KeyMessages.{Asked}
use Rattle.query_plan.specs.Views.{View}
use Rattle.transcript.specs.Steps.{peer_of}
use Rattle.transcript.specs.Transcript.{Fits}
use Rattle.server_rounds.specs.Groups.{by_server}
use Rattle.server_rounds.specs.Plans.{read_for, words_for}
use Rattle.server_rounds.specs.Rounds.{sum_word}
use Rattle.row_tree.specs.Sums.{range_sum}
use Rattle.row_tree.specs.Column.{Tree}

-- what the messages rest on: the key words for each server, what a server reads from words, and the sums of each server's two shares
-- of the rows in the range
pub record Sides : Type 0 where
  pub keys : ℕ → List ℕ
  pub read : List ℕ → View
  pub first : ℕ → List ℕ
  pub second : ℕ → List ℕ

-- of a query that keys were made for, over three servers' trees and the places from low to high - 1
abbrev pub sides_over : Asked → Tree → Tree → Tree → ℕ → ℕ → Sides
sides_over asked zero one two low high = record {
  keys = words_for asked;
  read = read_for asked;
  first = by_server (range_sum zero.width zero.first low high) (range_sum one.width one.first low high)
      (range_sum two.width two.first low high);
  second = by_server (range_sum zero.width zero.second low high) (range_sum one.width one.second low high)
      (range_sum two.width two.second low high);
}

-- the counter of the zero parts of a run
abbrev pub tree_counter : ℕ → ℕ
tree_counter run = (40 + run) * 65536

-- the word of server k in a run, from what it received of the client
abbrev pub word_in : Sides → List Message → ℕ → ℕ → List ℕ
word_in s ms run k = sum_word (s.read (message_at ms k).received) run (s.first k) (s.second k) (tree_counter run) ∷ []

-- the first of the messages, as far as they were carried: the client sends the keys, and in each run each server sends its word
pub record IsTreePart (s : Sides) (ms : List Message) : Type 0 where
  pub few : length ms ≤ 9
  pub keys : (k : ℕ) → k < 3 → k < length ms → Fits (message_at ms k) Client (peer_of k) (s.keys k)
  pub openings : (run k : ℕ) → run < 2 → k < 3 → 3 + 3 * run + k < length ms
      → Fits (message_at ms (3 + 3 * run + k)) (peer_of k) Client (word_in s ms run k)

-- all nine
pub record IsTreeTranscript (s : Sides) (ms : List Message) : Type 0 where
  pub part : IsTreePart s ms
  pub full : length ms ≡ 9

-- what the client opens in a run: the sum of the three words that it received
abbrev pub tree_opened : List Message → ℕ → ℕ
tree_opened ms run =
    let word = λ (k : ℕ). slice_index (message_at ms (3 + 3 * run + k)).received 0 in
    plus (plus (word 0) (word 1)) (word 2)
