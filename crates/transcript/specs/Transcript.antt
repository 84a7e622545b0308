-- The list of a query's messages.
use Rattle.std.specs.Prelude.{ℕ, ◌≡◌, ◌<◌, ◌≤◌, ◌+◌, ◌*◌, List, length, slice_index}
use Rattle.ring128.specs.Ring.{plus}
use Rattle.wire_line.specs.declared.message.Peer.{Peer}
use Rattle.wire_line.specs.declared.message.Peer.TheVariants.{Client}
use Rattle.wire_line.specs.declared.message.Message.{Message}
use Rattle.wire_line.specs.Messages.{message_at}
use Rattle.transcript.specs.Setup.{Setup, count_of}
use Rattle.transcript.specs.Steps.{Step, opening, IsStep, place_of, peer_of, receiver_of, after}
use Rattle.transcript.specs.Formulas.{Seat, words_of}

-- server k as the messages leave it: it read what it received; after a step it holds the words that it sent and those that it received
abbrev pub seat_of : Setup → List Message → ℕ → ℕ → Seat
seat_of s ms run k = record {
  view = s.read (message_at ms k).received;
  pieces = s.pieces k;
  first = λ step. (message_at ms (place_of (count_of s.sizes) s.ending.further run step k)).sent;
  second = λ step. (message_at ms (place_of (count_of s.sizes) s.ending.further run step (after k))).received;
}

-- a message with these ends and words, as long when received as when sent
pub record Fits (m : Message) (sender receiver : Peer) (sent : List ℕ) : Type 0 where
  pub from : m.sender ≡ sender
  pub to : m.receiver ≡ receiver
  pub words : m.sent ≡ sent
  pub long : length m.received ≡ length m.sent

-- the first messages of a query, as far as they were carried: the client sends the keys, and in each step each server sends its words
pub record IsPart (s : Setup) (ms : List Message) : Type 0 where
  pub few : length ms ≤ 3 + 12 * count_of s.sizes + 6 * s.ending.further
  pub keys : (k : ℕ) → k < 3 → k < length ms → Fits (message_at ms k) Client (peer_of k) (s.keys k)
  pub steps : (run : ℕ) (step : Step) (k : ℕ) → run < 2 → IsStep (count_of s.sizes) s.ending.further step → k < 3
      → let place = place_of (count_of s.sizes) s.ending.further run step k in place < length ms
      → Fits (message_at ms place) (peer_of k) (receiver_of step k) (words_of s.sizes s.ending run (seat_of s ms run k) step)

-- all messages of a query
pub record IsTranscript (s : Setup) (ms : List Message) : Type 0 where
  pub part : IsPart s ms
  pub full : length ms ≡ 3 + 12 * count_of s.sizes + 6 * s.ending.further

-- what the client opens in a run at word i of the openings: the sum of the three words that it received
abbrev pub opened_at : Setup → List Message → ℕ → ℕ → ℕ
opened_at s ms run i =
    let word = λ (k : ℕ). slice_index (message_at ms (place_of (count_of s.sizes) s.ending.further run opening k)).received i in
    plus (plus (word 0) (word 1)) (word 2)

-- what the client opens in a run that ends with one number
abbrev pub opened_of : Setup → List Message → ℕ → ℕ
opened_of s ms run = opened_at s ms run 0
