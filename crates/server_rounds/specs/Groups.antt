-- The three messages of a step, and what the servers hold after them.
use Rattle.std.specs.Prelude.{ℕ, zero, suc, ◌≡◌, ◌<◌, ◌≤◌, List, length}
use Rattle.wire_line.specs.declared.message.Peer.{Peer}
use Rattle.wire_line.specs.declared.message.Peer.TheVariants.{Client}
use Rattle.wire_line.specs.declared.message.Message.{Message}
use Rattle.wire_line.specs.Messages.{message_at}
use Rattle.transcript.specs.Steps.{peer_of, before, after}
use Rattle.transcript.specs.Transcript.{Fits}
use Rattle.server_rounds.specs.declared.way.Way.{Way}
use Rattle.server_rounds.specs.declared.way.Way.TheVariants.{ToServers, Around, ToClient}

-- one of three, by the server's number
abbrev pub by_server : {T : Type 0} → T → T → T → ℕ → T
by_server a b c zero = a
by_server a b c (suc zero) = b
by_server a b c (suc (suc k)) = c

-- who sends and who receives message k of a step: the client and each server, each server and the one before it, or each server
-- and the client
abbrev pub from_of : Way → ℕ → Peer
from_of ToServers k = Client
from_of Around k = peer_of k
from_of ToClient k = peer_of k

abbrev pub to_of : Way → ℕ → Peer
to_of ToServers k = peer_of k
to_of Around k = peer_of (before k)
to_of ToClient k = Client

-- the messages of a step with these words, as far as they were carried
pub record IsGroup (way : Way) (words : ℕ → List ℕ) (ms : List Message) : Type 0 where
  pub few : length ms ≤ 3
  pub fits : (k : ℕ) → k < length ms → Fits (message_at ms k) (from_of way k) (to_of way k) (words k)

-- all three were carried, and this was received
pub record Received (ms : List Message) (zero one two : List ℕ) : Type 0 where
  pub full : length ms ≡ 3
  pub at0 : (message_at ms 0).received ≡ zero
  pub at1 : (message_at ms 1).received ≡ one
  pub at2 : (message_at ms 2).received ≡ two

-- what was received is as long as what was sent
pub record AsLong (x0 x1 x2 y0 y1 y2 : List ℕ) : Type 0 where
  pub long0 : length x0 ≡ length y0
  pub long1 : length x1 ≡ length y1
  pub long2 : length x2 ≡ length y2

-- what a server holds: what it sent, and what it received from the next one
pub record Both : Type 0 where
  pub first : List ℕ
  pub second : List ℕ

-- what the three servers hold
pub record Pairs : Type 0 where
  pub zero : Both
  pub one : Both
  pub two : Both

abbrev pub first_of : Pairs → ℕ → List ℕ
first_of pairs = by_server pairs.zero.first pairs.one.first pairs.two.first

abbrev pub second_of : Pairs → ℕ → List ℕ
second_of pairs = by_server pairs.zero.second pairs.one.second pairs.two.second

-- lists of this length
pub record AreLong (n : ℕ) (pairs : Pairs) : Type 0 where
  pub zero_first : length pairs.zero.first ≡ n
  pub zero_second : length pairs.zero.second ≡ n
  pub one_first : length pairs.one.first ≡ n
  pub one_second : length pairs.one.second ≡ n
  pub two_first : length pairs.two.first ≡ n
  pub two_second : length pairs.two.second ≡ n

-- what the servers hold after the messages of a step
pub record AreReshared (pairs : Pairs) (ms : List Message) : Type 0 where
  pub full : length ms ≡ 3
  pub first : (k : ℕ) → k < 3 → first_of pairs k ≡ (message_at ms k).sent
  pub second : (k : ℕ) → k < 3 → second_of pairs k ≡ (message_at ms (after k)).received
