-- Messages, and what a wire did with them.
use Rattle.std.specs.Prelude.{ℕ, ◌≡◌, ◌≤◌, List, [], ◌++◌, slice_index_or, All, option_map}
use Rattle.wire_line.specs.declared.message.Message.{Message}
use Rattle.wire_line.specs.declared.message.Peer.{Peer}
use Rattle.wire_line.specs.declared.message.Peer.TheVariants.{Client}
use Rattle.wire_line.specs.Sights.{Sight, HasAltered}

-- a message of two lists of words
abbrev pub message_of : Peer → Peer → List ℕ → List ℕ → Message
message_of sender receiver sent received = record { sender = sender; receiver = receiver; sent = sent; received = received }

-- the message at a place of a list
abbrev pub message_at : List Message → ℕ → Message
message_at ms i = slice_index_or ms i (message_of Client Client [] [])

-- each message was received as it was sent
abbrev pub IsHonest : List Message → Type 0
IsHonest ms = All (λ (m : Message). m.received ≡ m.sent) ms

-- a wire carried these messages: they stand at the end of its list, where it reports one; its count did not fall; unless it rose,
-- each message was received as it was sent; and what its kind says besides holds of them
pub record Went {S : Type 0} (sight : Sight S) (before : S) (ms : List Message) (after : S) : Type 0 where
  pub listed : sight.reported after ≡ option_map (λ (old : List Message). old ++ ms) (sight.reported before)
  pub grows : sight.alterations before ≤ sight.alterations after
  pub honest : ¬ HasAltered sight before after → IsHonest ms
  pub passed : sight.passes before ms after
