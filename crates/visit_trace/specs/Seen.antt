-- What servers see: the chunks that they visit, and the lengths of the messages that they send or receive.
use Rattle.std.specs.Prelude.{◌≡◌, ℕ, zero, suc, ◌==◌, ◌||◌, if◌then◌else◌, Bool, List, [], ◌∷◌, ◌++◌, length, Result, Ok, Err}
use Rattle.std.specs.List.{flat_map}
use Rattle.scan_chunks.specs.declared.visit.Visit.{Visit}
use Rattle.wire_line.specs.declared.message.Message.{Message}
use Rattle.wire_line.specs.declared.message.Peer.{Peer}
use Rattle.wire_line.specs.declared.message.Peer.TheVariants.{Client, Server0, Server1, Server2}

-- what one server sees, each in order
pub record Seen : Type 0 where
  pub visits : List Visit
  pub lengths : List ℕ

-- what the three servers see
pub record AllSeen : Type 0 where
  pub zero : Seen
  pub one : Seen
  pub two : Seen

abbrev pub nothing : Seen
nothing = record { visits = []; lengths = [] }

-- the same at each server
abbrev pub alike : Seen → AllSeen
alike s = record { zero = s; one = s; two = s }

-- what the server of this number sees; there are three
abbrev pub seen_by : AllSeen → ℕ → Seen
seen_by all zero = all.zero
seen_by all (suc zero) = all.one
seen_by all (suc (suc zero)) = all.two
seen_by all (suc (suc (suc k))) = nothing

-- this at one server, and nothing at the others
abbrev pub only_at : ℕ → Seen → AllSeen
only_at zero s = record { zero = s; one = nothing; two = nothing }
only_at (suc zero) s = record { zero = nothing; one = s; two = nothing }
only_at (suc (suc zero)) s = record { zero = nothing; one = nothing; two = s }
only_at (suc (suc (suc k))) s = alike nothing

-- whether this is the server of that number
abbrev pub is_server : ℕ → Peer → Bool
is_server k Client = k == 3
is_server k Server0 = k == 0
is_server k Server1 = k == 1
is_server k Server2 = k == 2

-- the length of a message, where the server is its sender or its receiver
abbrev pub length_at : ℕ → Peer → Peer → ℕ → List ℕ
length_at k sender receiver n = if is_server k sender || is_server k receiver then n ∷ [] else []

-- the lengths of the messages of a list that a server sends or receives, in order
abbrev pub lengths_at : ℕ → List Message → List ℕ
lengths_at k ms = flat_map (λ (m : Message). length_at k m.sender m.receiver (length m.sent)) ms

-- what servers see of a message of this length
abbrev pub message_seen : Peer → Peer → ℕ → AllSeen
message_seen sender receiver n = record {
  zero = record { visits = []; lengths = length_at 0 sender receiver n };
  one = record { visits = []; lengths = length_at 1 sender receiver n };
  two = record { visits = []; lengths = length_at 2 sender receiver n };
}

-- a server saw this more
pub record SawMore (old new part : Seen) : Type 0 where
  pub visits : new.visits ≡ old.visits ++ part.visits
  pub lengths : new.lengths ≡ old.lengths ++ part.lengths

-- a trace grew by this part
pub record Grew (old new part : AllSeen) : Type 0 where
  pub zero : SawMore old.zero new.zero part.zero
  pub one : SawMore old.one new.one part.one
  pub two : SawMore old.two new.two part.two

-- a list with a prefix of another list behind it
pub record AddsPrefix {A : Type 0} (old new whole : List A) : Type 0 where
  pub added : List A
  pub left : List A
  pub now : new ≡ old ++ added
  pub all : added ++ left ≡ whole

-- a server saw a prefix of these visits and a prefix of these lengths more
pub record SawPrefix (old new part : Seen) : Type 0 where
  pub visits : AddsPrefix old.visits new.visits part.visits
  pub lengths : AddsPrefix old.lengths new.lengths part.lengths

-- a trace grew by a prefix of this part, at each server one of its own
pub record GrewPrefix (old new part : AllSeen) : Type 0 where
  pub zero : SawPrefix old.zero new.zero part.zero
  pub one : SawPrefix old.one new.one part.one
  pub two : SawPrefix old.two new.two part.two

-- a trace before and after a call that adds this part to it; after an error the call has added a prefix
abbrev pub GrewBy : {T E : Type 0} → AllSeen → AllSeen → AllSeen → Result T E → Type 0
GrewBy old new part (Ok x) = Grew old new part
GrewBy old new part (Err e) = GrewPrefix old new part
