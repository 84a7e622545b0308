-- What the machine holds of a core. A snapshot is seen through what it holds as a shelf.
use Rattle.std.specs.Prelude.{◌≡◌, ℕ, zero, suc, ◌<◌, ◌≤◌, ⊤, is_none, Option, Some, None, List, All, length, map, min, slice_get}
use Rattle.onehot_column.specs.declared.piece.Piece.{Piece}
use Rattle.prefix_log.specs.Logs.{Log, IsOwn, placed as log_placed}
use Rattle.prefix_log.specs.declared.snapshot.Snapshot.{Snapshot}
use Rattle.prg_chacha.specs.declared.seed.Seed.{Seed}
use Rattle.scan_chunks.specs.Shelf.{Held}
use Rattle.server_rounds.specs.declared.opened.OpenedPair.{OpenedPair}
use Rattle.table_schema.specs.Widths.{Fits, Holds, column_bits}
use Rattle.table_schema.specs.declared.rows.Row.{Row}
use Rattle.table_schema.specs.declared.widths.Widths.{Widths}
use Rattle.agreed_rows.specs.Agreed.{Entries, first_rows}
use Rattle.agreed_rows.specs.Servers.{IsServer, IsShareAt, KeepsFirst}
use Rattle.waldo_core.specs.Answers.{rows_agreed}
use Rattle.waldo_core.specs.Core.{Actor, Core, Fixes, Open, journal_of, with_actor, with_journal}
use Rattle.waldo_core.specs.Core.Fixes.{Unfixed, First, Second, Agreed}
use Rattle.waldo_core.specs.Legal.{IsLegal}
use Rattle.waldo_core.specs.Machines.{Seen}
use Rattle.waldo_core.specs.Step.{acts, with_place}
use Rattle.waldo_core.specs.declared.actor.ActorState.{ActorState}
use Rattle.waldo_core.specs.declared.draw.OpenDraw.{OpenDraw}
use Rattle.waldo_core.specs.declared.events.Event.{Event}
use Rattle.waldo_core.specs.declared.events.Event.TheVariants as events
use Rattle.waldo_core.specs.declared.events.Reply.{Reply}
use Rattle.waldo_core.specs.declared.events.Reply.TheVariants as replies
use Rattle.waldo_core.specs.declared.logs.Logs.{Logs}
use Rattle.waldo_core.specs.declared.snapshots.Snapshots.{Snapshots}
use Rattle.waldo_core.specs.declared.snapshots.Snapshots.TheVariants as found

-- ---- logs

-- the log of server k
abbrev pub log_of : Logs → ℕ → Log
log_of logs zero = logs.zero
log_of logs (suc zero) = logs.one
log_of logs (suc (suc k)) = logs.two

-- the logs with another log of server k
abbrev pub with_log : Logs → ℕ → Log → Logs
with_log logs zero log = record logs { zero = log }
with_log logs (suc zero) log = record logs { one = log }
with_log logs (suc (suc k)) log = record logs { two = log }

-- the logs after a piece, if there is one, came to a place of server k
abbrev pub with_piece : Logs → ℕ → ℕ → Option Piece → Logs
with_piece logs k place None = logs
with_piece logs k place (Some piece) = with_log logs k (log_placed (log_of logs k) place piece)

-- ---- draws

-- the piece of an open draw for server k, until it is handed out
abbrev pub piece_for : ℕ → OpenDraw → Option Piece
piece_for zero draw = draw.zero
piece_for (suc zero) draw = draw.one
piece_for (suc (suc k)) draw = draw.two

-- the draw without that piece
abbrev pub without : ℕ → OpenDraw → OpenDraw
without zero draw = record draw { zero = None }
without (suc zero) draw = record draw { one = None }
without (suc (suc k)) draw = record draw { two = None }

-- a piece that is gone was placed
abbrev pub seen_draw : OpenDraw → Open
seen_draw draw = record { place = draw.place; zero = is_none draw.zero; one = is_none draw.one; two = is_none draw.two }

abbrev pub seen_open : Option OpenDraw → Option Open
seen_open None = None
seen_open (Some draw) = Some (seen_draw draw)

-- ---- fixes

-- snapshots are seen by their numbers of rows
abbrev pub seen_fixes : (Snapshot → Held) → Snapshots → Fixes
seen_fixes held found.Unfixed = Unfixed
seen_fixes held (found.First s) = First (held s).rows
seen_fixes held (found.Second s t) = Second (held s).rows (held t).rows
seen_fixes held (found.Agreed a) = Agreed (length a.all)

-- the server of the next fix
abbrev pub next_server_of : Snapshots → ℕ
next_server_of found.Unfixed = 0
next_server_of (found.First s) = 1
next_server_of (found.Second s t) = 2
next_server_of (found.Agreed a) = 0

-- ---- rows of the order

-- the pieces of an open draw are those of its place
abbrev pub HoldsShares : Widths → List (Row × Seed) → OpenDraw → Type 0
HoldsShares w order draw = (k : ℕ) (piece : Piece) → k < 3 → piece_for k draw ≡ Some piece → IsShareAt w k order draw.place piece

-- entries that are the first of the order
abbrev pub AreFirstRows : Widths → List (Row × Seed) → Entries → Type 0
AreFirstRows w order e = e ≡ first_rows w order (length e.all)

-- each snapshot of an actor keeps the first rows of the order, and what it agreed on are its first rows
abbrev pub AreFirst : (Snapshot → Held) → Widths → List (Row × Seed) → Snapshots → Type 0
AreFirst held w order found.Unfixed = ⊤
AreFirst held w order (found.First s) = KeepsFirst w 0 order (held s).rows (held s)
AreFirst held w order (found.Second s t) = KeepsFirst w 0 order (held s).rows (held s) × KeepsFirst w 1 order (held t).rows (held t)
AreFirst held w order (found.Agreed a) = AreFirstRows w order a

pub record IsActorOf (held : Snapshot → Held) (w : Widths) (order : List (Row × Seed)) (a : ActorState) : Type 0 where
  pub draw : (draw : OpenDraw) → a.draw ≡ Some draw → HoldsShares w order draw
  pub first : AreFirst held w order a.snapshots

-- ---- actors

-- an actor that has seen nothing
abbrev pub fresh_state : ActorState
fresh_state = record { floor = 0; draw = None; snapshots = found.Unfixed }

abbrev pub seen_actor : (Snapshot → Held) → ActorState → Actor
seen_actor held a = record { floor = a.floor; draw = seen_open a.draw; fixes = seen_fixes held a.snapshots }

-- an event has no case for this actor, whatever the core is besides
abbrev pub HasNone : Actor → Event → Type 0
HasNone a event = (capacity : ℕ) (core : Core) (pair : OpenedPair) → acts capacity core event pair (Some a) ≡ None

-- the pieces of the open draw can be put at server k
pub record CanPlace (k : ℕ) (logs : Logs) (a : ActorState) : Type 0 where
  pub room : (draw : OpenDraw) → a.draw ≡ Some draw → draw.place < (log_of logs k).capacity
  pub small : (draw : OpenDraw) → a.draw ≡ Some draw → draw.place < 65536
  pub own : (draw : OpenDraw) (piece : Piece) → a.draw ≡ Some draw → piece_for k draw ≡ Some piece
      → IsOwn (log_of logs k).server (log_of logs k).widths piece

-- a placing at server k: the draw goes on without its piece, which the log took
pub record PlacesPiece (held : Snapshot → Held) (k : ℕ) (before : Logs) (a : ActorState) (after : Logs) (b : ActorState) : Type 0 where
  pub server : k < 3
  pub draw : OpenDraw
  pub was : a.draw ≡ Some draw
  pub logs : after ≡ with_piece before k draw.place (piece_for k draw)
  pub rest : (d : OpenDraw) → b.draw ≡ Some d → d ≡ without k draw
  pub unfixed : b.snapshots ≡ found.Unfixed
  pub does : (capacity number : ℕ) (core : Core) (pair : OpenedPair)
      → acts capacity core (events.Place number k) pair (Some (seen_actor held a))
      ≡ Some (with_actor (with_journal core k (with_place draw.place (journal_of core k))) number (seen_actor held b), replies.Placed)

abbrev pub Places : (Snapshot → Held) → ℕ → Logs → ActorState → Logs → ActorState → Option Reply → Type 0
Places held k before a after b None = ((number : ℕ) → HasNone (seen_actor held a) (events.Place number k)) × (after ≡ before) × (b ≡ a)
Places held k before a after b (Some reply) = PlacesPiece held k before a after b × (reply ≡ replies.Placed)

-- a look at server k
pub record LooksAt (held : Snapshot → Held) (k : ℕ) (logs : Logs) (a b : ActorState) (reply : Reply) : Type 0 where
  pub draw : b.draw ≡ a.draw
  pub unfixed : b.snapshots ≡ found.Unfixed
  pub does : (capacity number : ℕ) (core : Core) (pair : OpenedPair) → journal_of core k ≡ (log_of logs k).journal
      → acts capacity core (events.Look number k) pair (Some (seen_actor held a)) ≡ Some (with_actor core number (seen_actor held b), reply)

abbrev pub Looks : (Snapshot → Held) → ℕ → Logs → ActorState → ActorState → Option Reply → Type 0
Looks held k logs a b None = ((number : ℕ) → HasNone (seen_actor held a) (events.Look number k)) × (b ≡ a)
Looks held k logs a b (Some reply) = LooksAt held k logs a b reply

-- a fix
pub record Fixed (held : Snapshot → Held) (logs : Logs) (a b : ActorState) (reply : Reply) : Type 0 where
  pub draw : b.draw ≡ a.draw
  pub does : (capacity number : ℕ) (core : Core) (pair : OpenedPair) → core.zero ≡ logs.zero.journal → core.one ≡ logs.one.journal
      → core.two ≡ logs.two.journal
      → acts capacity core (events.Fix number) pair (Some (seen_actor held a)) ≡ Some (with_actor core number (seen_actor held b), reply)

-- a third snapshot is kept: the actor agrees on the first rows of the order, as many as the least of the three has
pub record KeepsThird (held : Snapshot → Held) (w : Widths) (order : List (Row × Seed)) (s t u : Snapshot) (a b : ActorState)
    (reply : Reply) : Type 0 where
  pub agreed : Entries
  pub first : AreFirstRows w order agreed
  pub rows : length agreed.all ≡ min (min (held s).rows (held t).rows) (held u).rows
  pub actor : b ≡ record { floor = length agreed.all; draw = a.draw; snapshots = found.Agreed agreed }
  pub says : reply ≡ replies.Agreed (length agreed.all)

-- a snapshot is kept beside these
abbrev pub Keeps : (Snapshot → Held) → Widths → List (Row × Seed) → Snapshot → Snapshots → ActorState → ActorState → Reply → Type 0
Keeps held w order u found.Unfixed a b reply = (b ≡ record a { snapshots = found.First u }) × (reply ≡ replies.Fixed (held u).rows)
Keeps held w order u (found.First s) a b reply = (b ≡ record a { snapshots = found.Second s u }) × (reply ≡ replies.Fixed (held u).rows)
Keeps held w order u (found.Second s t) a b reply = KeepsThird held w order s t u a b reply
Keeps held w order u (found.Agreed g) a b reply = (b ≡ record a { snapshots = found.First u }) × (reply ≡ replies.Fixed (held u).rows)

-- ---- the machine

-- the parts of a machine
pub record Table : Type 0 where
  pub widths : Widths
  pub capacity : ℕ
  pub workers : ℕ
  pub order : List (Row × Seed)
  pub logs : Logs
  pub actors : List ActorState

-- their core
abbrev pub core_of : (Snapshot → Held) → Table → Core
core_of held t = record {
  order = t.order;
  zero = t.logs.zero.journal;
  one = t.logs.one.journal;
  two = t.logs.two.journal;
  actors = map (seen_actor held) t.actors;
}

abbrev pub seen_machine : (Snapshot → Held) → Table → Seen
seen_machine held t = record { widths = t.widths; capacity = t.capacity; core = core_of held t }

-- The order takes as many rows as the table, and its rows are held by the widths; each log and each actor has pieces and rows of the
-- order alone; and the core is legal.
pub record IsMachine (held : Snapshot → Held) (space : ℕ) (t : Table) : Type 0 where
  pub fits : Fits (column_bits t.widths) t.capacity
  pub few : length t.order ≤ t.capacity
  pub room : space ≡ t.capacity
  pub some : 1 ≤ t.workers
  pub most : t.workers ≤ 16
  pub rows : All (λ (entry : Row × Seed). Holds t.widths entry.0) t.order
  pub servers : (k : ℕ) → k < 3 → IsServer k t.widths t.capacity t.order (log_of t.logs k)
  pub actors : (i : ℕ) (a : ActorState) → slice_get t.actors i ≡ Some a → IsActorOf held t.widths t.order a
  pub legal : IsLegal (core_of held t)

-- what an actor agreed on: first rows of the order
pub record IsAgreedBy (m : Seen) (number : ℕ) (e : Entries) : Type 0 where
  pub agreed : rows_agreed (slice_get m.core.actors number) ≡ Some (length e.all)
  pub first : AreFirstRows m.widths m.core.order e
