-- The messages of a run, after those before it.
use Rattle.std.specs.Prelude.{ℕ, ◌≡◌, ◌<◌, ◌+◌, ◌*◌, ◌-◌, List, ◌++◌, length}
use Rattle.wire_line.specs.declared.message.Message.{Message}
use Rattle.wire_line.specs.Messages.{message_at}
use Rattle.scan_chunks.specs.Pieces.{Pieces}
use Rattle.query_plan.specs.Views.{View}
use Rattle.transcript.specs.Setup.{Sizes, Ending, Setup, count_of}
use Rattle.transcript.specs.Steps.{after}
use Rattle.transcript.specs.Transcript.{IsPart, opened_at}
use Rattle.server_rounds.specs.declared.way.Way.TheVariants.{Around}
use Rattle.server_rounds.specs.Groups.{Pairs, first_of, second_of, IsGroup, AreReshared}
use Rattle.server_rounds.specs.Rounds.{bits_of, products_of}

-- what the servers read from the key messages, once all three were carried
pub record HaveRead (read : List ℕ → View) (views : ℕ → View) (ms : List Message) : Type 0 where
  pub full : length ms ≡ 3
  pub seen : (k : ℕ) → k < 3 → views k ≡ read (message_at ms k).received

abbrev pub setup_of : Sizes → Ending → (ℕ → List ℕ) → (List ℕ → View) → (ℕ → Pieces) → Setup
setup_of z ending keys read pieces = record { sizes = z; ending = ending; keys = keys; read = read; pieces = pieces }

-- the messages before a run: the servers read these views from the first three
pub record IsBefore (s : Setup) (run : ℕ) (views : ℕ → View) (earlier : List Message) : Type 0 where
  pub part : IsPart s earlier
  pub long : length earlier ≡ 3 + 6 * count_of s.sizes * run + 3 * s.ending.further * run
  pub seen : (k : ℕ) → k < 3 → views k ≡ s.read (message_at earlier k).received

-- whatever keys came before, these messages go on with this run
abbrev pub IsRunPart : Sizes → Ending → (ℕ → Pieces) → ℕ → (ℕ → View) → List Message → Type 0
IsRunPart z ending pieces run views ms =
    (keys : ℕ → List ℕ) (read : List ℕ → View) (earlier : List Message)
    → IsBefore (setup_of z ending keys read pieces) run views earlier → IsPart (setup_of z ending keys read pieces) (earlier ++ ms)

-- the servers hold what the last three messages gave them
pub record EndsWith (pairs : Pairs) (ms : List Message) : Type 0 where
  pub first : (k : ℕ) → k < 3 → first_of pairs k ≡ (message_at ms (length ms - 3 + k)).sent
  pub second : (k : ℕ) → k < 3 → second_of pairs k ≡ (message_at ms (length ms - 3 + after k)).received

-- the messages of a run through the product of predicate j - 1, however the run ends; the servers then hold this chain
pub record HaveProducts (z : Sizes) (pieces : ℕ → Pieces) (run : ℕ) (views : ℕ → View) (j : ℕ)
    (chain : Pairs) (ms : List Message) : Type 0 where
  pub some : 0 < j
  pub part : (ending : Ending) → IsRunPart z ending pieces run views ms
  pub long : length ms + 3 ≡ 6 * j
  pub ends : EndsWith chain ms

-- the messages of a run through all products and e further steps; the servers then hold these pairs
pub record HaveEnded (z : Sizes) (ending : Ending) (pieces : ℕ → Pieces) (run : ℕ) (views : ℕ → View)
    (e : ℕ) (pairs : Pairs) (ms : List Message) : Type 0 where
  pub some : 0 < count_of z
  pub part : IsRunPart z ending pieces run views ms
  pub long : length ms + 3 ≡ 6 * count_of z + 3 * e
  pub ends : EndsWith pairs ms

-- these are all messages of the run, and the client opened this number at word i
pub record IsRun (z : Sizes) (ending : Ending) (pieces : ℕ → Pieces) (run : ℕ) (views : ℕ → View)
    (ms : List Message) (i total : ℕ) : Type 0 where
  pub full : length ms ≡ 6 * count_of z + 3 * ending.further
  pub sum : (keys : ℕ → List ℕ) (read : List ℕ → View) (earlier : List Message)
      → IsBefore (setup_of z ending keys read pieces) run views earlier
      → total ≡ opened_at (setup_of z ending keys read pieces) (earlier ++ ms) run i

-- the messages of predicate j, from 1 on: its bits, and then its product
pub record IsPredicatePart (z : Sizes) (run : ℕ) (views : ℕ → View) (pieces : ℕ → Pieces) (j : ℕ)
    (chain : Pairs) (ms : List Message) : Type 0 where
  pub bit_messages : List Message
  pub product_messages : List Message
  pub both : ms ≡ bit_messages ++ product_messages
  pub held : Pairs
  pub bits : IsGroup Around (bits_of z run views pieces j) bit_messages
  pub reshared : 0 < length product_messages → AreReshared held bit_messages
  pub products : IsGroup Around (products_of z run views j chain held) product_messages
