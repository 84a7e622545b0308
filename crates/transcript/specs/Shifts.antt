-- What a query opens where all altered messages have one server as an end.
use Rattle.std.specs.Prelude.{ℕ, zero, suc, pos, ◌≡◌, ◌≢◌, ◌<◌, ◌-◌, List, [], length, map, slice_index, slice_index_or}
use Rattle.list_facts.specs.Listed.{listed}
use Rattle.ring128.specs.Ring.{plus, minus, times, dot_of, total_of}
use Rattle.wire_line.specs.declared.message.Message.{Message}
use Rattle.table_schema.specs.declared.rows.Row.{Row}
use Rattle.table_schema.specs.declared.shapes.Aggregate.{Aggregate}
use Rattle.table_schema.specs.declared.shapes.Aggregate.TheVariants.{Count, Sum}
use Rattle.ring128.specs.Signed.{word_of}
use Rattle.query_plan.specs.declared.query.Query.{Query}
use Rattle.query_plan.specs.Query.{predicate_at}
use Rattle.transcript.specs.Setup.{Setup, count_of}
use Rattle.transcript.specs.Steps.{Step, bits, product, opening, place_of, peer_of, after}
use Rattle.transcript.specs.Formulas.{Seat, words_of, total_ending}
use Rattle.wire_line.specs.Messages.{message_at}
use Rattle.transcript.specs.Transcript.{IsTranscript, opened_of}
use Rattle.transcript.specs.Laws.{Asks}
use Rattle.query_plan.specs.Views.{weight_inside}

-- each message without this server at its ends was received as it was sent
abbrev pub OneAltered : ℕ → List Message → Type 0
OneAltered server ms =
    (i : ℕ) → i < length ms → (message_at ms i).sender ≢ peer_of server → (message_at ms i).receiver ≢ peer_of server
    → (message_at ms i).received ≡ (message_at ms i).sent

-- server k as the others see it: what was sent to it, and what was received from it
abbrev pub realigned_seat : Setup → List Message → ℕ → ℕ → Seat
realigned_seat s ms run k = record {
  view = s.read (message_at ms k).sent;
  pieces = s.pieces k;
  first = λ step. (message_at ms (place_of (count_of s.sizes) s.ending.further run step k)).received;
  second = λ step. (message_at ms (place_of (count_of s.sizes) s.ending.further run step (after k))).sent;
}

-- the words that it would then send
abbrev pub realigned_words : Setup → List Message → ℕ → ℕ → Step → List ℕ
realigned_words s ms server run step = words_of s.sizes s.ending run (realigned_seat s ms run server) step

-- by how much a word that was received from it is off
abbrev pub shift_of : Setup → List Message → ℕ → ℕ → Step → ℕ → ℕ
shift_of s ms server run step i =
    minus (slice_index (message_at ms (place_of (count_of s.sizes) s.ending.further run step server)).received i)
    (slice_index (realigned_words s ms server run step) i)

-- the product of a row's bits through predicate j, with the shifts of each step
abbrev pub shifted_chain : (ℕ → ℕ → ℕ) → (Step → ℕ → ℕ) → ℕ → ℕ → ℕ
shifted_chain bit shift zero i = plus (bit 0 i) (shift (bits 0) i)
shifted_chain bit shift (suc j) i =
    plus (times (shifted_chain bit shift j i) (plus (bit (suc j) i) (shift (bits (suc j)) i))) (shift (product (suc j)) i)

abbrev pub no_row : Row
no_row = record { columns = 0; buckets = []; value = pos 0 }

-- the bit of predicate j at row i: its weight where the row passes, else 0
abbrev pub row_bit : Query → (ℕ → ℕ) → List Row → ℕ → ℕ → ℕ
row_bit query weights rows j i =
    let p = predicate_at query j in
    weight_inside p (weights j) (slice_index (slice_index_or rows i no_row).buckets p.column)

-- the sum of a chain, for a sum each place times its row's value
abbrev pub chain_sum : Aggregate → List ℕ → List ℕ → ℕ
chain_sum Count chain values = total_of chain
chain_sum Sum chain values = dot_of chain values

-- the sum of the rows' shifted chains of a run, and the shift of its opening
abbrev pub shifted_sum : Setup → Query → (ℕ → ℕ) → List Row → List Message → ℕ → ℕ → ℕ
shifted_sum s query weights rows ms run server =
    let shift = shift_of s ms server run in
    let chain = listed (length rows) (shifted_chain (row_bit query weights rows) shift (query.count - 1)) in
    plus (chain_sum query.aggregate chain (map (λ (row : Row). word_of row.value) rows)) (shift opening 0)

-- where all altered messages have one server as an end, a run opens the sum of the shifted chains and the shift of the opening
abbrev pub ShiftedOpen : Type 0
ShiftedOpen =
    (s : Setup) (query : Query) (weights : ℕ → ℕ → ℕ) (rows : List Row) (ms : List Message) (run server : ℕ) → run < 2 → server < 3
    → Asks s query weights rows → s.ending ≡ total_ending s.sizes → IsTranscript s ms → OneAltered server ms
    → opened_of s ms run ≡ shifted_sum s query (weights run) rows ms run server
