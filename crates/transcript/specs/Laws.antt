-- What a query opens where nothing was altered.
use Rattle.std.specs.Prelude.{ℕ, ◌≡◌, ◌<◌, ◌≤◌, ◌^◌, ◌-◌, cond, List, length, map, All}
use Rattle.scan_chunks.specs.Pieces.{Pieces}
use Rattle.ring128.specs.Ring.{times}
use Rattle.wire_line.specs.declared.message.Message.{Message}
use Rattle.table_schema.specs.declared.rows.Row.{Row}
use Rattle.table_schema.specs.declared.widths.Widths.{Widths}
use Rattle.table_schema.specs.Widths.{Holds}
use Rattle.ring128.specs.Signed.{word_of, size_of}
use Rattle.query_plan.specs.declared.query.Query.{Query}
use Rattle.query_plan.specs.KeyMessages.{message_length}
use Rattle.query_plan.specs.Query.{shaped, Suits}
use Rattle.query_plan.specs.Views.{AreKeys, View, key_from}
use Rattle.replicated_share.specs.Share.{AreShares}
use Rattle.transcript.specs.Plain.{plain, passes}
use Rattle.transcript.specs.Formulas.{total_ending}
use Rattle.transcript.specs.Setup.{Setup, Sizes, Ending, column_of, count_of, with_pieces}
use Rattle.transcript.specs.Steps.{Step, bits, product, further, opening, IsStep, chain_step, place_of}
use Rattle.visit_trace.specs.Expected.{trace_of}
use Rattle.visit_trace.specs.Seen.{lengths_at, seen_by}
use Rattle.wire_line.specs.Messages.{IsHonest, message_at}
use mathlib.Core.List.{IsPrefix}
use Rattle.transcript.specs.Transcript.{IsPart, IsTranscript, opened_of, seat_of}
use Rattle.prg_chacha.specs.declared.seed.Seed.{Seed}
use Rattle.transcript.specs.Rows.{HoldRows, pieces_over}

-- a query over three servers that hold these rows, with the keys of this query and these weights
pub record Asks (s : Setup) (query : Query) (weights : ℕ → ℕ → ℕ) (rows : List Row) : Type 0 where
  pub suits : Suits s.sizes.widths.columns s.sizes.widths.bits query
  pub shape : s.sizes.shape ≡ shaped query
  pub keys : AreKeys s.sizes.widths.bits (λ k. s.read (s.keys k)) query weights
  pub hold : HoldRows s.sizes.widths rows s.pieces
  pub long : s.sizes.rows ≡ length rows

-- the products of a run through predicate j, for each row: the key so far where the row passes, else 0
abbrev pub passing : Query → (ℕ → ℕ) → List Row → List ℕ
passing query weights rows = map (λ (row : Row). cond (passes query row) (key_from weights query.count) 0) rows

-- where nothing was altered, the servers share the products of the bits, however the run ends
abbrev pub ProductsShared : Type 0
ProductsShared =
    (s : Setup) (query : Query) (weights : ℕ → ℕ → ℕ) (rows : List Row) (ms : List Message) (run : ℕ) → run < 2
    → Asks s query weights rows → IsTranscript s ms → IsHonest ms
    → let step = chain_step (count_of s.sizes - 1) in
    AreShares (λ k. (seat_of s ms run k).first step) (λ k. (seat_of s ms run k).second step) (passing query (weights run) rows)

-- where nothing was altered, a run opens its key times the plain answer
abbrev pub RunsOpen : Type 0
RunsOpen =
    (s : Setup) (query : Query) (weights : ℕ → ℕ → ℕ) (rows : List Row) (ms : List Message) (run : ℕ) → run < 2
    → Asks s query weights rows → s.ending ≡ total_ending s.sizes → IsTranscript s ms → IsHonest ms
    → opened_of s ms run ≡ times (key_from (weights run) (query.count)) (word_of (plain query rows))

-- where the weights of run 0 are 1 and nothing was altered, the total is the plain answer, and the weighted total is the key times it
abbrev pub PairOpens : Type 0
PairOpens =
    (s : Setup) (query : Query) (weights : ℕ → ℕ → ℕ) (rows : List Row) (ms : List Message) → ((j : ℕ) → weights 0 j ≡ 1)
    → Asks s query weights rows → s.ending ≡ total_ending s.sizes → IsTranscript s ms → IsHonest ms
    → let answer = word_of (plain query rows) in
    (opened_of s ms 0 ≡ answer) × (opened_of s ms 1 ≡ times (key_from (weights 1) (query.count)) answer)

-- a plain answer is small
abbrev pub PlainIsSmall : Type 0
PlainIsSmall =
    (w : Widths) (query : Query) (rows : List Row) → All (Holds w) rows → length rows ≤ 65536 → size_of (plain query rows) < 2 ^ 48

-- how many words a message of a step has
abbrev pub step_length : Sizes → Step → ℕ
step_length z (bits j) = z.rows
step_length z (product j) = z.rows
step_length z (further e) = z.rows
step_length z opening = 1

-- the lengths of a transcript's messages rest on the sizes alone, whatever was altered
abbrev pub LengthsAreSizes : Type 0
LengthsAreSizes =
    (s : Setup) (ms : List Message) (run : ℕ) (step : Step) (k : ℕ) → run < 2 → IsStep (count_of s.sizes) s.ending.further step → k < 3
    → s.ending ≡ total_ending s.sizes → IsTranscript s ms
    → let m = message_at ms (place_of (count_of s.sizes) s.ending.further run step k) in
    (length m.sent ≡ step_length s.sizes step) × (length m.received ≡ step_length s.sizes step)

-- the key words of each server are as many as the sizes ask for
abbrev pub KeysAreLong : Setup → Type 0
KeysAreLong s = (k : ℕ) → k < 3 → length (s.keys k) ≡ message_length s.sizes.shape s.sizes.widths.bits

-- the lengths of all messages that a server sends or receives, in order, are those of the trace of the sizes, whatever was altered
abbrev pub LengthsAreTrace : Type 0
LengthsAreTrace =
    (s : Setup) (ms : List Message) (k : ℕ) → k < 3 → s.ending ≡ total_ending s.sizes → 0 < count_of s.sizes → KeysAreLong s
    → IsTranscript s ms
    → lengths_at k ms ≡ (seen_by (trace_of s.sizes) k).lengths

-- those of the first messages are a prefix of them
abbrev pub LengthsBeginTrace : Type 0
LengthsBeginTrace =
    (s : Setup) (ms : List Message) (k : ℕ) → k < 3 → s.ending ≡ total_ending s.sizes → 0 < count_of s.sizes → KeysAreLong s → IsPart s ms
    → IsPrefix (lengths_at k ms) (seen_by (trace_of s.sizes) k).lengths

-- what the servers hold of rows that were split by seeds holds these rows, whatever the seeds
abbrev pub PiecesHold : Type 0
PiecesHold = (w : Widths) (entries : List (Row × Seed)) → All (λ (entry : Row × Seed). Holds w entry.0) entries
    → HoldRows w (map (λ (entry : Row × Seed). entry.0) entries) (pieces_over w entries)

-- the predicates' columns are there
abbrev pub HasColumns : Sizes → Type 0
HasColumns z = (j : ℕ) → j < count_of z → column_of z j < z.widths.columns

-- a server's pieces that are the same at each column, the value's among them
pub record SamePiece (columns : ℕ) (p q : Pieces) : Type 0 where
  pub first : (column : ℕ) → column ≤ columns → p.first column ≡ q.first column
  pub second : (column : ℕ) → column ≤ columns → p.second column ≡ q.second column

-- pieces that are the same at each column, the value's among them
pub record SamePieces (columns : ℕ) (p q : ℕ → Pieces) : Type 0 where
  pub first : (k column : ℕ) → k < 3 → column ≤ columns → (p k).first column ≡ (q k).first column
  pub second : (k column : ℕ) → k < 3 → column ≤ columns → (p k).second column ≡ (q k).second column

-- the end of a run rests on the pieces at these columns alone
pub record SeesColumns (columns : ℕ) (ending : Ending) : Type 0 where
  pub words : (run e : ℕ) (view : View) (p q : Pieces) (first second : List ℕ) → SamePiece columns p q
      → ending.words run e view p first second ≡ ending.words run e view q first second
  pub last : (run : ℕ) (view : View) (p q : Pieces) (first second : List ℕ) → SamePiece columns p q
      → ending.last run view p first second ≡ ending.last run view q first second

-- that of a total does
abbrev pub TotalSeesColumns : Type 0
TotalSeesColumns = (z : Sizes) → SeesColumns z.widths.columns (total_ending z)

-- of the pieces just the columns that there are count for the messages
abbrev pub ColumnsSuffice : Type 0
ColumnsSuffice =
    (s : Setup) (pieces : ℕ → Pieces) (ms : List Message) → HasColumns s.sizes → SeesColumns s.sizes.widths.columns s.ending
    → SamePieces s.sizes.widths.columns s.pieces pieces
    → IsPart s ms → IsPart (with_pieces s pieces) ms
