-- The query of `tree`: its messages, and what they open.
use Rattle.std.specs.Prelude.{ℕ, ℤ, ◌≡◌, ◌<◌, ◌≤◌, ⊤, Result, Ok, List, [], ◌∷◌, length, slice_index_or}
use Rattle.agreed_rows.specs.Answers.{judged}
use Rattle.onehot_column.specs.Code.{width_of}
use Rattle.prg_chacha.specs.Prg.{derive_of}
use Rattle.prg_chacha.specs.declared.seed.Seed.{Seed}
use Rattle.query_plan.specs.KeyMessages.{Asked}
use Rattle.query_plan.specs.Query.{predicate_at}
use Rattle.query_plan.specs.declared.query.Query.{Query}
use Rattle.row_tree.specs.Column.{Tree}
use Rattle.row_tree.specs.Laws.{rows_between}
use Rattle.row_tree.specs.Rounds.{IsTreePart, IsTreeTranscript, Sides, sides_over, tree_opened}
use Rattle.row_tree.specs.declared.exchange.TreePair.{TreePair}
use Rattle.scan_chunks.specs.Pieces.{Pieces}
use Rattle.schedule_play.specs.Appended.{seeded_rows}
use Rattle.schedule_play.specs.History.{Done}
use Rattle.schedule_play.specs.Tasks.{IsSetting, Setting}
use Rattle.server_rounds.specs.declared.opened.OpenedPair.{OpenedPair}
use Rattle.table_schema.specs.declared.rows.Row.{Row}
use Rattle.table_schema.specs.declared.shapes.Aggregate.TheVariants.{Count}
use Rattle.table_schema.specs.declared.widths.Widths.{Widths}
use Rattle.transcript.specs.Plain.{plain}
use Rattle.transcript.specs.Rows.{pieces_over}
use Rattle.weighted_check.specs.declared.Altered.{Altered}
use Rattle.waldo_words.specs.declared.schedule.Step.TheVariants.{Answer}
use Rattle.wire_line.specs.Messages.{IsHonest}
use Rattle.wire_line.specs.declared.message.Message.{Message}

-- the one query of a setting, which has the master seed's seed for 2, 0 and 0
abbrev pub no_query : Query
no_query = record { aggregate = Count; count = 0; predicates = [] }

abbrev pub query_in : Setting → Query
query_in s = slice_index_or s.queries 0 no_query

abbrev pub seed_in : Setting → Seed
seed_in s = derive_of s.master 2 0 0

abbrev pub asked_in : Widths → Setting → Asked
asked_in w s = record { query = query_in s; widths = w; seed = seed_in s }

-- a count with one predicate over the places from low to high - 1
pub record IsRange (w : Widths) (s : Setting) (low high : ℕ) : Type 0 where
  pub setting : IsSetting w s
  pub single : length s.queries ≡ 1
  pub one : (query_in s).count ≡ 1
  pub count : (query_in s).aggregate ≡ Count
  pub order : low ≤ high

-- a server's tree over a column of these pieces of rows
abbrev pub server_tree : Widths → ℕ → ℕ → Pieces → Tree
server_tree w column rows pieces = record {
  column = column;
  width = width_of w column;
  rows = rows;
  first = pieces.first column;
  second = pieces.second column;
  visits = [];
}

-- the tree of server k over a column of rows, each split by its seed
abbrev pub tree_over : Widths → List (Row × Seed) → ℕ → ℕ → Tree
tree_over w entries column k = server_tree w column (length entries) (pieces_over w entries k)

-- the tree of server k over the query's column of all rows
abbrev pub tree_in : Widths → Setting → ℕ → Tree
tree_in w s k = tree_over w (seeded_rows s.master 0 s.rows) (predicate_at (query_in s) 0).column k

abbrev pub sides_in : Widths → Setting → ℕ → ℕ → Sides
sides_in w s low high = sides_over (asked_in w s) (tree_in w s 0) (tree_in w s 1) (tree_in w s 2) low high

-- a pair that a query over trees opened
abbrev pub opened_by : TreePair → OpenedPair
opened_by pair = record { total = pair.total; weighted = pair.weighted }

-- what nine messages open
abbrev pub pair_of : List Message → OpenedPair
pair_of ms = record { total = tree_opened ms 0; weighted = tree_opened ms 1 }

-- the messages of the query and what they opened: none where there are fewer rows than the range asks for, else the nine of actor 0
abbrev pub HasRange : Widths → Setting → ℕ → ℕ → List Done → Type 0
HasRange w s low high [] = length s.rows < high
HasRange w s low high (d ∷ []) =
    (high ≤ length s.rows) × (d.step ≡ Answer 0 0) × IsTreeTranscript (sides_in w s low high) d.messages × (d.pair ≡ pair_of d.messages)
HasRange w s low high (d ∷ e ∷ ds) = ⊥

-- the first of the messages, if any
abbrev pub BeginsRange : Widths → Setting → ℕ → ℕ → List Done → Type 0
BeginsRange w s low high [] = ⊤
BeginsRange w s low high (d ∷ []) = (d.step ≡ Answer 0 0) × IsTreePart (sides_in w s low high) d.messages
BeginsRange w s low high (d ∷ e ∷ ds) = ⊥

-- how many of the rows in the range pass
abbrev pub plain_count : Setting → ℕ → ℕ → ℤ
plain_count s low high = plain (query_in s) (rows_between s.rows low high)

-- what the check says of a pair that the query opened
abbrev pub judged_in : Setting → OpenedPair → Result ℤ Altered
judged_in s pair = judged (query_in s) (seed_in s) pair

-- of messages that were received as they were sent the check accepts the pair, and it is that number
abbrev pub IsPlainRange : Setting → ℕ → ℕ → List Done → Type 0
IsPlainRange s low high [] = ⊤
IsPlainRange s low high (d ∷ ds) = IsHonest d.messages → judged_in s d.pair ≡ Ok (plain_count s low high)
