-- What a cover is, and what the messages open where nothing was altered.
use Rattle.std.specs.Prelude.{ℕ, ◌≡◌, ◌<◌, ◌≤◌, ◌-◌, List, length, take, drop, All}
use Rattle.std.specs.List.{flat_map, range_with_len}
use Rattle.ring128.specs.Ring.{times}
use Rattle.replicated_share.specs.Share.{AreShares}
use Rattle.wire_line.specs.declared.message.Message.{Message}
use Rattle.wire_line.specs.Messages.{IsHonest}
use Rattle.table_schema.specs.declared.rows.Row.{Row}
use Rattle.table_schema.specs.declared.shapes.Aggregate.TheVariants.{Count}
use Rattle.table_schema.specs.declared.widths.Widths.{Widths}
use Rattle.table_schema.specs.Widths.{Holds}
use Rattle.onehot_column.specs.Code.{code_at, width_of}
use Rattle.ring128.specs.Signed.{word_of}
use Rattle.query_plan.specs.declared.query.Query.{Query}
use Rattle.query_plan.specs.KeyMessages.{Asked}
use Rattle.query_plan.specs.Laws.{AreKeysOf}
use Rattle.query_plan.specs.Query.{predicate_at, Suits}
use Rattle.query_plan.specs.Seeds.{weights_of}
use Rattle.query_plan.specs.Views.{key_from}
use Rattle.transcript.specs.Plain.{plain}
use Rattle.server_rounds.specs.Groups.{by_server}
use Rattle.row_tree.specs.Cover.{cover_of, places_of}
use Rattle.row_tree.specs.Rounds.{IsTreeTranscript, sides_over, tree_opened}
use Rattle.row_tree.specs.Column.{Tree}

-- the places of its nodes, one node's after another's, are a, a + 1, .. b - 1
abbrev pub CoverTiles : Type 0
CoverTiles = (a b : ℕ) → a ≤ b → flat_map places_of (cover_of a b) ≡ range_with_len a (b - a)

-- three servers' trees over a column hold these rows: they share the codes of the rows at the column
pub record TreesHold (w : Widths) (column : ℕ) (rows : List Row) (trees : ℕ → Tree) : Type 0 where
  pub held : All (Holds w) rows
  pub width : (k : ℕ) → k < 3 → (trees k).width ≡ width_of w column
  pub shared : AreShares (λ k. (trees k).first) (λ k. (trees k).second) (flat_map (code_at w column) rows)

-- the keys are of a count with one predicate, and the trees hold these rows at its column
pub record AsksTrees (asked : Asked) (rows : List Row) (trees : ℕ → Tree) : Type 0 where
  pub suits : Suits asked.widths.columns asked.widths.bits asked.query
  pub keys : AreKeysOf asked
  pub one : asked.query.count ≡ 1
  pub count : asked.query.aggregate ≡ Count
  pub hold : TreesHold asked.widths (predicate_at asked.query 0).column rows trees

-- the rows at the places from low to high - 1
abbrev pub rows_between : List Row → ℕ → ℕ → List Row
rows_between rows low high = take (high - low) (drop low rows)

-- where nothing was altered, the total is the number of the rows in the range that pass, and the weighted total is the key times it
abbrev pub TreesOpen : Type 0
TreesOpen = (asked : Asked) (rows : List Row) (zero one two : Tree) (low high : ℕ) (ms : List Message) → low ≤ high → high ≤ length rows
    → AsksTrees asked rows (by_server zero one two) → IsTreeTranscript (sides_over asked zero one two low high) ms → IsHonest ms
    → let answer = word_of (plain asked.query (rows_between rows low high)) in
    (tree_opened ms 0 ≡ answer) × (tree_opened ms 1 ≡ times (key_from (weights_of asked.seed 1) 1) answer)
