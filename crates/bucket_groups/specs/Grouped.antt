-- The plain answers of a query by the buckets of a column.
use Rattle.std.specs.Prelude.{ℕ, ℤ, ◌≡◌, ◌==◌, Bool, List, map, filter, slice_index}
use Rattle.list_facts.specs.Listed.{listed}
use Rattle.table_schema.specs.declared.rows.Row.{Row}
use Rattle.ring128.specs.Ring.{times}
use Rattle.onehot_column.specs.Code.{width_of}
use Rattle.ring128.specs.Signed.{word_of}
use Rattle.query_plan.specs.KeyMessages.{Asked}
use Rattle.query_plan.specs.Seeds.{weights_of}
use Rattle.query_plan.specs.Views.{key_from}
use Rattle.query_plan.specs.declared.query.Query.{Query}
use Rattle.transcript.specs.Plain.{plain}

abbrev pub is_in : ℕ → ℕ → Row → Bool
is_in column b row = b == slice_index row.buckets column

-- for each of the `width` buckets of the column, the plain answer over the rows with this bucket
abbrev pub grouped : Query → ℕ → ℕ → List Row → List ℤ
grouped query column width rows = listed width (λ b. plain query (filter (is_in column b) rows))

-- those of a query that keys were made for
abbrev pub grouped_for : Asked → ℕ → List Row → List ℤ
grouped_for asked column rows = grouped asked.query column (width_of asked.widths column) rows

-- each total is the plain answer over the rows of its bucket, and each weighted total the key of run 1 times it
pub record AreGrouped (asked : Asked) (column : ℕ) (rows : List Row) (total weighted : List ℕ) : Type 0 where
  pub plain_totals : total ≡ map word_of (grouped_for asked column rows)
  pub key_times : weighted
      ≡ map (λ (answer : ℤ). times (key_from (weights_of asked.seed 1) asked.query.count) (word_of answer)) (grouped_for asked column rows)
