-- What a query by buckets opens where nothing was altered.
use Rattle.std.specs.Prelude.{ℕ, ℤ, ◌≡◌, ◌<◌, ◌≤◌, List, map}
use Rattle.ring128.specs.Ring.{times}
use Rattle.wire_line.specs.declared.message.Message.{Message}
use Rattle.wire_line.specs.Messages.{IsHonest}
use Rattle.table_schema.specs.declared.rows.Row.{Row}
use Rattle.onehot_column.specs.Code.{width_of}
use Rattle.ring128.specs.Signed.{word_of}
use Rattle.query_plan.specs.declared.query.Query.{Query}
use Rattle.query_plan.specs.Views.{key_from}
use Rattle.transcript.specs.Setup.{Setup, Sizes}
use Rattle.transcript.specs.Transcript.{IsTranscript}
use Rattle.transcript.specs.Laws.{Asks, SeesColumns}
use Rattle.bucket_groups.specs.Ending.{bucket_ending, opened_groups}
use Rattle.bucket_groups.specs.Grouped.{grouped}

-- where nothing was altered, a run opens, bucket by bucket, its key times the plain answer over the rows of the bucket
abbrev pub GroupsOpen : Type 0
GroupsOpen =
    (s : Setup) (query : Query) (weights : ℕ → ℕ → ℕ) (rows : List Row) (ms : List Message) (run column : ℕ) → run < 2
    → column < s.sizes.widths.columns → Asks s query weights rows → s.ending ≡ bucket_ending s.sizes column → IsTranscript s ms
    → IsHonest ms
    → opened_groups s column ms run
    ≡ map (λ (answer : ℤ). times (key_from (weights run) query.count) (word_of answer))
    (grouped query column (width_of s.sizes.widths column) rows)

-- where the weights of run 0 are 1 and nothing was altered, the totals are the plain answers, and the weighted totals the key times them
abbrev pub GroupPairsOpen : Type 0
GroupPairsOpen =
    (s : Setup) (query : Query) (weights : ℕ → ℕ → ℕ) (rows : List Row) (ms : List Message) (column : ℕ) → ((j : ℕ) → weights 0 j ≡ 1)
    → column < s.sizes.widths.columns → Asks s query weights rows → s.ending ≡ bucket_ending s.sizes column → IsTranscript s ms
    → IsHonest ms
    → let answers = grouped query column (width_of s.sizes.widths column) rows in
    (opened_groups s column ms 0 ≡ map word_of answers)
    × (opened_groups s column ms 1 ≡ map (λ (answer : ℤ). times (key_from (weights 1) query.count) (word_of answer)) answers)

-- the end of a run by buckets rests on the pieces at the table's columns alone
abbrev pub BucketsSeeColumns : Type 0
BucketsSeeColumns = (z : Sizes) (column : ℕ) → column ≤ z.widths.columns → SeesColumns z.widths.columns (bucket_ending z column)
