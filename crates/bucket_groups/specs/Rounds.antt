-- The steps of a run that come after the products of the bits, at all servers.
use Rattle.std.specs.Prelude.{ℕ, ◌≡◌, ◌<◌, ◌+◌, ◌*◌, List, [], length, slice_index}
use Rattle.ring128.specs.Ring.{sums3}
use Rattle.wire_line.specs.declared.message.Message.{Message}
use Rattle.wire_line.specs.Messages.{message_at}
use Rattle.scan_chunks.specs.Pieces.{Pieces}
use Rattle.table_schema.specs.declared.shapes.Aggregate.{Aggregate}
use Rattle.table_schema.specs.declared.shapes.Aggregate.TheVariants.{Count, Sum}
use Rattle.onehot_column.specs.Code.{width_of}
use Rattle.query_plan.specs.Views.{View}
use Rattle.transcript.specs.Setup.{Sizes, count_of}
use Rattle.server_rounds.specs.declared.way.Way.TheVariants.{Around}
use Rattle.server_rounds.specs.Groups.{Pairs, first_of, second_of, IsGroup, AreReshared}
use Rattle.server_rounds.specs.Runs.{IsRun}
use Rattle.bucket_groups.specs.Ending.{value_words, bucket_words, bucket_ending, further_steps}

abbrev pub values_of : Sizes → ℕ → (ℕ → View) → (ℕ → Pieces) → Pairs → ℕ → List ℕ
values_of z run views pieces chain k = value_words z run (views k) (pieces k) (first_of chain k) (second_of chain k)

abbrev pub buckets_of : Sizes → ℕ → ℕ → (ℕ → View) → (ℕ → Pieces) → Pairs → ℕ → List ℕ
buckets_of z column run views pieces held k = bucket_words z column run (views k) (pieces k) (first_of held k) (second_of held k)

-- the messages before the openings, as far as they were carried: none where rows are counted
abbrev pub IsValuePart : Aggregate → (ℕ → List ℕ) → List Message → Type 0
IsValuePart Count words ms = ms ≡ []
IsValuePart Sum words ms = IsGroup Around words ms

-- what the servers hold after them
abbrev pub AreValued : Aggregate → Pairs → List Message → Pairs → Type 0
AreValued Count chain ms held = held ≡ chain
AreValued Sum chain ms held = AreReshared held ms

-- the sums, place by place, of the three lists that the client received
pub record AreOpened (ms : List Message) (totals : List ℕ) : Type 0 where
  pub full : length ms ≡ 3
  pub sum : totals ≡ sums3 (message_at ms 0).received (message_at ms 1).received (message_at ms 2).received

-- these are all messages of a run by buckets, and the client opened these numbers
pub record AreGroups (z : Sizes) (column : ℕ) (pieces : ℕ → Pieces) (run : ℕ) (views : ℕ → View)
    (ms : List Message) (totals : List ℕ) : Type 0 where
  pub some : 0 < count_of z
  pub full : length ms ≡ 6 * count_of z + 3 * further_steps z.shape.aggregate
  pub long : length totals ≡ width_of z.widths column
  pub at : (b : ℕ) → b < width_of z.widths column → IsRun z (bucket_ending z column) pieces run views ms b (slice_index totals b)
