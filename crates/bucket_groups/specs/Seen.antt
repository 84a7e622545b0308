-- What servers see of a query by the buckets of a column, from its sizes and that column alone.
use Rattle.std.specs.Prelude.{ℕ, List, [], ◌∷◌, ◌++◌}
use Rattle.table_schema.specs.declared.shapes.Aggregate.{Aggregate}
use Rattle.table_schema.specs.declared.shapes.Aggregate.TheVariants.{Count, Sum}
use Rattle.onehot_column.specs.Code.{width_of}
use Rattle.query_plan.specs.KeyMessages.{message_length}
use Rattle.visit_trace.specs.Seen.{AllSeen}
use Rattle.visit_trace.specs.Expected.{part_seen, product_lengths, step_lengths}
use Rattle.visit_trace.specs.Sizes.{count_of, opened_columns, run_columns}
use Rattle.visit_trace.specs.declared.sizes.Sizes.{Sizes}

-- the lengths between the products and the openings: where values are summed a server sends one message and receives one, of a word a
-- row each; where rows are counted there are none
abbrev pub value_lengths : Aggregate → Sizes → List ℕ
value_lengths Count z = []
value_lengths Sum z = step_lengths z

-- the columns that a run visits: those of the predicates, for a sum then the values, and then the column of the buckets
abbrev pub group_columns : Sizes → ℕ → List ℕ
group_columns z column = run_columns z ++ column ∷ []

-- the lengths of a run: those of its bits and products, of the values, and of the opening of a word a bucket
abbrev pub group_lengths : Sizes → ℕ → List ℕ
group_lengths z column = (product_lengths z (count_of z) ++ value_lengths z.shape.aggregate z) ++ width_of z.widths column ∷ []

-- the parts of a run after the products, and the whole run
abbrev pub values_part : Aggregate → Sizes → AllSeen
values_part a z = part_seen z (opened_columns a z.widths.columns) (value_lengths a z)

abbrev pub buckets_part : Sizes → ℕ → AllSeen
buckets_part z column = part_seen z (column ∷ []) (width_of z.widths column ∷ [])

abbrev pub group_part : Sizes → ℕ → AllSeen
group_part z column = part_seen z (group_columns z column) (group_lengths z column)

-- the trace of a query by buckets: the key message, and two runs
abbrev pub group_trace : Sizes → ℕ → AllSeen
group_trace z column = part_seen z (group_columns z column ++ group_columns z column)
    (message_length z.shape z.widths.bits ∷ (group_lengths z column ++ group_lengths z column))
