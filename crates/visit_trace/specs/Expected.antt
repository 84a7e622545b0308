-- What servers see of a query, from its sizes alone.
use Rattle.std.specs.Prelude.{ℕ, ◌-◌, ◌*◌, List, [], ◌∷◌, ◌++◌}
use Rattle.std.specs.List.{flat_map}
use Rattle.list_facts.specs.Listed.{listed}
use Rattle.scan_chunks.specs.Pieces.{chunks_of}
use Rattle.scan_chunks.specs.declared.visit.Visit.{Visit}
use Rattle.query_plan.specs.KeyMessages.{message_length}
use Rattle.visit_trace.specs.Seen.{AllSeen, alike}
use Rattle.visit_trace.specs.Sizes.{count_of, opened_columns, predicate_columns, run_columns, query_columns}
use Rattle.visit_trace.specs.declared.sizes.Sizes.{Sizes}

-- each chunk of a column of n rows once, rising
abbrev pub chunk_visits : ℕ → ℕ → List Visit
chunk_visits rows column = listed (chunks_of rows) (λ c. record { column = column; chunk = c })

-- the same for columns, one after another
abbrev pub visits_over : ℕ → List ℕ → List Visit
visits_over rows columns = flat_map (chunk_visits rows) columns

-- what each server sees of a part of a query that visits these columns and has messages of these lengths
abbrev pub part_seen : Sizes → List ℕ → List ℕ → AllSeen
part_seen z columns lengths = alike (record { visits = visits_over z.rows columns; lengths = lengths })

-- in each step but the opening a server sends one message and receives one, of a word a row each
abbrev pub step_lengths : Sizes → List ℕ
step_lengths z = z.rows ∷ z.rows ∷ []

-- the key messages: each server receives its own
abbrev pub keys_part : Sizes → AllSeen
keys_part z = part_seen z [] (message_length z.shape z.widths.bits ∷ [])

-- the lengths of the bits and products of a run with `count` predicates: the bits of each, and all products but the first
abbrev pub product_lengths : Sizes → ℕ → List ℕ
product_lengths z count = listed (2 * (2 * count - 1)) (λ i. z.rows)

-- those of a run, which ends with an opening of one word
abbrev pub run_lengths : Sizes → List ℕ
run_lengths z = product_lengths z (count_of z) ++ 1 ∷ []

-- those of a query: the key message, and the two runs
abbrev pub query_lengths : Sizes → List ℕ
query_lengths z = message_length z.shape z.widths.bits ∷ (run_lengths z ++ run_lengths z)

-- the parts of a query: the bits of predicate j; a product; the opening; all bits and products of a run; a run
abbrev pub bits_part : Sizes → ℕ → AllSeen
bits_part z column = part_seen z (column ∷ []) (step_lengths z)

abbrev pub product_part : Sizes → AllSeen
product_part z = part_seen z [] (step_lengths z)

abbrev pub opening_part : Sizes → AllSeen
opening_part z = part_seen z (opened_columns z.shape.aggregate z.widths.columns) (1 ∷ [])

abbrev pub products_part : Sizes → AllSeen
products_part z = part_seen z (predicate_columns z) (product_lengths z (count_of z))

abbrev pub run_part : Sizes → AllSeen
run_part z = part_seen z (run_columns z) (run_lengths z)

-- the trace of a query
abbrev pub trace_of : Sizes → AllSeen
trace_of z = part_seen z (query_columns z) (query_lengths z)
