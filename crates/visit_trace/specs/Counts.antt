-- How many visits a trace has at each server, and how many words its messages have.
use Rattle.std.specs.Prelude.{ℕ, ◌≡◌, ◌<◌, ◌≤◌, ◌+◌, ◌-◌, ◌*◌, List, length}
use Rattle.list_facts.specs.Count.{total}
use Rattle.query_plan.specs.KeyMessages.{message_length}
use Rattle.scan_chunks.specs.Pieces.{chunks_of}
use Rattle.table_schema.specs.declared.shapes.Aggregate.{Aggregate}
use Rattle.table_schema.specs.declared.shapes.Aggregate.TheVariants.{Count, Sum}
use Rattle.table_schema.specs.declared.shapes.Shape.{Shape}
use Rattle.visit_trace.specs.Expected.{trace_of}
use Rattle.visit_trace.specs.Seen.{Seen, seen_by}
use Rattle.visit_trace.specs.Sizes.{count_of}
use Rattle.visit_trace.specs.declared.sizes.Sizes.{Sizes}

-- how many columns of values a query reads
abbrev pub value_columns : Aggregate → ℕ
value_columns Count = 0
value_columns Sum = 1

-- the visits of a query over n rows at each server: in each of its two runs all chunks of the predicates' columns and of the values
-- that it reads
abbrev pub visits_over : ℕ → Shape → ℕ
visits_over n shape = 2 * (chunks_of n * (shape.count + value_columns shape.aggregate))

-- the words that each server sends or receives for a query over n rows of columns of these bits: its key message; and in each run, for
-- the bits of each predicate and for each product, n words out and n words in, and one word to the client
abbrev pub words_over : List ℕ → ℕ → Shape → ℕ
words_over bits n shape = message_length shape bits + 2 * (2 * n * (2 * shape.count - 1) + 1)

-- what a server sees has these numbers
pub record HasCounts (v w : ℕ) (seen : Seen) : Type 0 where
  pub visits : length seen.visits ≡ v
  pub words : total (λ (n : ℕ). n) seen.lengths ≡ w

-- the trace of sizes has the numbers that follow from them, at each server
abbrev pub CountsFollow : Type 0
CountsFollow = (z : Sizes) (k : ℕ) → k < 3 → 1 ≤ count_of z
    → HasCounts (visits_over z.rows z.shape) (words_over z.widths.bits z.rows z.shape) (seen_by (trace_of z) k)
