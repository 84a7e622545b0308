-- The words that a server sends in a step, from what it holds.
use Rattle.std.specs.Prelude.{ℕ, ◌+◌, ◌-◌, List, [], ◌∷◌}
use Rattle.list_facts.specs.Listed.{listed}
use Rattle.ring128.specs.Ring.{plus, dot_of, total_of}
use Rattle.zero_share.specs.Zero.{part_of}
use Rattle.share_product.specs.Product.{local_rows_of, inner_of}
use Rattle.scan_chunks.specs.Pieces.{Pieces, row_of}
use Rattle.table_schema.specs.declared.shapes.Aggregate.{Aggregate}
use Rattle.table_schema.specs.declared.shapes.Aggregate.TheVariants.{Count, Sum}
use Rattle.onehot_column.specs.Code.{width_of}
use Rattle.prg_chacha.specs.declared.seed.Seed.{Seed}
use Rattle.table_schema.specs.declared.widths.Widths.{Widths}
use Rattle.query_plan.specs.KeyMessages.{message_words, view_of}
use Rattle.query_plan.specs.Query.{shaped}
use Rattle.query_plan.specs.declared.query.Query.{Query}
use Rattle.transcript.specs.Setup.{Sizes, Ending, Setup, count_of, column_of}
use Rattle.query_plan.specs.Views.{View}
use Rattle.transcript.specs.Steps.{Step, bits, product, further, opening, counter_of, chain_step, step_before}

-- bits of predicate j, a number a row: the server's two tables at the row's two pieces, and a zero part
abbrev pub bits_words : Sizes → ℕ → View → Pieces → ℕ → List ℕ
bits_words z run view pieces j =
    let column = column_of z j in
    let width = width_of z.widths column in
    listed z.rows (λ i.
    plus
    (plus (dot_of (view.party0 run j) (row_of width i (pieces.first column)))
    (dot_of (view.party1 run j) (row_of width i (pieces.second column))))
    (part_of view.own view.next (counter_of (count_of z) run (bits j) + i)))

-- product j, a number a row: the local product of the server's pairs of the chain so far and of the bits of j, and a zero part
abbrev pub product_words : Sizes → ℕ → View → ℕ → List ℕ → List ℕ → List ℕ → List ℕ → List ℕ
product_words z run view j first second bits_first bits_second =
    local_rows_of first second bits_first bits_second view.own view.next (counter_of (count_of z) run (product j))

-- a server's share of the count of a chain, or of the sum of its products with the values
abbrev pub opening_share : Aggregate → List ℕ → List ℕ → List ℕ → List ℕ → ℕ
opening_share Count first second values_first values_second = total_of first
opening_share Sum first second values_first values_second = inner_of first second values_first values_second

-- the opening, one number: the server's share, and a zero part
abbrev pub opening_words : Sizes → ℕ → View → Pieces → List ℕ → List ℕ → List ℕ
opening_words z run view pieces first second =
    let value = z.widths.columns in
    plus
    (opening_share z.shape.aggregate first second (pieces.first value) (pieces.second value))
    (part_of view.own view.next (counter_of (count_of z) run opening)) ∷ []

-- a run that ends with one number: nothing further, and the opening
abbrev pub total_ending : Sizes → Ending
total_ending z = record { further = 0; words = λ run e view pieces first second. []; last = opening_words z }

-- what a server goes by in a run: what it read, its pieces, and the pair of lists that it holds after each step
pub record Seat : Type 0 where
  pub view : View
  pub pieces : Pieces
  pub first : Step → List ℕ
  pub second : Step → List ℕ

-- the words that a server sends in a step
abbrev pub words_of : Sizes → Ending → ℕ → Seat → Step → List ℕ
words_of z ending run seat (bits j) = bits_words z run seat.view seat.pieces j
words_of z ending run seat (product j) =
    let chain = chain_step (j - 1) in
    product_words z run seat.view j (seat.first chain) (seat.second chain) (seat.first (bits j)) (seat.second (bits j))
words_of z ending run seat (further e) =
    let held = step_before (count_of z) e in ending.words run e seat.view seat.pieces (seat.first held) (seat.second held)
words_of z ending run seat opening =
    let held = step_before (count_of z) ending.further in ending.last run seat.view seat.pieces (seat.first held) (seat.second held)

-- a query with its seed over `rows` rows, of which the servers hold these pieces
abbrev pub setup_for : Query → Widths → Seed → ℕ → (ℕ → Pieces) → Setup
setup_for query w seed rows pieces =
    let sizes : Sizes = record { rows = rows; widths = w; shape = shaped query } in record {
      sizes = sizes;
      ending = total_ending sizes;
      keys = message_words query w.bits seed;
      read = view_of (shaped query) w.bits;
      pieces = pieces;
    }
