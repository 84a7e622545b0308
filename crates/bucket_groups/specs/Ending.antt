-- How a run ends that gives a number for each bucket of a column.
use Rattle.std.specs.Prelude.{ℕ, ◌+◌, ◌*◌, List, length, slice_index}
use Rattle.list_facts.specs.Listed.{listed}
use Rattle.prg_chacha.specs.declared.seed.Seed.{Seed}
use Rattle.ring128.specs.Ring.{plus}
use Rattle.zero_share.specs.Zero.{part_of}
use Rattle.share_product.specs.Product.{locals_of, local_rows_of, inner_of}
use Rattle.scan_chunks.specs.Pieces.{Pieces, row_of}
use Rattle.table_schema.specs.declared.shapes.Aggregate.{Aggregate}
use Rattle.table_schema.specs.declared.shapes.Aggregate.TheVariants.{Count, Sum}
use Rattle.table_schema.specs.declared.widths.Widths.{Widths}
use Rattle.onehot_column.specs.Code.{width_of}
use Rattle.query_plan.specs.KeyMessages.{message_words, view_of}
use Rattle.query_plan.specs.Query.{shaped}
use Rattle.query_plan.specs.Views.{View}
use Rattle.query_plan.specs.declared.query.Query.{Query}
use Rattle.wire_line.specs.declared.message.Message.{Message}
use Rattle.transcript.specs.Setup.{Sizes, Ending, Setup}
use Rattle.transcript.specs.Transcript.{opened_at}

-- where values are summed, the servers first multiply the products of the bits by the values; where rows are counted, nothing
abbrev pub further_steps : Aggregate → ℕ
further_steps Count = 0
further_steps Sum = 1

-- place b of each row of a column of this width
abbrev pub places_of : ℕ → ℕ → ℕ → List ℕ → List ℕ
places_of n width b cells = listed n (λ i. slice_index (row_of width i cells) b)

-- the products with the values, a number a row: the local product of the server's pairs, and a zero part
abbrev pub value_words : Sizes → ℕ → View → Pieces → List ℕ → List ℕ → List ℕ
value_words z run view pieces first second =
    let value = z.widths.columns in
    local_rows_of first second (pieces.first value) (pieces.second value) view.own view.next ((32 + 2 * run) * 65536)

-- the same without the zero parts
abbrev pub value_products : Sizes → Pieces → List ℕ → List ℕ → List ℕ
value_products z pieces first second =
    let value = z.widths.columns in
    locals_of first second (pieces.first value) (pieces.second value)

-- for each of `width` buckets, the sum over `n` rows of the local products of their pairs with their cells of the bucket
abbrev pub sums_of : ℕ → ℕ → List ℕ → List ℕ → List ℕ → List ℕ → List ℕ
sums_of n width first second x y = listed width (λ b. inner_of first second (places_of n width b x) (places_of n width b y))

-- the sums of the buckets, with those of some more rows
abbrev pub with_rows : List ℕ → List ℕ → List ℕ → List ℕ → List ℕ → List ℕ
with_rows sums first second x y =
    let n = length first in
    let width = length sums in
    listed width (λ b. plus (slice_index sums b) (inner_of first second (places_of n width b x) (places_of n width b y)))

-- the openings, a number a bucket: the sum over the rows of the local products with the cells of the bucket, and a zero part
abbrev pub bucket_words : Sizes → ℕ → ℕ → View → Pieces → List ℕ → List ℕ → List ℕ
bucket_words z column run view pieces first second =
    let width = width_of z.widths column in
    listed width (λ b.
    plus
    (inner_of first second (places_of z.rows width b (pieces.first column)) (places_of z.rows width b (pieces.second column)))
    (part_of view.own view.next ((33 + 2 * run) * 65536 + b)))

abbrev pub bucket_ending : Sizes → ℕ → Ending
bucket_ending z column = record {
  further = further_steps z.shape.aggregate;
  words = λ run e. value_words z run;
  last = bucket_words z column;
}

-- a query with its seed over `rows` rows, of which the servers hold these pieces, by the buckets of a column
abbrev pub groups_for : Query → ℕ → Widths → Seed → ℕ → (ℕ → Pieces) → Setup
groups_for query column w seed rows pieces =
    let sizes : Sizes = record { rows = rows; widths = w; shape = shaped query } in record {
      sizes = sizes;
      ending = bucket_ending sizes column;
      keys = message_words query w.bits seed;
      read = view_of (shaped query) w.bits;
      pieces = pieces;
    }

-- what the client opens in a run: a number a bucket
abbrev pub opened_groups : Setup → ℕ → List Message → ℕ → List ℕ
opened_groups s column ms run = listed (width_of s.sizes.widths column) (opened_at s ms run)
