-- The words of the three servers in a step, and what the client opens.
use Rattle.std.specs.Prelude.{ℕ, ◌≡◌, List, length, slice_index}
use Rattle.ring128.specs.Ring.{plus, dot_of}
use Rattle.zero_share.specs.Zero.{part_of}
use Rattle.share_product.specs.Product.{locals_of}
use Rattle.list_facts.specs.Listed.{listed}
use Rattle.wire_line.specs.declared.message.Message.{Message}
use Rattle.wire_line.specs.Messages.{message_at}
use Rattle.scan_chunks.specs.Pieces.{Pieces}
use Rattle.scan_chunks.specs.Scan.{row_number}
use Rattle.onehot_column.specs.Code.{width_of}
use Rattle.query_plan.specs.Views.{View}
use Rattle.transcript.specs.Setup.{Sizes, column_of}
use Rattle.transcript.specs.Formulas.{bits_words, product_words, opening_words}
use Rattle.server_rounds.specs.Groups.{Pairs, first_of, second_of}

-- the number of each row at a server whose bits of predicate j are being made: what its scan gives, without parts of zero
abbrev pub bit_numbers : Sizes → ℕ → View → Pieces → ℕ → List ℕ
bit_numbers z run view pieces j =
    let column = column_of z j in
    listed z.rows
    (row_number (view.party0 run j) (view.party1 run j) (width_of z.widths column) (pieces.first column) (pieces.second column))

abbrev pub bits_of : Sizes → ℕ → (ℕ → View) → (ℕ → Pieces) → ℕ → ℕ → List ℕ
bits_of z run views pieces j k = bits_words z run (views k) (pieces k) j

-- the parts of a product at server k, without parts of zero
abbrev pub locals_at : Pairs → Pairs → ℕ → List ℕ
locals_at chain bits k = locals_of (first_of chain k) (second_of chain k) (first_of bits k) (second_of bits k)

abbrev pub products_of : Sizes → ℕ → (ℕ → View) → ℕ → Pairs → Pairs → ℕ → List ℕ
products_of z run views j chain bits k =
    product_words z run (views k) j (first_of chain k) (second_of chain k) (first_of bits k) (second_of bits k)

abbrev pub openings_of : Sizes → ℕ → (ℕ → View) → (ℕ → Pieces) → Pairs → ℕ → List ℕ
openings_of z run views pieces chain k = opening_words z run (views k) (pieces k) (first_of chain k) (second_of chain k)

-- the sum of the three words that the client received
pub record IsOpened (ms : List Message) (total : ℕ) : Type 0 where
  pub full : length ms ≡ 3
  pub sum : total
      ≡ plus (plus (slice_index (message_at ms 0).received 0) (slice_index (message_at ms 1).received 0))
      (slice_index (message_at ms 2).received 0)

-- the word of a server in a run of a query with one predicate over two sums of rows: its tables at the sums, and a part of zero
abbrev pub sum_word : View → ℕ → List ℕ → List ℕ → ℕ → ℕ
sum_word view run first second counter =
    plus (plus (dot_of (view.party0 run 0) first) (dot_of (view.party1 run 0) second)) (part_of view.own view.next counter)
