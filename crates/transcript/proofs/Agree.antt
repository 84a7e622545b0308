-- Pieces that are the same at each column have the same messages.
use Rattle.std.proofs.Common.{◌≡◌, ◌∙◌, refl, ap, subst, ℕ, zero, suc, ◌+◌, ◌-◌, ◌<◌, ◌≤◌, List, [], ◌∷◌, length, arith}
use Rattle.list_facts.specs.Listed.{listed}
use Rattle.ring128.specs.Ring.{plus, dot_of}
use Rattle.scan_chunks.specs.Pieces.{Pieces, row_of}
use Rattle.onehot_column.specs.Code.{width_of}
use Rattle.zero_share.specs.Zero.{part_of}
use Rattle.wire_line.specs.declared.message.Message.{Message}
use Rattle.wire_line.specs.Messages.{message_at}
use Rattle.query_plan.specs.Views.{View}
use Rattle.transcript.specs.Setup.{Setup, Sizes, Ending, column_of, count_of, with_pieces}
use Rattle.transcript.specs.Steps.{Step, bits, product, further, opening, step_before, IsStep, counter_of, chain_step, place_of, peer_of, receiver_of}
use Rattle.transcript.specs.Formulas.{Seat, bits_words, opening_share, opening_words, words_of}
use Rattle.transcript.specs.Transcript.{Fits, IsPart, seat_of}
use Rattle.transcript.specs.Laws.{ColumnsSuffice, HasColumns, SamePiece, SamePieces, SeesColumns, TotalSeesColumns}

same_bits : (z : Sizes) (run : ℕ) (view : View) (p q : Pieces) (j : ℕ) → column_of z j < z.widths.columns → SamePiece z.widths.columns p q
    → bits_words z run view p j ≡ bits_words z run view q j
same_bits z run view p q j there e =
    let column = column_of z j in
    let here : column ≤ z.widths.columns = omega arith in
    let width = width_of z.widths column in
    let words = λ (first second : List ℕ). listed z.rows (λ i. plus (plus (dot_of (view.party0 run j) (row_of width i first)) (dot_of (view.party1 run j) (row_of width i second))) (part_of view.own view.next (counter_of (count_of z) run (bits j) + i))) in
    ap (λ (l : List ℕ). words l (p.second column)) (e.first column here) ∙ ap (λ (l : List ℕ). words (q.first column) l) (e.second column here)

same_opening : (z : Sizes) (run : ℕ) (view : View) (p q : Pieces) (first second : List ℕ) → SamePiece z.widths.columns p q
    → opening_words z run view p first second ≡ opening_words z run view q first second
same_opening z run view p q first second e =
    let value = z.widths.columns in
    let here : value ≤ value = omega arith in
    let words = λ (xs ys : List ℕ). plus (opening_share z.shape.aggregate first second xs ys) (part_of view.own view.next (counter_of (count_of z) run opening)) ∷ [] in
    ap (λ (l : List ℕ). words l (p.second value)) (e.first value here) ∙ ap (λ (l : List ℕ). words (q.first value) l) (e.second value here)

abbrev moved : Seat → Pieces → Seat
moved seat pieces = record { view = seat.view; pieces = pieces; first = seat.first; second = seat.second }

same_words : (z : Sizes) (ending : Ending) (run : ℕ) (seat : Seat) (pieces : Pieces) (step : Step) → IsStep (count_of z) ending.further step → HasColumns z
    → SeesColumns z.widths.columns ending → SamePiece z.widths.columns seat.pieces pieces → words_of z ending run seat step ≡ words_of z ending run (moved seat pieces) step
same_words z ending run seat pieces (bits j) h there sees e = same_bits z run seat.view seat.pieces pieces j (there j h) e
same_words z ending run seat pieces (product j) h there sees e = refl
same_words z ending run seat pieces (further i) h there sees e =
    let held = step_before (count_of z) i in sees.words run i seat.view seat.pieces pieces (seat.first held) (seat.second held) e
same_words z ending run seat pieces opening h there sees e =
    let held = step_before (count_of z) ending.further in sees.last run seat.view seat.pieces pieces (seat.first held) (seat.second held) e

pub total_sees_columns : TotalSeesColumns
total_sees_columns z = record {
  words = λ run e view p q first second same. refl;
  last = λ run view p q first second same. same_opening z run view p q first second same;
}

pub columns_suffice : ColumnsSuffice
columns_suffice s pieces ms there sees same part = record {
  few = part.few;
  keys = part.keys;
  steps = λ run step k two h b carried.
      let fits = part.steps run step k two h b carried in
      let e : SamePiece s.sizes.widths.columns (s.pieces k) (pieces k) = record { first = λ column c. same.first k column b c; second = λ column c. same.second k column b c } in
      record { from = fits.from; to = fits.to; words = fits.words ∙ same_words s.sizes s.ending run (seat_of s ms run k) (pieces k) step h there sees e; long = fits.long };
}
