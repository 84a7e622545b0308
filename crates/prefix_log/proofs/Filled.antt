-- Chunks that take rows one after another.
use Rattle.std.proofs.Common.{true, Result, Ok, Err, OnOk, [], ◌∷◌, ◌++◌, map, reverse, append_assoc, ◌≡◌, ◌≢◌, ◌∙◌, refl, sym, ap, ℕ, ◌+◌, ◌*◌, ◌<◌, ◌≤◌, ◌⊎◌, ⊎_elim, List, length, get_or, arith}
use Rattle.std.specs.Result.{is_ok}
use Rattle.std.proofs.lemmas.Bool.{cases_order}
use Rattle.std.proofs.lemmas.List.{map_push, reverse-append}
use Rattle.std.proofs.lemmas.Nat.{mul-le}
use Rattle.list_facts.proofs.Listed.{listed_is, listed_same}
use Rattle.table_schema.specs.Widths.{code_length, column_bits}
use Rattle.table_schema.specs.declared.widths.Widths.{Widths}
use Rattle.onehot_column.specs.Code.{cells_at, width_of}
use Rattle.onehot_column.specs.Piece.{HasWidths, IsPiece}
use Rattle.onehot_column.specs.declared.piece.Piece.{Piece}
use Rattle.prefix_log.specs.Bulk.{AreFilled, RowIs}
use Rattle.prefix_log.specs.Chunks.{Halves, HasRoom, IsWritten, RowWritten, halves_at}
use Rattle.prefix_log.specs.RowLists.{row_cells}
use Rattle.prefix_log.specs.declared.bulk.Entry.{Entry}
use Rattle.prefix_log.proofs.Columns.{cells_wide}
use Rattle.prefix_log.proofs.Kept.{by_place}
use Rattle.prefix_log.proofs.Written.{row_room, row_rows, row_there}

-- a chunk that has room for some rows has room for fewer
pub room_less : (w : Widths) (m n : ℕ) (chunk : List Halves) → m ≤ n → HasRoom w n chunk → HasRoom w m chunk
room_less w m n chunk le has = record {
  columns = has.columns;
  room = λ column c. let less : m * width_of w column ≤ n * width_of w column = mul-le m (width_of w column) n (width_of w column) le (omega arith) in omega (arith, less, has.room column c);
}

module _ (w : Widths) (row c : ℕ) (part old new : List ℕ) (le : c ≤ w.columns) (long : length part ≡ code_length (column_bits w)) (here : IsWritten (row * width_of w c) (cells_at w c part) old new) where
  -- a row that was written
  row_here : row_cells (width_of w c) new row ≡ cells_at w c part
  row_here =
      let wide = cells_wide w c part le long in
      sym (listed_is (width_of w c) _ 0 (cells_at w c part) wide (λ i lt. sym (here.inside i (omega (arith, wide)))))

  -- and others, which stay
  row_stays : (r : ℕ) → r ≢ row → row_cells (width_of w c) new r ≡ row_cells (width_of w c) old r
  row_stays r ne = listed_same (width_of w c) _ _ (λ i lt. ⊎_elim (λ (e : r ≡ row). absurd (ne e))
      (λ (o : (r < row) ⊎ (row < r)). ⊎_elim
      (λ (less : r < row).
      let up : (r + 1) * width_of w c ≤ row * width_of w c = mul-le (r + 1) (width_of w c) row (width_of w c) (omega arith) (omega arith) in
      here.before (r * width_of w c + i) (omega arith))
      (λ (more : row < r).
      let up : (row + 1) * width_of w c ≤ r * width_of w c = mul-le (row + 1) (width_of w c) r (width_of w c) (omega arith) (omega arith) in
      let wide = cells_wide w c part le long in
      here.after (r * width_of w c + i) (omega (arith, wide))) o) (cases_order r row))

-- a piece that was written as row n, after the first n rows
module _ (w : Widths) (k n : ℕ) (entries : List Entry) (e : Entry) (p : Piece) (old new : List Halves) (columns : length old ≡ w.columns + 1) (is : RowWritten w n p.cells.first p.cells.second old new)
    (piece : IsPiece w e.row e.seed k p) (widths : HasWidths w p) where
  also : length p.cells.second ≡ code_length (column_bits w)
  also = sym p.cells.lengths ∙ widths

  last : RowIs w k e n new
  last = record {
    first = λ c le. row_here w n c p.cells.first (halves_at old c).first (halves_at new c).first le widths (is.each c le).first ∙ ap (cells_at w c) piece.first;
    second = λ c le. row_here w n c p.cells.second (halves_at old c).second (halves_at new c).second le also (is.each c le).second ∙ ap (cells_at w c) piece.second;
    there = row_there w n p.cells.first p.cells.second old new is columns widths also;
  }

  stays : (r : ℕ) (d : Entry) → r ≢ n → RowIs w k d r old → RowIs w k d r new
  stays r d ne was = record {
    first = λ c le. row_stays w n c p.cells.first (halves_at old c).first (halves_at new c).first le widths (is.each c le).first r ne ∙ was.first c le;
    second = λ c le. row_stays w n c p.cells.second (halves_at old c).second (halves_at new c).second le also (is.each c le).second r ne ∙ was.second c le;
    there = row_rows w (r + 1) n p.cells.first p.cells.second old new is was.there;
  }

  pub filled_more : ((d : Entry) → get_or entries n d ≡ e) → AreFilled w k entries n old → AreFilled w k entries (n + 1) new
  filled_more at filled = by_place n (λ (r : ℕ). (d : Entry) → r < n + 1 → RowIs w k (get_or entries r d) r new)
      (λ r same d lt. let name : get_or entries r d ≡ e = ap (λ (i : ℕ). get_or entries i d) same ∙ at d in
      rw (name, same) last)
      (λ r ne d lt. let less : r < n = ⊎_elim (λ (s : r ≡ n). absurd (ne s)) (λ (o : (r < n) ⊎ (n < r)). ⊎_elim (λ (l : r < n). l) (λ (m : n < r). absurd (omega arith)) o) (cases_order r n) in
      stays r (get_or entries r d) ne (filled r d less))

  pub room_more : (m : ℕ) → HasRoom w m old → HasRoom w m new
  room_more m = row_room w m n p.cells.first p.cells.second old new is

-- what holds where a result is one
pub when_ok : {T E : Type 0} (r : Result T E) (P : Type 0) → is_ok r ≡ true → OnOk r P → P
when_ok (Ok x) P e p = p
when_ok (Err x) P e p = absurd cc

-- the items of a list are moved from its end into a list of their owners
pub taken_more : {A B : Type 0} (f : A → B) (ts : List A) (t : A) (old new all : List B) → map f ts ++ reverse old ≡ all → old ≡ new ++ f t ∷ [] → map f (ts ++ t ∷ []) ++ reverse new ≡ all
taken_more {A} {B} f ts t old new all so e =
    ap (λ (l : List B). l ++ reverse new) (map_push f ts t)
    ∙ append_assoc (map f ts) (f t ∷ []) (reverse new)
    ∙ ap (λ (l : List B). map f ts ++ l) (sym (reverse-append new (f t ∷ [])))
    ∙ ap (λ (l : List B). map f ts ++ reverse l) (sym e)
    ∙ so

pub on_ok_map : {T E : Type 0} (r : Result T E) (P Q : Type 0) → OnOk r P → (P → Q) → OnOk r Q
on_ok_map (Ok x) P Q p f = f p
on_ok_map (Err x) P Q p f = tt

pub nil_of : {A : Type 0} (xs : List A) → length xs ≡ 0 → xs ≡ []
nil_of [] e = refl
nil_of (x ∷ xs) e = absurd (omega arith)
