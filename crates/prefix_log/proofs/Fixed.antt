-- Snapshots of a log.
use Rattle.std.proofs.Common.{◌≡◌, ◌∙◌, refl, sym, ap, subst, ℕ, zero, suc, ◌+◌, ◌-◌, ◌*◌, ◌/◌, ◌%◌, ◌<◌, ◌≤◌, ⊎_elim, Bool, true, false, cond, List, ◌∷◌, ◌++◌, length, map, get_or, take, arith}
use Rattle.std.specs.Prelude.{Some, None}
use Rattle.std.specs.List.{flat_map, range_with_len}
use Rattle.std.proofs.lemmas.Bool.{cases_lt}
use Rattle.std.proofs.lemmas.List.{length-take, get_or-take}
use Rattle.std.proofs.lemmas.Nat.{mul-le}
use Rattle.list_facts.specs.Listed.{listed}
use Rattle.list_facts.proofs.Listed.{length-listed, listed_is, listed_same}
use Rattle.table_schema.specs.declared.widths.Widths.{Widths}
use Rattle.onehot_column.specs.Code.{width_of, cells_at}
use Rattle.onehot_column.specs.declared.piece.Piece.{Piece}
use Rattle.prefix_log.specs.Chunks.{AreFirst, Halves, HasRows, HaveRows, IsCopy, chunk_at, first_rows, halves_at, part_at, rows_at, stored_piece, stored_slots}
use Rattle.prefix_log.specs.RowLists.{row_cells}
use Rattle.prefix_log.specs.Snapshots.{HoldsPieces, firsts_of, seconds_of, pieces_in}
use Rattle.prefix_log.proofs.Ranges.{rows_same}
use Rattle.prefix_log.proofs.Stored.{half_part, stored_at, stored_first, stored_length, stored_second}

-- ---- the rows of the first chunks and a copy

-- a copied row
copied_row : (width n r : ℕ) (old new : List ℕ) → r < n → new ≡ take (n * width) old → row_cells width new r ≡ row_cells width old r
copied_row width n r old new lt is = listed_same width _ _ (λ i less.
    let up : (r + 1) * width ≤ n * width = mul-le (r + 1) width n width (omega arith) (omega arith) in
    ap (λ (l : List ℕ). get_or l (r * width + i) 0) is ∙ get_or-take (n * width) old (r * width + i) 0 (omega arith))

module _ (w : Widths) (rows : ℕ) (old new : List (List Halves)) (are : AreFirst w rows old new) where
  same_or_copy : (P : List Halves → Type 0) (row : ℕ) → row < rows → (chunk_at new (row / 64) ≡ chunk_at old (row / 64) → P (chunk_at new (row / 64)))
      → (rows / 64 ≡ row / 64 → row % 64 < rows % 64 → IsCopy w (rows % 64) (chunk_at old (row / 64)) (chunk_at new (row / 64)) → P (chunk_at new (row / 64))) → P (chunk_at new (row / 64))
  same_or_copy P row lt same copy = ⊎_elim (λ (less : row / 64 < rows / 64). same (are.same (row / 64) less))
      (λ (last : rows / 64 ≤ row / 64).
      let j : rows / 64 ≡ row / 64 = omega arith in
      let some : 0 < rows % 64 = omega arith in
      copy j (omega arith) (subst (λ (i : ℕ). IsCopy w (rows % 64) (chunk_at old i) (chunk_at new i)) j (are.left some))) (cases_lt (row / 64) (rows / 64))

  first_same : (row column : ℕ) → row < rows → column ≤ w.columns → part_at (λ h. h.first) w new row column ≡ part_at (λ h. h.first) w old row column
  first_same row column lt le = same_or_copy (λ (chunk : List Halves). row_cells (width_of w column) (halves_at chunk column).first (row % 64) ≡ part_at (λ h. h.first) w old row column) row lt
      (λ e. ap (λ (chunk : List Halves). row_cells (width_of w column) (halves_at chunk column).first (row % 64)) e)
      (λ last less is. copied_row (width_of w column) (rows % 64) (row % 64) _ _ less (is.first column le))

  second_same : (row column : ℕ) → row < rows → column ≤ w.columns → part_at (λ h. h.second) w new row column ≡ part_at (λ h. h.second) w old row column
  second_same row column lt le = same_or_copy (λ (chunk : List Halves). row_cells (width_of w column) (halves_at chunk column).second (row % 64) ≡ part_at (λ h. h.second) w old row column) row lt
      (λ e. ap (λ (chunk : List Halves). row_cells (width_of w column) (halves_at chunk column).second (row % 64)) e)
      (λ last less is. copied_row (width_of w column) (rows % 64) (row % 64) _ _ less (is.second column le))

  -- the copied chunk has its rows
  copy_has : (row : ℕ) → row < rows → HaveRows w rows old → rows / 64 ≡ row / 64 → row % 64 < rows % 64 → IsCopy w (rows % 64) (chunk_at old (row / 64)) (chunk_at new (row / 64)) → HasRows w (row % 64 + 1) (chunk_at new (row / 64))
  copy_has row lt have same less is =
      let last = have.each (rows - 1) (omega arith) in
      let j : (rows - 1) / 64 ≡ row / 64 = omega arith in
      let n : (rows - 1) % 64 + 1 ≡ rows % 64 = omega arith in
      let whole = subst (λ (i : ℕ). HasRows w (rows % 64) (chunk_at old i)) j (subst (λ (m : ℕ). HasRows w m (chunk_at old ((rows - 1) / 64))) n last) in
      record {
        columns = is.columns ∙ whole.columns;
        first = λ column le.
            let up : (row % 64 + 1) * width_of w column ≤ rows % 64 * width_of w column = mul-le (row % 64 + 1) (width_of w column) (rows % 64) (width_of w column) (omega arith) (omega arith) in
            omega (arith, up, ap length (is.first column le), length-take (rows % 64 * width_of w column) (halves_at (chunk_at old (row / 64)) column).first, whole.first column le);
        second = λ column le.
            let up : (row % 64 + 1) * width_of w column ≤ rows % 64 * width_of w column = mul-le (row % 64 + 1) (width_of w column) (rows % 64) (width_of w column) (omega arith) (omega arith) in
            omega (arith, up, ap length (is.second column le), length-take (rows % 64 * width_of w column) (halves_at (chunk_at old (row / 64)) column).second, whole.second column le);
      }

  pub first_have : HaveRows w rows old → HaveRows w rows new
  first_have have = record {
    count = omega (arith, are.count);
    each = λ row lt. same_or_copy (HasRows w (row % 64 + 1)) row lt (λ e. subst (HasRows w (row % 64 + 1)) (sym e) (have.each row lt)) (copy_has row lt have);
  }

-- ---- the pieces of filled slots

-- pieces in slots that all have one
pieces_listed : (f : ℕ → Piece) (a n : ℕ) → pieces_in (map (λ (i : ℕ). Some (f i)) (range_with_len a n)) ≡ map f (range_with_len a n)
pieces_listed f a zero = refl
pieces_listed f a (suc n) = ap (λ (l : List Piece). f a ∷ l) (pieces_listed f (a + 1) n)

cells_listed : (g : Piece → List ℕ) (f : ℕ → Piece) (a n : ℕ) → flat_map g (map f (range_with_len a n)) ≡ flat_map (λ (i : ℕ). g (f i)) (range_with_len a n)
cells_listed g f a zero = refl
cells_listed g f a (suc n) = ap (λ (l : List ℕ). g (f a) ++ l) (cells_listed g f (a + 1) n)

module _ (k : ℕ) (w : Widths) (capacity rows : ℕ) (filled : List Bool) (chunks : List (List Halves)) (within : rows ≤ capacity) (below : (place : ℕ) → place < rows → get_or filled place false ≡ true) where
  pub first_pieces : pieces_in (take rows (stored_slots k w capacity filled chunks)) ≡ listed rows (stored_piece k w chunks)
  first_pieces =
      ap pieces_in (listed_is rows (λ (place : ℕ). Some (stored_piece k w chunks place)) None (take rows (stored_slots k w capacity filled chunks))
      (omega (arith, length-take rows (stored_slots k w capacity filled chunks), stored_length k w capacity filled chunks))
      (λ place lt. get_or-take rows (stored_slots k w capacity filled chunks) place None lt ∙ stored_at k w capacity filled chunks place (omega arith)
      ∙ ap (λ (b : Bool). cond b (Some (stored_piece k w chunks place)) None) (below place lt)))
      ∙ pieces_listed (stored_piece k w chunks) 0 rows

  module _ (new : List (List Halves)) (are : AreFirst w rows chunks new) where
    first_cells : (column : ℕ) → column ≤ w.columns → rows_at (λ h. h.first) w new rows column ≡ firsts_of w (listed rows (stored_piece k w chunks)) column
    unfolding rows_at
    first_cells column le =
        rows_same (λ (i : ℕ). part_at (λ h. h.first) w new i column) (λ (i : ℕ). cells_at w column (stored_piece k w chunks i).cells.first) 0 0 rows
        (λ i lt. first_same w rows chunks new are (0 + i) column (omega arith) le ∙ sym (half_part (λ h. h.first) w chunks (0 + i) column le) ∙ ap (cells_at w column) (sym (stored_first k w chunks (0 + i))))
        ∙ sym (cells_listed (λ (p : Piece). cells_at w column p.cells.first) (stored_piece k w chunks) 0 rows)

    second_cells : (column : ℕ) → column ≤ w.columns → rows_at (λ h. h.second) w new rows column ≡ seconds_of w (listed rows (stored_piece k w chunks)) column
    unfolding rows_at
    second_cells column le =
        rows_same (λ (i : ℕ). part_at (λ h. h.second) w new i column) (λ (i : ℕ). cells_at w column (stored_piece k w chunks i).cells.second) 0 0 rows
        (λ i lt. second_same w rows chunks new are (0 + i) column (omega arith) le ∙ sym (half_part (λ h. h.second) w chunks (0 + i) column le) ∙ ap (cells_at w column) (sym (stored_second k w chunks (0 + i))))
        ∙ sym (cells_listed (λ (p : Piece). cells_at w column p.cells.second) (stored_piece k w chunks) 0 rows)

    pub first_holds : HoldsPieces w (pieces_in (take rows (stored_slots k w capacity filled chunks))) (first_rows w rows 0 new)
    first_holds = record {
      rows = sym (ap length first_pieces ∙ length-listed rows (stored_piece k w chunks));
      start = refl;
      columns = refl;
      width = λ column le. refl;
      first = λ column le. first_cells column le ∙ ap (λ (l : List Piece). firsts_of w l column) (sym first_pieces);
      second = λ column le. second_cells column le ∙ ap (λ (l : List Piece). seconds_of w l column) (sym first_pieces);
    }
