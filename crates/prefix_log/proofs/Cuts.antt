-- The first rows of chunks, and parts of them.
use Rattle.std.proofs.Common.{◌≡◌, ◌∙◌, refl, sym, ap, subst, ⊎_elim, ℕ, ◌+◌, ◌-◌, ◌*◌, ◌/◌, ◌%◌, ◌^◌, ◌<◌, ◌≤◌, min, Bool, true, false, cond, eqb, List, [], length, get_or, map, take, drop, arith}
use Rattle.std.specs.List.{flat_map, range_with_len}
use Rattle.std.proofs.lemmas.Bool.{cases_lt}
use Rattle.std.proofs.lemmas.List.{drop-map, drop_min, length-take, length-drop, get_or-take, get_or-drop}
use Rattle.std.proofs.Math.Pow.{pow_mono}
use Rattle.list_facts.proofs.Listed.{length-listed}
use Rattle.table_schema.specs.declared.widths.Widths.{Widths}
use Rattle.onehot_column.specs.Code.{width_of}
use Rattle.onehot_column.proofs.CodeLaws.{width_last}
use Rattle.scan_chunks.specs.Pieces.{chunk_of, chunks_of}
use Rattle.scan_chunks.specs.Shelf.{Held, IsShelf}
use Rattle.scan_chunks.proofs.Chunks.{chunk_by_rows, rows_in}
use Rattle.prefix_log.specs.Chunks.{Halves, HasRows, HaveRows, chunk_at, first_rows, halves_at, part_at, rows_at}
use Rattle.prefix_log.specs.RowLists.{row_cells}
use Rattle.prefix_log.specs.Rows.{IsCut, IsPart, cells_between}
use Rattle.prefix_log.proofs.Ranges.{rows_count, rows_dropped, rows_same, rows_taken, rows_there}

-- how wide a row is at a column
pub wide : (w : Widths) (column : ℕ) → 0 < width_of w column
wide w column = by (eqb column w.columns)
  where
    by : (b : Bool) → 0 < cond b 1 (2 ^ get_or w.bits column 0)
    by true = omega arith
    by false = let some : 0 ≤ get_or w.bits column 0 = omega arith in let p : 2 ^ 0 ≤ 2 ^ get_or w.bits column 0 = pow_mono some in omega (arith, p)

-- ---- the rows at a column

module _ (half : Halves → List ℕ) (w : Widths) (chunks : List (List Halves)) (column : ℕ) where
  row_wide : (i : ℕ) → length (part_at half w chunks i column) ≡ width_of w column
  row_wide i = length-listed (width_of w column) _

  pub rows_long : (rows : ℕ) → length (rows_at half w chunks rows column) ≡ rows * width_of w column
  unfolding rows_at
  rows_long rows = rows_count (λ (i : ℕ). part_at half w chunks i column) (width_of w column) row_wide 0 rows

  pub rows_cut : (n rows : ℕ) → n ≤ rows → rows_at half w chunks n column ≡ take (n * width_of w column) (rows_at half w chunks rows column)
  unfolding rows_at
  rows_cut n rows le = sym (rows_taken (λ (i : ℕ). part_at half w chunks i column) (width_of w column) row_wide 0 n rows le)

  -- the rows from one to below another
  pub rows_between : (a b rows : ℕ) → a ≤ b → b ≤ rows → flat_map (λ (i : ℕ). part_at half w chunks i column) (range_with_len a (b - a)) ≡ cells_between (width_of w column) a b (rows_at half w chunks rows column)
  unfolding rows_at
  rows_between a b rows le le' =
      let start : 0 + a ≡ a = omega arith in
      sym (ap (take ((b - a) * width_of w column)) (rows_dropped (λ (i : ℕ). part_at half w chunks i column) (width_of w column) row_wide 0 a rows (omega arith))
      ∙ rows_taken (λ (i : ℕ). part_at half w chunks i column) (width_of w column) row_wide (0 + a) (b - a) (rows - a) (omega arith)
      ∙ ap (λ (i : ℕ). flat_map (λ (j : ℕ). part_at half w chunks j column) (range_with_len i (b - a))) start)

  -- a chunk that has its rows lends them
  pub chunk_lent : (c rows : ℕ) → c < chunks_of rows → rows_in rows c * width_of w column ≤ length (half (halves_at (chunk_at chunks c) column))
      → take (rows_in rows c * width_of w column) (half (halves_at (chunk_at chunks c) column)) ≡ chunk_of (width_of w column) c (rows_at half w chunks rows column)
  chunk_lent c rows lt long =
      let count : 64 * c + rows_in rows c - 64 * c ≡ rows_in rows c = omega arith in
      sym (rows_there (width_of w column) (rows_in rows c) (half (halves_at (chunk_at chunks c) column)) long)
      ∙ rows_same (row_cells (width_of w column) (half (halves_at (chunk_at chunks c) column))) (λ (i : ℕ). part_at half w chunks i column) 0 (64 * c) (rows_in rows c)
      (λ i less.
      let quotient : c ≡ (64 * c + i) / 64 = omega arith in
      let rest : 0 + i ≡ (64 * c + i) % 64 = omega arith in
      ap (row_cells (width_of w column) (half (halves_at (chunk_at chunks c) column))) rest
      ∙ ap (λ (j : ℕ). row_cells (width_of w column) (half (halves_at (chunk_at chunks j) column)) ((64 * c + i) % 64)) quotient)
      ∙ ap (λ (n : ℕ). flat_map (λ (i : ℕ). part_at half w chunks i column) (range_with_len (64 * c) n)) (sym count)
      ∙ rows_between (64 * c) (64 * c + rows_in rows c) rows (omega arith) (omega arith)
      ∙ ap (λ (n : ℕ). take (n * width_of w column) (drop (64 * c * width_of w column) (rows_at half w chunks rows column))) count
      ∙ chunk_by_rows (width_of w column) c rows (rows_at half w chunks rows column) (rows_long rows) lt

-- ---- shelves

pub is_shelf : (w : Widths) (rows start : ℕ) (chunks : List (List Halves)) → start + chunks_of rows ≤ 1024 → IsShelf (first_rows w rows start chunks)
is_shelf w rows start chunks few = record {
  few = few;
  first = λ column le. rows_long (λ h. h.first) w chunks column rows;
  second = λ column le. rows_long (λ h. h.second) w chunks column rows;
  wide = λ column le. wide w column;
  value = width_last w;
}

-- ---- a cut

-- a list without the first ones, or without all of them
pub first_left : {A B : Type 0} (f : A → B) (items new : List A) (n k : ℕ) → new ≡ drop k items → k ≡ min n (length items) → map f new ≡ drop n (map f items)
first_left f items new n k is count = ap (map f) (is ∙ ap (λ (i : ℕ). drop i items) count ∙ drop_min n items) ∙ sym (drop-map f n items)

module _ (w : Widths) (low high rows : ℕ) (chunks : List (List Halves)) (within : high ≤ rows) (whole : low < high → low % 64 ≡ 0) where
  kept_row : (half : Halves → List ℕ) (column i : ℕ) → i < high - low → part_at half w (drop (low / 64) chunks) (0 + i) column ≡ part_at half w chunks (low + i) column
  kept_row half column i lt =
      let even = whole (omega arith) in
      let quotient : low / 64 + (0 + i) / 64 ≡ (low + i) / 64 = omega arith in
      let rest : (0 + i) % 64 ≡ (low + i) % 64 = omega arith in
      ap (λ (chunk : List Halves). row_cells (width_of w column) (half (halves_at chunk column)) ((0 + i) % 64)) (get_or-drop (low / 64) chunks ((0 + i) / 64) [] ∙ ap (chunk_at chunks) quotient)
      ∙ ap (row_cells (width_of w column) (half (halves_at (chunk_at chunks ((low + i) / 64)) column))) rest

  kept_cells : (half : Halves → List ℕ) (column : ℕ) → rows_at half w (drop (low / 64) chunks) (high - low) column ≡ cells_between (width_of w column) low high (rows_at half w chunks rows column)
  unfolding rows_at
  kept_cells half column = ⊎_elim
      (λ (some : low < high).
      rows_same (λ (i : ℕ). part_at half w (drop (low / 64) chunks) i column) (λ (i : ℕ). part_at half w chunks i column) 0 low (high - low) (kept_row half column)
      ∙ rows_between half w chunks column low high rows (omega arith) within)
      (λ (none : high ≤ low).
      let count : high - low ≡ 0 = omega arith in
      let zero : 0 * width_of w column ≡ 0 = omega arith in
      ap (λ (n : ℕ). flat_map (λ (i : ℕ). part_at half w (drop (low / 64) chunks) i column) (range_with_len 0 n)) count
      ∙ sym (ap (λ (n : ℕ). take (n * width_of w column) (drop (low * width_of w column) (rows_at half w chunks rows column))) count
      ∙ ap (λ (n : ℕ). take n (drop (low * width_of w column) (rows_at half w chunks rows column))) zero)) (cases_lt low high)

  pub cut_is : (start : ℕ) → IsCut low high (first_rows w rows start chunks) (first_rows w (high - low) start (drop (low / 64) chunks))
  cut_is start = record {
    rows = refl;
    start = refl;
    columns = refl;
    width = λ column h. refl;
    first = λ column h. kept_cells (λ h. h.first) column;
    second = λ column h. kept_cells (λ h. h.second) column;
  }

  pub cut_rows : HaveRows w rows chunks → HaveRows w (high - low) (drop (low / 64) chunks)
  cut_rows have = record {
    count = (let c = have.count in ⊎_elim (λ (some : low < high). let even = whole some in omega (arith, length-drop (low / 64) chunks)) (λ (none : high ≤ low). omega arith) (cases_lt low high));
    each = λ row lt.
        let even = whole (omega arith) in
        let quotient : (low + row) / 64 ≡ low / 64 + row / 64 = omega arith in
        let rest : (low + row) % 64 ≡ row % 64 = omega arith in
        subst (HasRows w (row % 64 + 1)) (ap (chunk_at chunks) quotient ∙ sym (get_or-drop (low / 64) chunks (row / 64) []))
        (subst (λ (n : ℕ). HasRows w (n + 1) (chunk_at chunks ((low + row) / 64))) rest (have.each (low + row) (omega arith)));
  }

pub cut_is_at : (w w' : Widths) (from to n rows start start' place : ℕ) (chunks chunks' : List (List Halves)) → to ≤ place + rows → place ≤ from → (from < to → from % 64 ≡ 0) → (0 < rows → place % 64 ≡ 0) → w' ≡ w → n ≡ to - from → start' ≡ start
    → chunks' ≡ drop ((from - place) / 64) chunks → IsCut (from - place) (to - place) (first_rows w rows start chunks) (first_rows w' n start' chunks')
cut_is_at w w' from to n rows start start' place chunks chunks' within above even whole a b c d =
    let count : to - from ≡ (to - place) - (from - place) = omega arith in
    let aligned = λ (some : from - place < to - place). let p = whole (omega arith) in let q = even (omega arith) in let e : (from - place) % 64 ≡ 0 = omega arith in e in
    rw (a, b ∙ count, c, d) (cut_is w (from - place) (to - place) rows chunks (omega arith) aligned start)

pub cut_rows_at : (w w' : Widths) (from to n rows place : ℕ) (chunks chunks' : List (List Halves)) → to ≤ place + rows → place ≤ from → (from < to → from % 64 ≡ 0) → (0 < rows → place % 64 ≡ 0) → w' ≡ w → n ≡ to - from
    → chunks' ≡ drop ((from - place) / 64) chunks → HaveRows w rows chunks → HaveRows w' n chunks'
cut_rows_at w w' from to n rows place chunks chunks' within above even whole a b d have =
    let count : to - from ≡ (to - place) - (from - place) = omega arith in
    let aligned = λ (some : from - place < to - place). let p = whole (omega arith) in let q = even (omega arith) in let e : (from - place) % 64 ≡ 0 = omega arith in e in
    rw (a, b ∙ count, d) (cut_rows w (from - place) (to - place) rows chunks (omega arith) aligned have)

-- ---- one of the chunks

-- the last row of a chunk is there, so all of them are
pub chunk_rows : (w : Widths) (rows c : ℕ) (chunks : List (List Halves)) → HaveRows w rows chunks → c < chunks_of rows → HasRows w (rows_in rows c) (chunk_at chunks c)
chunk_rows w rows c chunks have lt =
    let n : (64 * c + rows_in rows c - 1) % 64 + 1 ≡ rows_in rows c = omega arith in
    let j : (64 * c + rows_in rows c - 1) / 64 ≡ c = omega arith in
    subst (λ (i : ℕ). HasRows w (rows_in rows c) (chunk_at chunks i)) j
    (subst (λ (m : ℕ). HasRows w m (chunk_at chunks ((64 * c + rows_in rows c - 1) / 64))) n (have.each (64 * c + rows_in rows c - 1) (omega arith)))

pub lent_rows : (w : Widths) (rows c : ℕ) (chunks : List (List Halves)) (chunk : List Halves) → HaveRows w rows chunks → c < chunks_of rows → chunk_at chunks c ≡ chunk → HasRows w (min 64 (rows - 64 * c)) chunk
lent_rows w rows c chunks chunk have lt at = subst (HasRows w (min 64 (rows - 64 * c))) at (chunk_rows w rows c chunks have lt)

-- and they are lent
pub lent_is : (half : Halves → List ℕ) (w : Widths) (column rows c : ℕ) (chunks : List (List Halves)) (chunk : List Halves) (cells : Halves) (n width : ℕ) (lent : List ℕ) → c < chunks_of rows → chunk_at chunks c ≡ chunk
    → cells ≡ halves_at chunk column → n ≡ min 64 (rows - 64 * c) → width ≡ width_of w column → lent ≡ take (n * width) (half cells) → min 64 (rows - 64 * c) * width_of w column ≤ length (half (halves_at chunk column))
    → lent ≡ chunk_of (width_of w column) c (rows_at half w chunks rows column)
lent_is half w column rows c chunks chunk cells n width lent lt at column_is count wide_is is long =
    is ∙ ap (λ (m : ℕ). take (m * width) (half cells)) count ∙ ap (λ (m : ℕ). take (min 64 (rows - 64 * c) * m) (half cells)) wide_is
    ∙ ap (λ (h : Halves). take (min 64 (rows - 64 * c) * width_of w column) (half h)) (column_is ∙ ap (λ (l : List Halves). halves_at l column) (sym at))
    ∙ chunk_lent half w chunks column c rows lt (subst (λ (l : List Halves). min 64 (rows - 64 * c) * width_of w column ≤ length (half (halves_at l column))) (sym at) long)

-- ---- a part

module _ (w : Widths) (low high rows start : ℕ) (chunks : List (List Halves)) (have : HaveRows w rows chunks) (order : low ≤ high) (there : high ≤ chunks_of rows) where
  -- the chunks of a part
  part_chunk : (j : ℕ) → j < high - low → chunk_at (take (high - low) (drop low chunks)) j ≡ chunk_at chunks (low + j)
  part_chunk j lt = get_or-take (high - low) (drop low chunks) j [] lt ∙ get_or-drop low chunks j []

  part_count : length (take (high - low) (drop low chunks)) ≡ high - low
  part_count = (let c = have.count in omega (arith, length-take (high - low) (drop low chunks), length-drop low chunks))

  part_row : (half : Halves → List ℕ) (column i : ℕ) → i < min rows (64 * high) - min rows (64 * low)
      → part_at half w (take (high - low) (drop low chunks)) (0 + i) column ≡ part_at half w chunks (min rows (64 * low) + i) column
  part_row half column i lt =
      let j : (0 + i) / 64 < high - low = omega arith in
      let quotient : low + (0 + i) / 64 ≡ (min rows (64 * low) + i) / 64 = omega arith in
      let rest : (0 + i) % 64 ≡ (min rows (64 * low) + i) % 64 = omega arith in
      ap (λ (chunk : List Halves). row_cells (width_of w column) (half (halves_at chunk column)) ((0 + i) % 64)) (part_chunk ((0 + i) / 64) j ∙ ap (chunk_at chunks) quotient)
      ∙ ap (row_cells (width_of w column) (half (halves_at (chunk_at chunks ((min rows (64 * low) + i) / 64)) column))) rest

  part_cells : (half : Halves → List ℕ) (column : ℕ) → rows_at half w (take (high - low) (drop low chunks)) (min rows (64 * high) - min rows (64 * low)) column
      ≡ cells_between (width_of w column) (min rows (64 * low)) (min rows (64 * high)) (rows_at half w chunks rows column)
  unfolding rows_at
  part_cells half column =
      rows_same (λ (i : ℕ). part_at half w (take (high - low) (drop low chunks)) i column) (λ (i : ℕ). part_at half w chunks i column) 0 (min rows (64 * low)) (min rows (64 * high) - min rows (64 * low)) (part_row half column)
      ∙ rows_between half w chunks column (min rows (64 * low)) (min rows (64 * high)) rows (omega arith) (omega arith)

  pub part_is : IsPart low high (first_rows w rows start chunks) (first_rows w (min rows (64 * high) - min rows (64 * low)) (start + low) (take (high - low) (drop low chunks)))
  part_is = record {
    rows = refl;
    start = refl;
    columns = refl;
    width = λ column ok. refl;
    first = λ column ok. part_cells (λ h. h.first) column;
    second = λ column ok. part_cells (λ h. h.second) column;
  }

  pub part_rows : HaveRows w (min rows (64 * high) - min rows (64 * low)) (take (high - low) (drop low chunks))
  part_rows = record {
    count = omega (arith, part_count);
    each = λ row lt.
        let j : row / 64 < high - low = omega arith in
        let quotient : (min rows (64 * low) + row) / 64 ≡ low + row / 64 = omega arith in
        let rest : (min rows (64 * low) + row) % 64 ≡ row % 64 = omega arith in
        subst (HasRows w (row % 64 + 1)) (ap (chunk_at chunks) quotient ∙ sym (part_chunk (row / 64) j))
        (subst (λ (n : ℕ). HasRows w (n + 1) (chunk_at chunks ((min rows (64 * low) + row) / 64))) rest (have.each (min rows (64 * low) + row) (omega arith)));
  }

module _ (w : Widths) (low high rows start : ℕ) (chunks : List (List Halves)) (have : HaveRows w rows chunks) (order : low ≤ high) (there : high ≤ chunks_of rows) (a b : ℕ) (new : List (List Halves))
    (first : a ≡ min rows (64 * low)) (end : b ≡ min rows (64 * high)) (shared : new ≡ take (high - low) (drop low chunks)) where
  pub part_rows_at : HaveRows w (b - a) new
  part_rows_at = rw (shared, first, end) (part_rows w low high rows start chunks have order there)

  pub part_is_at : (h : Held) → h ≡ first_rows w (b - a) (start + low) new → IsPart low high (first_rows w rows start chunks) h
  part_is_at h is = rw (is, shared, first, end) (part_is w low high rows start chunks have order there)
