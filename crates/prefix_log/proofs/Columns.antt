-- Lists that are as long as a code, column by column.
use Rattle.std.proofs.Common.{◌≡◌, ◌∙◌, refl, sym, ap, ℕ, zero, suc, ◌+◌, ◌-◌, ◌<◌, ◌≤◌, List, ◌++◌, length, take, drop, take-add, drop-drop, ⊎_elim, arith}
use Rattle.std.specs.List.{flat_map, range_with_len}
use Rattle.std.proofs.lemmas.Bool.{cases_lt}
use Rattle.std.proofs.lemmas.List.{length-append, length-take, length-drop, take_all, take_at}
use Rattle.table_schema.specs.Widths.{code_length, column_bits}
use Rattle.table_schema.specs.declared.widths.Widths.{Widths}
use Rattle.onehot_column.specs.Code.{width_of, start_of, cells_at}
use Rattle.onehot_column.proofs.CodeLaws.{start_more, start_below, whole_length}
use Rattle.prefix_log.proofs.Ranges.{drop_past}

-- the cells of a list at a column are as many as the column is wide
pub cells_wide : (w : Widths) (column : ℕ) (cells : List ℕ) → column ≤ w.columns → length cells ≡ code_length (column_bits w) → length (cells_at w column cells) ≡ width_of w column
cells_wide w column cells le long =
    omega (arith, length-take (width_of w column) (drop (start_of w column) cells), length-drop (start_of w column) cells, long, whole_length w, start_more w column, start_below w (column + 1) (w.columns + 1) (omega arith))

-- the columns of a list, one after another, from one on
columns_from : (w : Widths) (cells : List ℕ) (a n : ℕ) → flat_map (λ (c : ℕ). cells_at w c cells) (range_with_len a n) ≡ take (start_of w (a + n) - start_of w a) (drop (start_of w a) cells)
columns_from w cells a zero =
    let same = ap (start_of w) (let e : a + 0 ≡ a = omega arith in e) in
    let none : 0 ≡ start_of w (a + 0) - start_of w a = omega (arith, same) in
    ap (λ (i : ℕ). take i (drop (start_of w a) cells)) none
columns_from w cells a (suc n) =
    let end = ap (start_of w) (let e : a + suc n ≡ a + 1 + n = omega arith in e) in
    let all : width_of w a + (start_of w (a + 1 + n) - start_of w (a + 1)) ≡ start_of w (a + suc n) - start_of w a =
    omega (arith, end, start_more w a, start_below w (a + 1) (a + 1 + n) (omega arith)) in
    ap (λ (l : List ℕ). cells_at w a cells ++ l) (columns_from w cells (a + 1) n
    ∙ ap (λ (i : ℕ). take (start_of w (a + 1 + n) - start_of w (a + 1)) (drop i cells)) (start_more w a)
    ∙ ap (take (start_of w (a + 1 + n) - start_of w (a + 1))) (sym (drop-drop (width_of w a) (start_of w a) cells)))
    ∙ sym (take-add (width_of w a) (start_of w (a + 1 + n) - start_of w (a + 1)) (drop (start_of w a) cells))
    ∙ ap (λ (i : ℕ). take i (drop (start_of w a) cells)) all

-- all columns make the list
pub columns_join : (w : Widths) (cells : List ℕ) → length cells ≡ code_length (column_bits w) → flat_map (λ (c : ℕ). cells_at w c cells) (range_with_len 0 (w.columns + 1)) ≡ cells
columns_join w cells long =
    let all = ap (start_of w) (let e : 0 + (w.columns + 1) ≡ w.columns + 1 = omega arith in e) in
    columns_from w cells 0 (w.columns + 1) ∙ take_all (start_of w (0 + (w.columns + 1)) - start_of w 0) cells (omega (arith, long, whole_length w, all))

module _ (w : Widths) (f : ℕ → List ℕ) (wide : (c : ℕ) → length (f c) ≡ width_of w c) where
  -- lists that are as long as the columns are wide
  long_from : (a n : ℕ) → length (flat_map f (range_with_len a n)) + start_of w a ≡ start_of w (a + n)
  long_from a zero = let same = ap (start_of w) (let e : a ≡ a + 0 = omega arith in e) in omega (arith, same)
  long_from a (suc n) =
      let end = ap (start_of w) (let e : a + suc n ≡ a + 1 + n = omega arith in e) in
      omega (arith, length-append (f a) (flat_map f (range_with_len (a + 1) n)), wide a, long_from (a + 1) n, start_more w a, end)

  pub columns_long : length (flat_map f (range_with_len 0 (w.columns + 1))) ≡ code_length (column_bits w)
  columns_long =
      let all = ap (start_of w) (let e : 0 + (w.columns + 1) ≡ w.columns + 1 = omega arith in e) in
      let none : start_of w 0 ≡ 0 = refl in
      omega (arith, long_from 0 (w.columns + 1), all, whole_length w, none)

  part_from : (a n c : ℕ) → a ≤ c → c < a + n → take (width_of w c) (drop (start_of w c - start_of w a) (flat_map f (range_with_len a n))) ≡ f c
  part_from a zero c le lt = absurd (omega arith)
  part_from a (suc n) c le lt = ⊎_elim (λ (less : a < c). later less (part_from (a + 1) n c (omega arith) (omega arith))) (λ (last : c ≤ a). here (omega arith)) (cases_lt a c)
    where
      here : c ≡ a → take (width_of w c) (drop (start_of w c - start_of w a) (flat_map f (range_with_len a (suc n)))) ≡ f c
      here e =
          let none : start_of w c - start_of w a ≡ 0 = (let s = ap (start_of w) e in omega (arith, s)) in
          ap (λ (i : ℕ). take (width_of w c) (drop i (flat_map f (range_with_len a (suc n))))) none
          ∙ ap (λ (i : ℕ). take (width_of w i) (f a ++ flat_map f (range_with_len (a + 1) n))) e
          ∙ take_at (f a) (flat_map f (range_with_len (a + 1) n)) (width_of w a) (wide a) ∙ ap f (sym e)

      later : a < c → take (width_of w c) (drop (start_of w c - start_of w (a + 1)) (flat_map f (range_with_len (a + 1) n))) ≡ f c → take (width_of w c) (drop (start_of w c - start_of w a) (flat_map f (range_with_len a (suc n)))) ≡ f c
      later less rest =
          let past : start_of w c - start_of w a ≡ length (f a) + (start_of w c - start_of w (a + 1)) = omega (arith, wide a, start_more w a, start_below w (a + 1) c (omega arith)) in
          ap (take (width_of w c)) (drop_past (f a) (flat_map f (range_with_len (a + 1) n)) (start_of w c - start_of w a) (start_of w c - start_of w (a + 1)) past)
          ∙ rest

  -- the part at a column of such lists is the column's own
  pub columns_part : (c : ℕ) → c ≤ w.columns → cells_at w c (flat_map f (range_with_len 0 (w.columns + 1))) ≡ f c
  columns_part c le =
      let none : start_of w c ≡ start_of w c - start_of w 0 = (let z : start_of w 0 ≡ 0 = refl in omega (arith, z)) in
      ap (λ (i : ℕ). take (width_of w c) (drop i (flat_map f (range_with_len 0 (w.columns + 1))))) none ∙ part_from 0 (w.columns + 1) c (omega arith) (omega arith)
