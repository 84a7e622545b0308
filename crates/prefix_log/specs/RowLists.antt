-- Rows of cells, one after another.
use Rattle.std.specs.Prelude.{◌≡◌, ℕ, zero, suc, ◌+◌, ◌*◌, List, length, slice_index}
use Rattle.std.specs.List.{flat_map, range_with_len}
use Rattle.std.proofs.Common.{refl, sym, ap, ◌∙◌}
use Rattle.std.proofs.lemmas.List.{length-append}
use Rattle.list_facts.specs.Listed.{listed}
use Rattle.list_facts.proofs.Listed.{length-listed}

-- a row of cells, of this width; cells that aren't there count as 0
abbrev pub row_cells : ℕ → List ℕ → ℕ → List ℕ
row_cells width cells row = listed width (λ i. slice_index cells (row * width + i))

-- rows of the same widths are equally long, one after another
pub rows_long : (width : ℕ → ℕ) (xs ys : ℕ → List ℕ) (row start n : ℕ)
    → length (flat_map (λ i. row_cells (width i) (xs i) row) (range_with_len start n))
    ≡ length (flat_map (λ i. row_cells (width i) (ys i) row) (range_with_len start n))
rows_long width xs ys row start zero = refl
rows_long width xs ys row start (suc n) =
    length-append (row_cells (width start) (xs start) row) (flat_map (λ i. row_cells (width i) (xs i) row) (range_with_len (start + 1) n))
    ∙ ap (λ (m : ℕ). m + length (flat_map (λ i. row_cells (width i) (xs i) row) (range_with_len (start + 1) n)))
    (length-listed (width start) (λ i. slice_index (xs start) (row * width start + i))
    ∙ sym (length-listed (width start) (λ i. slice_index (ys start) (row * width start + i))))
    ∙ ap (λ (m : ℕ). length (row_cells (width start) (ys start) row) + m) (rows_long width xs ys row (start + 1) n)
    ∙ sym (length-append (row_cells (width start) (ys start) row)
    (flat_map (λ i. row_cells (width i) (ys i) row) (range_with_len (start + 1) n)))
