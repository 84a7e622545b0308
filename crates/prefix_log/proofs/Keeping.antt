-- Snapshots of rows.
use Rattle.std.proofs.Common.{◌≡◌, ◌∙◌, sym, ap, ℕ, zero, suc, ◌+◌, ◌-◌, ◌*◌, ◌%◌, ◌≤◌, List, [], ◌∷◌, ◌++◌, length, take, drop, arith}
use Rattle.std.proofs.lemmas.List.{drop_all, length-drop, length-take-le, take_all}
use Rattle.list_facts.proofs.Listed.{length-listed}
use Rattle.prg_chacha.specs.declared.seed.Seed.{Seed}
use Rattle.replicated_share.specs.Share.{share_of}
use Rattle.table_schema.specs.declared.rows.Row.{Row}
use Rattle.table_schema.specs.declared.widths.Widths.{Widths}
use Rattle.onehot_column.specs.Code.{width_of, cells_at, code_of}
use Rattle.onehot_column.proofs.CodeLaws.{length-code_of}
use Rattle.prefix_log.specs.Laws.{CutKeepsRows, SnapshotsKeepRows}
use Rattle.prefix_log.specs.Rows.{cells_between}
use Rattle.prefix_log.specs.Snapshots.{shares_of}
use Rattle.prefix_log.proofs.Columns.{cells_wide}
use Rattle.prefix_log.proofs.Pieces.{sharings_give_cells}
use Rattle.prefix_log.proofs.Ranges.{drop_past, take_past}

pub snapshots_keep_rows : SnapshotsKeepRows
snapshots_keep_rows w k n entries slots h shares le holds =
    let cells = sharings_give_cells w k n entries slots le shares in
    record {
      rows = holds.rows ∙ cells.count;
      start = holds.start;
      columns = holds.columns;
      width = holds.width;
      first = λ column ok. holds.first column ok ∙ cells.first column;
      second = λ column ok. holds.second column ok ∙ cells.second column;
    }

-- a share is as long as what is shared
share_long : (k : ℕ) (s : Seed) (values : List ℕ) → length (share_of k s values) ≡ length values
share_long zero s values = length-listed _ _
share_long (suc zero) s values = length-listed _ _
share_long (suc (suc k)) s values = length-listed _ _

-- a row's cells at a column are as many as the column is wide
row_wide : (w : Widths) (k column : ℕ) (entry : Row × Seed) → column ≤ w.columns → length (cells_at w column (share_of k entry.1 (code_of w entry.0))) ≡ width_of w column
row_wide w k column entry ok = cells_wide w column (share_of k entry.1 (code_of w entry.0)) ok (share_long k entry.1 (code_of w entry.0) ∙ length-code_of w entry.0)

-- the cells of the first rows are the first cells
first_shares : (w : Widths) (k column n : ℕ) (entries : List (Row × Seed)) → column ≤ w.columns → take (n * width_of w column) (shares_of w k entries column) ≡ shares_of w k (take n entries) column
first_shares w k column zero entries ok = let none : 0 * width_of w column ≡ 0 = omega arith in ap (λ (i : ℕ). take i (shares_of w k entries column)) none
first_shares w k column (suc n) [] ok = take_all (suc n * width_of w column) [] (omega arith)
first_shares w k column (suc n) (e ∷ es) ok =
    let wide = row_wide w k column e ok in
    let more : (n + 1) * width_of w column ≡ width_of w column + n * width_of w column = omega arith in
    take_past (cells_at w column (share_of k e.1 (code_of w e.0))) (shares_of w k es column) (suc n * width_of w column) (n * width_of w column) (omega (arith, wide, more))
    ∙ ap (λ (l : List ℕ). cells_at w column (share_of k e.1 (code_of w e.0)) ++ l) (first_shares w k column n es ok)

-- and without the first ones the others
last_shares : (w : Widths) (k column n : ℕ) (entries : List (Row × Seed)) → column ≤ w.columns → drop (n * width_of w column) (shares_of w k entries column) ≡ shares_of w k (drop n entries) column
last_shares w k column zero entries ok = let none : 0 * width_of w column ≡ 0 = omega arith in ap (λ (i : ℕ). drop i (shares_of w k entries column)) none
last_shares w k column (suc n) [] ok = drop_all (suc n * width_of w column) [] (omega arith)
last_shares w k column (suc n) (e ∷ es) ok =
    let wide = row_wide w k column e ok in
    let more : (n + 1) * width_of w column ≡ width_of w column + n * width_of w column = omega arith in
    drop_past (cells_at w column (share_of k e.1 (code_of w e.0))) (shares_of w k es column) (suc n * width_of w column) (n * width_of w column) (omega (arith, wide, more))
    ∙ last_shares w k column n es ok

between_shares : (w : Widths) (k column low high : ℕ) (entries : List (Row × Seed)) → column ≤ w.columns → cells_between (width_of w column) low high (shares_of w k entries column) ≡ shares_of w k (take (high - low) (drop low entries)) column
between_shares w k column low high entries ok =
    ap (take ((high - low) * width_of w column)) (last_shares w k column low entries ok) ∙ first_shares w k column (high - low) (drop low entries) ok

pub cut_keeps_rows : CutKeepsRows
cut_keeps_rows w k low high entries old new keeps le cut = record {
  rows = cut.rows ∙ sym (length-take-le (high - low) (drop low entries) (omega (arith, length-drop low entries)));
  start = cut.start ∙ keeps.start;
  columns = cut.columns ∙ keeps.columns;
  width = λ column ok. cut.width column (omega (arith, keeps.columns)) ∙ keeps.width column ok;
  first = λ column ok. cut.first column (omega (arith, keeps.columns)) ∙ ap (λ (m : ℕ). cells_between m low high (old.pieces.first column)) (keeps.width column ok)
      ∙ ap (cells_between (width_of w column) low high) (keeps.first column ok) ∙ between_shares w k column low high entries ok;
  second = λ column ok. cut.second column (omega (arith, keeps.columns)) ∙ ap (λ (m : ℕ). cells_between m low high (old.pieces.second column)) (keeps.width column ok)
      ∙ ap (cells_between (width_of w column) low high) (keeps.second column ok) ∙ between_shares w ((k + 1) % 3) column low high entries ok;
}
