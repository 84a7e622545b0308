-- What the shelves of a server hold together.
use Rattle.std.specs.Prelude.{ℕ, ◌≡◌, ◌≤◌, List, All}
use Rattle.std.specs.List.{flat_map}
use Rattle.list_facts.specs.Count.{total}
use Rattle.scan_chunks.specs.Pieces.{Pieces}
use Rattle.scan_chunks.specs.Shelf.{Held}
use Rattle.scan_chunks.specs.Laws.{GoOn}
use Rattle.table_schema.specs.declared.widths.Widths.{Widths}
use Rattle.onehot_column.specs.Code.{width_of}

-- shelves of `rows` rows together, with the columns of these widths; the first begins with chunk 0, and each goes on from the one
-- before it
pub record AreShelves (widths : Widths) (rows : ℕ) (shelves : List Held) : Type 0 where
  pub count : total (λ (h : Held). h.rows) shelves ≡ rows
  pub columns : All (λ (h : Held). h.columns ≡ widths.columns) shelves
  pub wide : (column : ℕ) → column ≤ widths.columns → All (λ (h : Held). h.width column ≡ width_of widths column) shelves
  pub order : GoOn 0 shelves

-- their pieces, one shelf's after another's
abbrev pub pieces_of : List Held → Pieces
pieces_of shelves = record {
  first = λ column. flat_map (λ (h : Held). h.pieces.first column) shelves;
  second = λ column. flat_map (λ (h : Held). h.pieces.second column) shelves;
}

-- how many rows they have together
abbrev pub rows_of : List Held → ℕ
rows_of shelves = total (λ (h : Held). h.rows) shelves
