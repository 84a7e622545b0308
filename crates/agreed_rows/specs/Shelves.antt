-- Shelves of the same rows: cuts of them, and their parts.
use Rattle.std.specs.Prelude.{◌≡◌, ℕ, ◌≤◌, List, All, length, map, min}
use Rattle.agreed_rows.specs.Agreed.{Entries}
use Rattle.onehot_column.specs.Code.{width_of}
use Rattle.prefix_log.specs.Rows.{IsCut}
use Rattle.scan_chunks.specs.Laws.{AreParts, GoOn}
use Rattle.scan_chunks.specs.Shelf.{Held}
use Rattle.server_rounds.specs.Groups.{by_server}
use Rattle.server_rounds.specs.Shelves.{AreShelves, pieces_of}
use Rattle.server_rounds.specs.declared.servers.Servers.{Servers}
use Rattle.transcript.specs.Laws.{SamePieces}
use Rattle.transcript.specs.Rows.{pieces_over}
use Rattle.table_schema.specs.declared.widths.Widths.{Widths}

-- three shelves, each cut to the rows of the least
pub record AreCuts (old0 old1 old2 new0 new1 new2 : Held) : Type 0 where
  pub zero : IsCut 0 (min (min old0.rows old1.rows) old2.rows) old0 new0
  pub one : IsCut 0 (min (min old0.rows old1.rows) old2.rows) old1 new1
  pub two : IsCut 0 (min (min old0.rows old1.rows) old2.rows) old2 new2

-- shelves whose rows, one after another, are those of a whole one
pub record ArePartsOf (whole : Held) (parts : List Held) : Type 0 where
  pub rows : (column : ℕ) → column ≤ whole.columns → AreParts column parts whole
  pub columns : All (λ (h : Held). h.columns ≡ whole.columns) parts
  pub order : GoOn whole.start parts

-- a shelf of `n` rows of these widths, from chunk 0 on
pub record AreRowsOf (w : Widths) (n : ℕ) (h : Held) : Type 0 where
  pub rows : h.rows ≡ n
  pub start : h.start ≡ 0
  pub columns : h.columns ≡ w.columns
  pub width : (column : ℕ) → column ≤ w.columns → h.width column ≡ width_of w column

-- shelves of three servers that hold, column by column, what each server has of the rows
pub record HoldEntries {S : Type 0} (held : S → Held) (e : Entries) (shelves : Servers S) : Type 0 where
  pub zero : AreShelves e.widths (length e.all) (map held shelves.zero.items)
  pub one : AreShelves e.widths (length e.all) (map held shelves.one.items)
  pub two : AreShelves e.widths (length e.all) (map held shelves.two.items)
  pub pieces : let at = λ (list : List S). pieces_of (map held list) in
      SamePieces e.widths.columns (by_server (at shelves.zero.items) (at shelves.one.items) (at shelves.two.items))
      (pieces_over e.widths e.all)
