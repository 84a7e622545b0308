-- The pieces of an entry, before and while they are placed.
use Rattle.std.specs.Prelude.{◌≡◌, ℕ, zero, suc, ◌&&◌, Bool, true, false}
use Rattle.atomic_table.specs.Seated.{TableId}
use Rattle.journal_lock.specs.Seats as lock
use Rattle.list_facts.specs.Count.{has}
use Rattle.onehot_column.specs.Piece.{HasWidths, IsPiece}
use Rattle.onehot_column.specs.declared.piece.Piece.{Piece}
use Rattle.prg_chacha.specs.declared.seed.Seed.{Seed}
use Rattle.table_schema.specs.Widths.{Holds}
use Rattle.table_schema.specs.declared.rows.Row.{Row}
use Rattle.table_schema.specs.declared.widths.Widths.{Widths}
use Rattle.waldo_table.specs.View.{TableView}
use Rattle.waldo_table.specs.declared.part.AtServer.{AtServer}
use Rattle.waldo_table.specs.declared.part.AtServer.TheVariants as at

-- a row and the seed that splits it, of these widths
pub record Ready : Type 0 where
  pub widths : Widths
  pub entry : Row × Seed

-- a drawn entry, the table that it was drawn from, its place, and at which servers its piece was placed
pub record Placing : Type 0 where
  pub table : TableView
  pub entry : Row × Seed
  pub place : ℕ
  pub zero : Bool
  pub one : Bool
  pub two : Bool

-- the piece of server k of an entry
pub record IsPieceOf (w : Widths) (e : Row × Seed) (k : ℕ) (piece : Piece) : Type 0 where
  pub share : IsPiece w e.0 e.1 k piece
  pub wide : HasWidths w piece

-- the three pieces of an entry that the widths hold
pub record HasPieces (w : Widths) (e : Row × Seed) (p0 p1 p2 : Piece) : Type 0 where
  pub held : Holds w e.0
  pub zero : IsPieceOf w e 0 p0
  pub one : IsPieceOf w e 1 p1
  pub two : IsPieceOf w e 2 p2

-- an idle seat at this lock that has seen the place in the journal
pub record HasSeen (id : TableId) (x : ℕ) (s : lock.Seen) : Type 0 where
  pub of : s.lock ≡ id
  pub idle : s.holds ≡ false
  pub seen : has x s.seen ≡ true

-- what a draw at place x keeps for server k: the piece of the entry; once that is placed, a seat at the server's lock that has seen the
-- place
pub record IsAt (w : Widths) (e : Row × Seed) (x : ℕ) (k : ℕ) (id : TableId) (a : AtServer) : Type 0 where
  pub left : (p : Piece) → a ≡ at.Left p → IsPieceOf w e k p
  pub placed : (s : lock.Seen) → a ≡ at.Placed s → HasSeen id x s

-- what it keeps for the three servers of its table
pub record HasParts (t : TableView) (e : Row × Seed) (x : ℕ) (a0 a1 a2 : AtServer) : Type 0 where
  pub held : Holds t.widths e.0
  pub zero : IsAt t.widths e x 0 t.zero a0
  pub one : IsAt t.widths e x 1 t.one a1
  pub two : IsAt t.widths e x 2 t.two a2

-- whether the piece was placed
abbrev pub was_placed : AtServer → Bool
was_placed (at.Left p) = false
was_placed (at.Placed s) = true

-- whether it was placed at server k
abbrev pub placed_at : ℕ → Placing → Bool
placed_at zero d = d.zero
placed_at (suc zero) d = d.one
placed_at (suc (suc k)) d = d.two

-- once it is placed at server k
abbrev pub with_placed : ℕ → Placing → Placing
with_placed zero d = record d { zero = true }
with_placed (suc zero) d = record d { one = true }
with_placed (suc (suc k)) d = record d { two = true }

abbrev pub is_done : Placing → Bool
is_done d = d.zero && d.one && d.two
