-- What contracts see of a table and of a pass.
use Rattle.std.specs.Prelude.{◌≡◌, ℕ, zero, suc, ◌+◌, ◌<◌, ◌≤◌, ⊤, true, false, if◌then◌else◌}
use Rattle.std.specs.Prelude.{List, [], ◌∷◌, ◌++◌, length, max, min, take, slice_get, Some}
use mathlib.Core.List.{IsPrefix}
use Rattle.journal_lock.specs.Seats as lock
use Rattle.list_facts.specs.Count.{has, longer}
use Rattle.prefix_log.specs.Journal.{prefix}
use Rattle.prg_chacha.specs.declared.seed.Seed.{Seed}
use Rattle.prefix_log.specs.declared.fault.OpenFault.{OpenFault}
use Rattle.prefix_log.specs.declared.fault.OpenFault.TheVariants as open_faults
use Rattle.table_schema.specs.Widths.{Fits, cells_of, column_bits}
use Rattle.table_schema.specs.declared.rows.Row.{Row}
use Rattle.table_schema.specs.declared.widths.Widths.{Widths}
use Rattle.ticket_place.specs.Sights.{Named, Seen}
use Rattle.agreed_rows.specs.Agreed.{Entries}
use Rattle.waldo_table.specs.Pieces.{Placing, is_done}
use Rattle.waldo_table.specs.Vaults.{IsJournal, tag_for}
pub use Rattle.waldo_table.specs.View.{TableView}
use Rattle.waldo_table.specs.declared.faults.AgreeFault.{AgreeFault}
use Rattle.waldo_table.specs.declared.faults.AgreeFault.TheVariants as agree
use Rattle.waldo_table.specs.declared.tag.VaultTag.{VaultTag}

-- a caller: what it has seen of the order, with its room and its own places; of each journal, with its looks; and its floor
pub record PassView : Type 0 where
  pub sight : Seen
  pub zero : lock.Seen
  pub one : lock.Seen
  pub two : lock.Seen
  pub floor : ℕ

-- the seat at server k
abbrev pub seat_of : ℕ → PassView → lock.Seen
seat_of zero p = p.zero
seat_of (suc zero) p = p.one
seat_of (suc (suc k)) p = p.two

-- the pass is of this table
pub record IsOf (t : TableView) (p : PassView) : Type 0 where
  pub book : p.sight.book ≡ t.book
  pub zero : p.zero.lock ≡ t.zero
  pub one : p.one.lock ≡ t.one
  pub two : p.two.lock ≡ t.two

-- the second pass has seen what the first had
pub record Grows (p q : PassView) : Type 0 where
  pub order : IsPrefix p.sight.order q.sight.order
  pub zero : IsPrefix p.zero.seen q.zero.seen
  pub one : IsPrefix p.one.seen q.one.seen
  pub two : IsPrefix p.two.seen q.two.seen

-- a seat that holds nothing, over a legal journal
pub record IsSeat (s : lock.Seen) (order : List (Row × Seed)) : Type 0 where
  pub idle : s.holds ≡ false
  pub journal : IsJournal s.seen order

-- a legal pass
pub record IsLegal (p : PassView) : Type 0 where
  pub zero : IsSeat p.zero p.sight.order
  pub one : IsSeat p.one p.sight.order
  pub two : IsSeat p.two p.sight.order
  pub floor : p.floor ≤ length p.sight.order

-- the lock of server k of a table
abbrev pub IsLockOf : ℕ → Widths → Named → lock.Named VaultTag → Type 0
IsLockOf k w book l = l.tag ≡ tag_for k w book.capacity book

-- a sight has seen more, and a seat made one look, of what was there then
pub record Looked (order : List (Row × Seed)) (old new : lock.Seen) : Type 0 where
  pub seen : IsPrefix old.seen new.seen
  pub rest : new ≡ record old { seen = new.seen; looks = old.looks + 1 }
  pub legal : IsJournal new.seen order

-- three servers were looked at; they agree on the least of their prefixes, which is at least the old floor, and the floor is that number
pub record Agrees (w : Widths) (p q : PassView) (a : Entries) : Type 0 where
  pub rows : length a.all ≡ min (min (prefix q.zero.seen) (prefix q.one.seen)) (prefix q.two.seen)
  pub entries : a ≡ record { widths = w; all = take (length a.all) q.sight.order }
  pub kept : p.floor ≤ length a.all
  pub floor : q.floor ≡ length a.all
  pub looks : (k : ℕ) → k < 3 → (seat_of k q).looks ≡ (seat_of k p).looks + 1

-- server k was looked at, and lacked a row below the floor; each server before it had them all, and none after it was looked at
pub record Lacks (p q : PassView) (k had least : ℕ) : Type 0 where
  pub server : k < 3
  pub found : had ≡ prefix (seat_of k q).seen
  pub below : had < least
  pub floor : least ≡ p.floor
  pub before : (j : ℕ) → j < k → (least ≤ prefix (seat_of j q).seen) × ((seat_of j q).looks ≡ (seat_of j p).looks + 1)
  pub looks : (seat_of k q).looks ≡ (seat_of k p).looks + 1
  pub after : (j : ℕ) → k < j → j < 3 → seat_of j q ≡ seat_of j p

abbrev pub IsAgreeFault : PassView → PassView → AgreeFault → Type 0
IsAgreeFault p q (agree.Again k had floor) = Lacks p q k had floor
IsAgreeFault p q agree.Memory = ⊤

-- the fault is out of memory
abbrev pub IsMemory : AgreeFault → Type 0
IsMemory (agree.Again k had floor) = ⊥
IsMemory agree.Memory = ⊤

-- the floor is at most each server's prefix as it was seen
pub record IsCovered (p : PassView) : Type 0 where
  pub zero : p.floor ≤ prefix p.zero.seen
  pub one : p.floor ≤ prefix p.one.seen
  pub two : p.floor ≤ prefix p.two.seen

-- the floor once the pieces of a draw are all placed
abbrev pub risen : Placing → ℕ → ℕ
risen d floor = if is_done d then max floor (d.place + 1) else floor

-- an entry was appended: the order is the old one, then what others drew, then the entry, at this place, and then what others drew after
-- it; the place is own, one draw less is left, the three servers have the place, and the floor is above it
pub record Appends (entry : Row × Seed) (p : PassView) (place : ℕ) (q : PassView) : Type 0 where
  pub there : slice_get q.sight.order place ≡ Some entry
  pub past : length p.sight.order ≤ place
  pub own : q.sight.own ≡ p.sight.own ++ place ∷ []
  pub room : q.sight.room + 1 ≡ p.sight.room
  pub zero : has place q.zero.seen ≡ true
  pub one : has place q.one.seen ≡ true
  pub two : has place q.two.seen ≡ true
  pub floor : q.floor ≡ max p.floor (place + 1)

-- a seat that has seen as much, and has made no look
abbrev pub fresh_seat : lock.Seen → lock.Seen
fresh_seat s = record s { looks = 0; tries = 0 }

-- a pass that has seen as much, with this room
abbrev pub fresh_pass : PassView → ℕ → PassView
fresh_pass p room = record {
  sight = record p.sight { room = room; own = []; looks = 0 };
  zero = fresh_seat p.zero;
  one = fresh_seat p.one;
  two = fresh_seat p.two;
  floor = p.floor;
}

-- a seat that took another in
abbrev pub joined_seat : lock.Seen → lock.Seen → lock.Seen
joined_seat a b = record a { seen = longer a.seen b.seen }

-- a pass that took another in
abbrev pub gathered : PassView → PassView → PassView
gathered p q = record {
  sight = record p.sight {
    order = longer p.sight.order q.sight.order;
    room = p.sight.room + q.sight.room;
    own = p.sight.own ++ q.sight.own;
  };
  zero = joined_seat p.zero q.zero;
  one = joined_seat p.one q.one;
  two = joined_seat p.two q.two;
  floor = max p.floor q.floor;
}

-- a pass that met another
abbrev pub met : PassView → PassView → PassView
met p q = record {
  sight = record p.sight { order = longer p.sight.order q.sight.order };
  zero = joined_seat p.zero q.zero;
  one = joined_seat p.one q.one;
  two = joined_seat p.two q.two;
  floor = max p.floor q.floor;
}

-- why no table was made: it would have this many cells, which is too many or none; out of memory may come at any time
abbrev pub HasOpenFault : Widths → ℕ → OpenFault → Type 0
HasOpenFault w capacity (open_faults.Cells had) = (¬ Fits (column_bits w) capacity) × (had ≡ cells_of (column_bits w) capacity)
HasOpenFault w capacity open_faults.Memory = ⊤
