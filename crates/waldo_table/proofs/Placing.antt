-- What a draw keeps for a server.
use Rattle.std.proofs.Common.{◌≡◌, sym, subst, ℕ, true, List, Some, slice_get, arith}
use Rattle.atomic_table.specs.Seated.{TableId}
use Rattle.journal_lock.specs.Seats as lock
use Rattle.list_facts.specs.Count.{has, times}
use Rattle.list_facts.proofs.Count.{has_yes}
use Rattle.onehot_column.specs.declared.piece.Piece.{Piece}
use Rattle.prg_chacha.specs.declared.seed.Seed.{Seed}
use Rattle.table_schema.specs.declared.rows.Row.{Row}
use Rattle.table_schema.specs.declared.widths.Widths.{Widths}
use Rattle.table_schema.specs.Widths.{Holds}
use Rattle.ticket_place.specs.Sights.{Named}
use Rattle.agreed_rows.specs.Servers.{IsShareAt}
use Rattle.waldo_table.specs.Pieces.{HasSeen, IsAt, IsPieceOf, was_placed}
use Rattle.waldo_table.specs.Tables.{Looked}
use Rattle.waldo_table.specs.Vaults.{tag_for}
use Rattle.waldo_table.specs.declared.tag.VaultTag.{VaultTag}
use Rattle.waldo_table.specs.declared.part.AtServer.{AtServer}
use Rattle.waldo_table.specs.declared.part.AtServer.TheVariants as at

-- a place that was seen in a legal journal stands there once
pub once_in : (order : List (Row × Seed)) (x : ℕ) (old new : lock.Seen) → Looked order old new → has x new.seen ≡ true → times x new.seen ≡ 1
once_in order x old new looked there = omega (arith, has_yes x new.seen there, looked.legal.once x)

-- once it is placed, what is kept is a seat
pub at_placed : (w : Widths) (e : Row × Seed) (x k : ℕ) (id : TableId) (a : AtServer) → was_placed a ≡ true → ((s : lock.Seen) → a ≡ at.Placed s → HasSeen id x s) → IsAt w e x k id a
at_placed w e x k id a placed seen = record { left = λ p is. absurd cc; placed = seen }

-- a lock by another name
pub seen_at : (id other : TableId) (x : ℕ) (s : lock.Seen) → id ≡ other → HasSeen id x s → HasSeen other x s
seen_at id other x s same seen = subst (λ (i : TableId). HasSeen i x s) same seen

-- a piece that is left is the share of the order's entry, as the lock's tag names server and widths
pub share_at : (w v : Widths) (e : Row × Seed) (x k most : ℕ) (book : Named) (tag : VaultTag) (order : List (Row × Seed)) (p : Piece) → w ≡ v → tag ≡ tag_for k v most book
    → Holds w e.0 → slice_get order x ≡ Some e → IsPieceOf w e k p → IsShareAt tag.widths tag.server order x p
share_at w v e x k most book tag order p same is held there piece =
    let share : IsShareAt w k order x p = record { entry = e; there = there; held = held; share = piece.share; wide = piece.wide } in
    subst (λ (t : VaultTag). IsShareAt t.widths t.server order x p) (sym is) (subst (λ (u : Widths). IsShareAt u k order x p) same share)
