-- Rows that were split among the servers are held by them.
use Rattle.std.proofs.Common.{◌≡◌, refl, ℕ, ◌+◌, ◌%◌, ◌<◌, ◌≤◌, List, [], ◌∷◌, All, map, get_or, zero, suc, arith}
use Rattle.std.specs.List.{flat_map}
use Rattle.prg_chacha.specs.declared.seed.Seed.{Seed}
use Rattle.replicated_share.specs.Share.{AreShares}
use Rattle.replicated_share.proofs.Sharing.{appended_share}
use Rattle.table_schema.specs.declared.rows.Row.{Row}
use Rattle.table_schema.specs.declared.widths.Widths.{Widths}
use Rattle.table_schema.specs.Widths.{Holds}
use Rattle.onehot_column.specs.Code.{code_at}
use Rattle.onehot_column.proofs.CodeLaws.{pieces_share}
use Rattle.transcript.specs.Rows.{HoldRows, cells_over, pieces_over}
use Rattle.transcript.specs.Laws.{PiecesHold}

abbrev row_in : Row × Seed → Row
row_in entry = entry.0

none_shared : AreShares (λ k. []) (λ k. []) []
none_shared = record { next = λ k h. refl; long = record { first = refl; second = refl; third = refl }; adds_up = refl }

shared : (w : Widths) (entries : List (Row × Seed)) (column : ℕ) → column ≤ w.columns
    → AreShares (λ k. cells_over w k entries column) (λ k. cells_over w ((k + 1) % 3) entries column) (flat_map (code_at w column) (map row_in entries))
shared w [] column h = none_shared
shared w (entry ∷ entries) column h = appended_share _ _ _ _ _ _ (pieces_share w entry.0 entry.1 column h) (shared w entries column h)

held_rows : (w : Widths) (entries : List (Row × Seed)) → All (λ (entry : Row × Seed). Holds w entry.0) entries → All (Holds w) (map row_in entries)
held_rows w [] held k d h = absurd (omega arith)
held_rows w (entry ∷ entries) held zero d h = held 0 entry (omega arith)
held_rows w (entry ∷ entries) held (suc k) d h = held_rows w entries (λ i e lt. held (suc i) e (omega arith)) k d (omega arith)

pub pieces_hold : PiecesHold
pieces_hold w entries held = record { held = held_rows w entries held; shared = λ column h. shared w entries column h }
