-- Slots of which the first have no piece.
use Rattle.std.proofs.Common.{◌≡◌, ◌∙◌, ap, ℕ, ◌+◌, ◌-◌, ◌<◌, ◌≤◌, List, ◌++◌, length, set, drop, replicate, arith}
use Rattle.std.specs.Prelude.{Option, None}
use Rattle.std.proofs.lemmas.List.{get_or_append_left, get_or-append_right, get_or-drop, get_or-replicate, length-append, length-replicate, set-append_right}
use Rattle.onehot_column.specs.declared.piece.Piece.{Piece}
use Rattle.prefix_log.specs.Logs.{piece_at, slots_from}
use Rattle.prefix_log.proofs.Ranges.{drop_past}

none_long : (s : ℕ) → length (replicate {A = Option Piece} s None) ≡ s
none_long s = length-replicate s None

pub lead_length : (s : ℕ) (ys : List (Option Piece)) → length (replicate s None ++ ys) ≡ s + length ys
lead_length s ys = length-append (replicate s None) ys ∙ ap (λ (n : ℕ). n + length ys) (none_long s)

pub lead_before : (s : ℕ) (ys : List (Option Piece)) (x : ℕ) → x < s → piece_at (replicate s None ++ ys) x ≡ None
lead_before s ys x lt = get_or_append_left (replicate s None) ys None x (omega (arith, none_long s)) ∙ get_or-replicate s x None None lt

pub lead_after : (s : ℕ) (ys : List (Option Piece)) (x : ℕ) → s ≤ x → piece_at (replicate s None ++ ys) x ≡ piece_at ys (x - s)
lead_after s ys x le = get_or-append_right (replicate s None) ys s x None (none_long s) le

pub lead_set : (s : ℕ) (ys : List (Option Piece)) (x : ℕ) (y : Option Piece) → s ≤ x → set (replicate s None ++ ys) x y ≡ replicate s None ++ set ys (x - s) y
lead_set s ys x y le = set-append_right (replicate s None) ys s x y (none_long s) le

pub lead_drop : (s t : ℕ) (ys : List (Option Piece)) → s ≤ t → drop t (replicate s None ++ ys) ≡ drop (t - s) ys
lead_drop s t ys le = drop_past (replicate s None) ys t (t - s) (omega (arith, none_long s))

-- slots from a start on
pub from_before : (s : ℕ) (slots : List (Option Piece)) (x : ℕ) → x < s → piece_at (slots_from s slots) x ≡ None
from_before s slots x lt = lead_before s (drop s slots) x lt

pub from_after : (s : ℕ) (slots : List (Option Piece)) (x : ℕ) → s ≤ x → piece_at (slots_from s slots) x ≡ piece_at slots x
from_after s slots x le = let same : s + (x - s) ≡ x = omega arith in lead_after s (drop s slots) x le ∙ get_or-drop s slots (x - s) None ∙ ap (piece_at slots) same
