-- The places of the rows of parts.
use Rattle.std.proofs.Common.{◌≡◌, ◌∙◌, sym, ap, subst, ℕ, ◌+◌, List, [], ◌∷◌, ◌++◌, map, arith}
use Rattle.list_facts.specs.Count.{total}
use Rattle.scan_chunks.specs.Shelf.{Held}
use Rattle.prefix_log.specs.Starts.{Follow, start_of}
use Rattle.prefix_log.specs.declared.snapshot.Snapshot.{Snapshot}

follow_more : (held : Snapshot → Held) (place : ℕ) (xs : List Snapshot) (x : Snapshot) → Follow held place xs → start_of x ≡ place + total (λ (h : Held). h.rows) (map held xs) → Follow held place (xs ++ x ∷ [])
follow_more held place [] x follow at = (omega (arith, at), tt)
follow_more held place (s ∷ xs) x follow at = (follow.0, follow_more held (place + (held s).rows) xs x follow.1 (omega (arith, at)))

-- a part that was pushed
pub follow_pushed : (held : Snapshot → Held) (place before : ℕ) (old new : List Snapshot) (x : Snapshot) → new ≡ old ++ x ∷ [] → Follow held place old → total (λ (h : Held). h.rows) (map held old) ≡ before
    → start_of x ≡ place + before → Follow held place new
follow_pushed held place before old new x pushed follow rows at =
    subst (Follow held place) (sym pushed) (follow_more held place old x follow (at ∙ ap (λ (n : ℕ). place + n) (sym rows)))
