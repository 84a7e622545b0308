-- Shelves of rows that were agreed on.
use Rattle.std.proofs.Common.{◌≡◌, ◌∙◌, sym, subst, ℕ, List, length, take}
use Rattle.std.specs.Prelude.{Result, Ok, Err, IfOk, map}
use Rattle.prg_chacha.specs.declared.seed.Seed.{Seed}
use Rattle.scan_chunks.specs.Shelf.{Held}
use Rattle.server_rounds.specs.Shelves.{AreShelves}
use Rattle.server_rounds.specs.declared.servers.Servers.{Servers}
use Rattle.table_schema.specs.declared.rows.Row.{Row}
use Rattle.table_schema.specs.declared.widths.Widths.{Widths}
use Rattle.agreed_rows.specs.Agreed.{Entries, IsAgreed, first_rows}
use Rattle.agreed_rows.specs.Shelves.{ArePartsOf, HoldEntries}
use Rattle.agreed_rows.proofs.Answering.{agreed_long}
use Rattle.agreed_rows.proofs.OverRows.{are_rows, are_shelves, same_parts, same_rows}

-- the parts of an agreement's shelves hold its rows
hold_parts : {S : Type 0} (held : S → Held) (w : Widths) (order : List (Row × Seed)) (n : ℕ) (h0 h1 h2 : Held) → IsAgreed w order n h0 h1 h2 → (s : Servers S)
    → ArePartsOf h0 (map held s.zero.items) → ArePartsOf h1 (map held s.one.items) → ArePartsOf h2 (map held s.two.items) → HoldEntries held (first_rows w order n) s
hold_parts held w order n h0 h1 h2 is s p0 p1 p2 =
    let r0 = are_rows w 0 order n h0 is.zero in
    let r1 = are_rows w 1 order n h1 is.one in
    let r2 = are_rows w 2 order n h2 is.two in
    let long : n ≡ length (take n order) = sym (agreed_long w order n h0 h1 h2 is) in
    let parts = same_parts w n h0 h1 h2 (map held s.zero.items) (map held s.one.items) (map held s.two.items) r0 r1 r2 p0 p1 p2 in
    let rows = same_rows w order n h0 h1 h2 is in
    record {
      zero = subst (λ (m : ℕ). AreShelves w m (map held s.zero.items)) long (are_shelves w n h0 (map held s.zero.items) r0 p0);
      one = subst (λ (m : ℕ). AreShelves w m (map held s.one.items)) long (are_shelves w n h1 (map held s.one.items) r1 p1);
      two = subst (λ (m : ℕ). AreShelves w m (map held s.two.items)) long (are_shelves w n h2 (map held s.two.items) r2 p2);
      pieces = record {
        first = λ k column lt le. parts.first k column lt le ∙ rows.first k column lt le;
        second = λ k column lt le. parts.second k column lt le ∙ rows.second k column lt le;
      };
    }

-- where they could be made
pub hold_entries : {S E : Type 0} (held : S → Held) (w : Widths) (order : List (Row × Seed)) (n : ℕ) (h0 h1 h2 : Held) (e : Entries) → IsAgreed w order n h0 h1 h2
    → first_rows w order n ≡ e → (r : Result (Servers S) E) → IfOk r (λ s. ArePartsOf h0 (map held s.zero.items)) → IfOk r (λ s. ArePartsOf h1 (map held s.one.items))
    → IfOk r (λ s. ArePartsOf h2 (map held s.two.items)) → IfOk r (HoldEntries held e)
hold_entries held w order n h0 h1 h2 e is view (Ok s) p0 p1 p2 = subst (λ (v : Entries). HoldEntries held v s) view (hold_parts held w order n h0 h1 h2 is s p0 p1 p2)
hold_entries held w order n h0 h1 h2 e is view (Err f) p0 p1 p2 = tt
