use Rattle.std.proofs.Common.{arith, ◌≡◌, ◌∙◌, ◌*◌, ◌≤◌, sym, ap, ℕ, length, true}
use Rattle.std.specs.Result.{is_ok}
use Rattle.row_tree.specs.Column.{Tree}
use Rattle.row_tree.proofs.RunningSums.{long_after, rows_more}
use Rattle.row_tree.proofs.tree.RowTree.add_rows.Goals as goal

pub invariant_of-self-then-is_ok : goal.invariant_of-self-then-is_ok
invariant_of-self-then-is_ok g c =
    let inside = c.self.inside in
    let h = g.S.Shelf.held c.args.shelf.now in
    let r = c.run_chunks-added.result in
    let col : inside.column ≡ c.args.self.now.column = ap (λ (t : Tree). t.column) c.self.view_is in
    let wide : inside.width ≡ c.args.self.now.width = ap (λ (t : Tree). t.width) c.self.view_is in
    let old : inside.rows ≡ c.args.self.now.rows = ap (λ (t : Tree). t.rows) c.self.view_is in
    let width : h.width inside.column ≡ inside.width = ap h.width col ∙ (c.requires.width ∙ sym wide) in
    let there : inside.column ≤ h.columns = omega (arith, c.requires.column, col) in
    let good : is_ok r ≡ true = sym c.is_ok.ensures.value ∙ c.if-is_ok.true in
    let count = c.rows-rows.result in
    let near : length (h.pieces.first inside.column) ≡ count * inside.width =
    c.rows-rows.ensures.shelf.first inside.column there ∙ (ap (λ (x : ℕ). x * h.width inside.column) (sym c.rows-rows.ensures.value) ∙ ap (λ (x : ℕ). count * x) width) in
    let far : length (h.pieces.second inside.column) ≡ count * inside.width =
    c.rows-rows.ensures.shelf.second inside.column there ∙ (ap (λ (x : ℕ). x * h.width inside.column) (sym c.rows-rows.ensures.value) ∙ ap (λ (x : ℕ). count * x) width) in
    let first = long_after r inside.width c.reserve.new.self.items c.run_chunks-added.new.first.items (h.pieces.first inside.column) good c.run_chunks-added.ensures.first in
    let second = long_after r inside.width c.reserve-2.new.self.items c.run_chunks-added.new.second.items (h.pieces.second inside.column) good c.run_chunks-added.ensures.second in (
      c.self.invariant.0,
      c.self.invariant.1,
      omega (arith, c.requires.few, c.rows-rows.ensures.value, old),
      rows_more inside.rows count inside.width (length inside.first.items) (length (h.pieces.first inside.column)) _
          (omega (arith, first, ap length c.in_ok-reserve.ensures.items)) c.self.invariant.3 near,
      rows_more inside.rows count inside.width (length inside.second.items) (length (h.pieces.second inside.column)) _
          (omega (arith, second, ap length c.in_ok-reserve-2.ensures.items)) c.self.invariant.4 far,
    )

pub returns-else-is_ok-clause-part : goal.returns-else-is_ok-clause-part
returns-else-is_ok-clause-part g c =
    let col : c.self.inside.column ≡ c.args.self.now.column = ap (λ (t : Tree). t.column) c.self.view_is in
    rw col at c.run_chunks-added.ensures.part
