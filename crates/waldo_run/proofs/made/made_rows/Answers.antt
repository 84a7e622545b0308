use Rattle.std.proofs.Common.{◌∙◌, ap, subst, sym, zero, suc, List, [], ◌∷◌, ◌++◌, All, arith}
use Rattle.std.proofs.lemmas.List.Elements.{All-append}
use Rattle.list_facts.proofs.Listed.{listed_more}
use Rattle.table_schema.specs.Widths.{Holds, column_bits}
use Rattle.table_schema.specs.declared.rows.Row.{Row}
use Rattle.waldo_run.specs.Made.{made_row, made_rows}
use Rattle.waldo_run.proofs.made.made_rows.Goals as goal

single : (P : Row → Type 0) (row : Row) → P row → All P (row ∷ [])
single P row p zero d lt = p
single P row p (suc n) d lt = absurd (omega arith)

pub loop-i-preserved : goal.loop-i-preserved
loop-i-preserved c =
    let made = made_row (column_bits c.args.widths.now) c.args.number in
    let row = c.made_row.result in
    let before : List Row = made_rows (column_bits c.args.widths.now) c.args.number c.loop-i.i in
    let more = All-append (Holds c.args.widths.now) c.loop-i.rows.items (row ∷ []) c.loop-i.invariant.held (single (Holds c.args.widths.now) row c.made_row.ensures.held) in
    record {
      items = c.push_reserved.ensures.items ∙ ap (λ (l : List Row). l ++ row ∷ []) c.loop-i.invariant.items ∙ ap (λ (r : Row). before ++ r ∷ []) c.made_row.ensures.row ∙ listed_more c.loop-i.i made;
      held = subst (All (Holds c.args.widths.now)) (sym c.push_reserved.ensures.items) more;
      len = omega (arith, c.push_reserved.ensures.len, c.loop-i.invariant.len);
      capacity = c.push_reserved.ensures.capacity ∙ c.loop-i.invariant.capacity;
    }
