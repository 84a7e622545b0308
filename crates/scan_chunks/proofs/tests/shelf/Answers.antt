use Rattle.std.proofs.Common.{◌≡◌, ◌∙◌, ap, List, [], ◌∷◌, ◌++◌, rules}
use Rattle.scan_chunks.specs.declared.column.Column.{Column}
use Rattle.scan_chunks.specs.Shelf.{Held}
use Rattle.scan_chunks.specs.Columns.{column_at}
use Rattle.scan_chunks.proofs.tests.shelf.Goals as goal

pub returns-clause-pairs : goal.returns-clause-pairs
returns-clause-pairs c =
    let columns : c.push-2.new.self.items ≡ c.in_ok-pairs.field-0 ∷ c.in_ok-values.field-0 ∷ [] = rw (c.in_ok-push-2.ensures.items, c.in_ok-push.ensures.items, c.in_ok-columns.ensures.items) in
    ap (λ (h : Held). h.width 0) c.new.ensures.held ∙ ap (λ (cs : List Column). (column_at cs 0).width) columns ∙ c.in_ok-pairs.ensures.width
