use Rattle.std.proofs.Common.{◌∙◌, ap, List, [], slice_index_or}
use Rattle.scan_chunks.specs.Shelf.{Held}
use Rattle.scan_chunks.specs.declared.column.Column.{Column}
use Rattle.tree_tests.proofs.trees.shelf.Goals as goal

pub returns-clause-width : goal.returns-clause-width
returns-clause-width c =
    ap (λ (h : Held). h.width 0) c.new.ensures.held
    ∙ ap (λ (l : List Column). (slice_index_or l 0 (record { width = 0; first = []; second = [] })).width) c.in_ok-columns.ensures.items
