use Rattle.std.proofs.Common.{◌≡◌, ◌∙◌, sym, ap, subst, slice_get, Some}
use Rattle.waldo_table.specs.Pieces.{Placing}
use Rattle.waldo_table.specs.Tables.{PassView, TableView}
use Rattle.waldo_table.proofs.Placing.{at_placed, seen_at, share_at}
use Rattle.waldo_table.proofs.table.Table.put.Goals as goal

pub put-requires-clause-placed : goal.put-requires-clause-placed
put-requires-clause-placed g c s is = seen_at _ _ _ s (ap (λ (d : Placing). d.table.zero) c.drawn.view_is ∙ ap (λ (t : TableView). t.zero) (c.requires.table ∙ sym c.self.view_is)) (c.drawn.invariant.0.zero.placed s is)

pub invariant_of-drawn : goal.invariant_of-drawn
invariant_of-drawn g c =
    let id = ap (λ (d : Placing). d.table.zero) c.drawn.view_is ∙ ap (λ (t : TableView). t.zero) (c.requires.table ∙ sym c.self.view_is) in
    let placed = at_placed _ _ _ _ _ _ c.put.ensures.placed (λ s is. seen_at _ _ _ s (sym id) (c.put.ensures.keeps s is)) in
    let parts = c.drawn.invariant.0 in
    (record { held = parts.held; zero = placed; one = parts.one; two = parts.two }, c.drawn.invariant.1)

pub put-requires-in-1-clause-left : goal.put-requires-in-1-clause-left
put-requires-in-1-clause-left g c p is =
    let there = subst (λ (q : PassView). slice_get q.sight.order c.drawn.inside.place ≡ Some (c.drawn.inside.row, c.drawn.inside.seed)) (sym c.pass.view_is)
    (subst (λ (d : Placing). slice_get c.args.pass.now.sight.order d.place ≡ Some d.entry) (sym c.drawn.view_is) c.requires.entry) in
    share_at _ _ _ _ _ _ _ _ _ p (ap (λ (d : Placing). d.table.widths) c.drawn.view_is ∙ ap (λ (t : TableView). t.widths) (c.requires.table ∙ sym c.self.view_is)) c.self.invariant.2 c.drawn.invariant.0.held there (c.drawn.invariant.0.one.left p is)

pub put-requires-in-1-clause-placed : goal.put-requires-in-1-clause-placed
put-requires-in-1-clause-placed g c s is = seen_at _ _ _ s (ap (λ (d : Placing). d.table.one) c.drawn.view_is ∙ ap (λ (t : TableView). t.one) (c.requires.table ∙ sym c.self.view_is)) (c.drawn.invariant.0.one.placed s is)

pub invariant_of-drawn-in-1 : goal.invariant_of-drawn-in-1
invariant_of-drawn-in-1 g c =
    let id = ap (λ (d : Placing). d.table.one) c.drawn.view_is ∙ ap (λ (t : TableView). t.one) (c.requires.table ∙ sym c.self.view_is) in
    let placed = at_placed _ _ _ _ _ _ c.put-in-1.ensures.placed (λ s is. seen_at _ _ _ s (sym id) (c.put-in-1.ensures.keeps s is)) in
    let parts = c.drawn.invariant.0 in
    (record { held = parts.held; zero = parts.zero; one = placed; two = parts.two }, c.drawn.invariant.1)

pub put-requires-in_default-clause-left : goal.put-requires-in_default-clause-left
put-requires-in_default-clause-left g c p is =
    let there = subst (λ (q : PassView). slice_get q.sight.order c.drawn.inside.place ≡ Some (c.drawn.inside.row, c.drawn.inside.seed)) (sym c.pass.view_is)
    (subst (λ (d : Placing). slice_get c.args.pass.now.sight.order d.place ≡ Some d.entry) (sym c.drawn.view_is) c.requires.entry) in
    share_at _ _ _ _ _ _ _ _ _ p (ap (λ (d : Placing). d.table.widths) c.drawn.view_is ∙ ap (λ (t : TableView). t.widths) (c.requires.table ∙ sym c.self.view_is)) c.self.invariant.3 c.drawn.invariant.0.held there (c.drawn.invariant.0.two.left p is)

pub put-requires-in_default-clause-placed : goal.put-requires-in_default-clause-placed
put-requires-in_default-clause-placed g c s is = seen_at _ _ _ s (ap (λ (d : Placing). d.table.two) c.drawn.view_is ∙ ap (λ (t : TableView). t.two) (c.requires.table ∙ sym c.self.view_is)) (c.drawn.invariant.0.two.placed s is)

pub invariant_of-drawn-in_default : goal.invariant_of-drawn-in_default
invariant_of-drawn-in_default g c =
    let id = ap (λ (d : Placing). d.table.two) c.drawn.view_is ∙ ap (λ (t : TableView). t.two) (c.requires.table ∙ sym c.self.view_is) in
    let placed = at_placed _ _ _ _ _ _ c.put-in_default.ensures.placed (λ s is. seen_at _ _ _ s (sym id) (c.put-in_default.ensures.keeps s is)) in
    let parts = c.drawn.invariant.0 in
    (record { held = parts.held; zero = parts.zero; one = parts.one; two = placed }, c.drawn.invariant.1)
