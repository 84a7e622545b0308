use Rattle.std.proofs.Common.{[], refl, sym, ◌∙◌}
use Rattle.wire_line.specs.Carried.{went_none}
use Rattle.server_rounds.proofs.Visiting.{none_seen}
use Rattle.bucket_groups.proofs.Visiting.{count_visits}
use Rattle.bucket_groups.proofs.rounds.before_buckets.Goals as goal

pub returns-in-Count-clause-messages : goal.returns-in-Count-clause-messages
returns-in-Count-clause-messages g c =
    let counts = sym c.aggregate.ensures ∙ c.in-Count.is in
    ([], went_none g.W.Wire.sight _ _ refl refl (g.met.W.Wire.none_passes _), rw counts refl, rw counts refl)

pub returns-in-Count-clause-visits : goal.returns-in-Count-clause-visits
returns-in-Count-clause-visits g c =
    let held = g.S.Shelf.held in
    let visited = g.S.Shelf.visited in
    let shelves = c.args.shelves.now in
    count_visits held visited c.args.ready.now.plan.shape.aggregate c.args.ready.now.plan.widths.columns shelves _ (sym c.aggregate.ensures ∙ c.in-Count.is)
    (record { zero = none_seen held visited shelves.zero.items; one = none_seen held visited shelves.one.items; two = none_seen held visited shelves.two.items })
