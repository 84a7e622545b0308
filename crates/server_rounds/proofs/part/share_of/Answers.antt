use Rattle.server_rounds.proofs.Visiting.{none_seen}
use Rattle.server_rounds.proofs.part.share_of.Goals as goal

pub returns-in-Count-clause-visits : goal.returns-in-Count-clause-visits
returns-in-Count-clause-visits g c =
    rw (← c.aggregate.ensures, c.in-Count.is) (none_seen g.S.Shelf.held g.S.Shelf.visited c.args.shelves.now.items)
