use Rattle.std.proofs.Common.{refl, rules}
use Rattle.server_rounds.specs.Visits.{opened_columns}
use Rattle.server_rounds.proofs.Visiting.{none_begun, visited_stopped}
use Rattle.server_rounds.proofs.part.opening_part.Goals as goal

pub returns-in_err-words : goal.returns-in_err-words
returns-in_err-words g c = record {
  same = refl;
  long = search rules;
  words = search rules;
  visits =
      visited_stopped g.S.Shelf.held g.S.Shelf.visited _ _ _ _ c.from_residual.ensures.0
      (none_begun g.S.Shelf.held g.S.Shelf.visited (opened_columns c.args.plan.now.shape.aggregate c.args.plan.now.widths.columns) c.args.shelves.now.items);
}
