use Rattle.std.proofs.Common.{[], ◌∷◌, ap, length, map, ◌∙◌}
use Rattle.list_facts.proofs.Listed.{length-listed}
use Rattle.table_schema.specs.declared.widths.Widths.{Widths}
use Rattle.server_rounds.specs.Groups.{first_of, second_of}
use Rattle.server_rounds.specs.Shelves.{pieces_of}
use Rattle.server_rounds.proofs.Parts.{held_long}
use Rattle.bucket_groups.proofs.Parts.{products_are}
use Rattle.server_rounds.proofs.Visiting.{visited_stopped}
use Rattle.bucket_groups.proofs.Visiting.{made_begun}
use Rattle.bucket_groups.proofs.part.value_part.Goals as goal

pub returns-clause-long : goal.returns-clause-long
returns-clause-long g c =
    ap length c.in_ok-numbers.ensures ∙ length-listed _ _ ∙ ap length c.of_server.ensures.first ∙ held_long _ c.args.chain.now c.args.server c.requires.server c.requires.chain

pub returns-clause-numbers : goal.returns-clause-numbers
returns-clause-numbers g c =
    products_are c.args.ready.now.plan (pieces_of (map g.S.Shelf.held c.args.shelves.now.items)) _ _ (first_of c.args.chain.now c.args.server)
    (second_of c.args.chain.now c.args.server) _ _ _ c.widths.result.columns c.in_ok-numbers.ensures c.of_server.ensures.first c.of_server.ensures.second
    (ap (λ (w : Widths). w.columns) c.widths.ensures) c.in_ok-values.ensures.first c.in_ok-values.ensures.second

pub returns-in_err-numbers-clause-visits : goal.returns-in_err-numbers-clause-visits
returns-in_err-numbers-clause-visits g c =
    let held = g.S.Shelf.held in
    let visited = g.S.Shelf.visited in
    let columns = c.args.ready.now.plan.widths.columns ∷ [] in
    visited_stopped held visited columns _ _ _ c.from_residual-in_err-numbers.ensures.0 (made_begun held visited columns _ _ (rw c.widths.ensures at c.in_ok-values.ensures.visits))
