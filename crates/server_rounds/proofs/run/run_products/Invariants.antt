use Rattle.std.proofs.Common.{◌≡◌, ◌+◌, List, map, Ok}
use Rattle.wire_line.specs.declared.message.Message.{Message}
use Rattle.wire_line.specs.Messages.{Went}
use Rattle.list_facts.specs.Listed.{listed}
use Rattle.transcript.specs.Setup.{column_of}
use Rattle.server_rounds.specs.Groups.{by_server}
use Rattle.server_rounds.specs.Plans.{views_of}
use Rattle.server_rounds.specs.Shelves.{pieces_of}
use Rattle.server_rounds.specs.Runs.{HaveProducts}
use Rattle.server_rounds.specs.Visits.{AllVisited}
use Rattle.visit_trace.specs.Seen.{Grew}
use Rattle.server_rounds.proofs.Noting.{predicates_part}
use Rattle.server_rounds.proofs.run.run_products.Given as goal

abbrev pub invariant-loop-j : goal.invariant-loop-j
invariant-loop-j g l =
    let held = g.S.Shelf.held in record {
      zero : map held l.shelves.zero.items ≡ map held l.fn.shelves.zero.items;
      one : map held l.shelves.one.items ≡ map held l.fn.shelves.one.items;
      two : map held l.shelves.two.items ≡ map held l.fn.shelves.two.items;
      plan : l.product.plan ≡ l.ready.plan;
      run : l.product.run ≡ l.run;
      j : l.product.j + 1 ≡ l._j;
      visits : AllVisited held g.S.Shelf.visited (listed l._j (column_of l.ready.plan)) l.fn.shelves l.shelves (Ok l.product);
      trace : Grew l.fn.trace l.trace (predicates_part l.ready.plan l._j);
      messages : (ms : List Message) × Went g.W.Wire.sight l.fn.wire ms l.wire
          × HaveProducts l.ready.plan
          (by_server (pieces_of (map held l.fn.shelves.zero.items)) (pieces_of (map held l.fn.shelves.one.items)) (pieces_of (map held l.fn.shelves.two.items)))
          l.run (views_of l.ready.keys) l._j l.product.chain ms;
    }
