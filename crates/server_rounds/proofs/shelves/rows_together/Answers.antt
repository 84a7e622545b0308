use Rattle.std.proofs.Common.{arith}
use Rattle.scan_chunks.specs.Shelf.{Held}
use Rattle.server_rounds.proofs.Together.{total-map}
use Rattle.server_rounds.proofs.shelves.rows_together.Goals as goal

pub count_rows-requires : goal.count_rows-requires
count_rows-requires g c = omega (arith, total-map (λ (h : Held). h.rows) g.S.Shelf.held c.args.shelves.now, c.requires.count, c.rows.ensures.few, c.rows.ensures.value)

pub returns-clause-count : goal.returns-clause-count
returns-clause-count g c = omega (arith, total-map (λ (h : Held). h.rows) g.S.Shelf.held c.args.shelves.now, c.requires.count, c.count_rows.ensures.count)

pub returns-clause-few : goal.returns-clause-few
returns-clause-few g c = omega (arith, total-map (λ (h : Held). h.rows) g.S.Shelf.held c.args.shelves.now, c.requires.count, c.count_rows.ensures.count, c.rows.ensures.few, c.rows.ensures.value)
