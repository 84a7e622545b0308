use Rattle.std.proofs.Common.{◌∙◌, ◌++◌, ap, sym, rules}
use Rattle.wire_line.specs.Carried.{went_both}
use Rattle.transcript.specs.Setup.{Sizes, count_of}
use Rattle.transcript.specs.Formulas.{total_ending}
use Rattle.server_rounds.specs.Visits.{opened_columns, predicate_columns}
use Rattle.server_rounds.proofs.Runs.{opening_part, run_ends}
use Rattle.server_rounds.proofs.Visiting.{all_cut, all_done, all_fails, all_then}
use Rattle.visit_trace.specs.Growing.{by_stopped, grew_both, prefix_begun, prefix_cut}
use Rattle.visit_trace.specs.Expected as expected
use Rattle.server_rounds.proofs.Noting.{grew_along, prefix_along, run_is}
use Rattle.server_rounds.proofs.run.run_once.Goals as goal

pub returns-in_err-product-clause-messages : goal.returns-in_err-product-clause-messages
returns-in_err-product-clause-messages g c =
    let b = c.in_err-product.ensures.messages in (b.0, b.1, b.2 (total_ending c.args.ready.now.plan), search rules)

pub reveal-requires-clause-last : goal.reveal-requires-clause-last
reveal-requires-clause-last g c κs within = c.in_ok-product.ensures.last ∙ ap (λ (z : Sizes). count_of z) (sym c.in_ok-product.ensures.plan)

pub reveal-requires-clause-zero : goal.reveal-requires-clause-zero
reveal-requires-clause-zero g c κs within = rw (c.in_ok-product.ensures.plan, c.in_ok-product.ensures.zero) c.requires.zero

pub reveal-requires-clause-one : goal.reveal-requires-clause-one
reveal-requires-clause-one g c κs within = rw (c.in_ok-product.ensures.plan, c.in_ok-product.ensures.one) c.requires.one

pub reveal-requires-clause-two : goal.reveal-requires-clause-two
reveal-requires-clause-two g c κs within = rw (c.in_ok-product.ensures.plan, c.in_ok-product.ensures.two) c.requires.two

pub returns-in_err-opened-clause-zero : goal.returns-in_err-opened-clause-zero
returns-in_err-opened-clause-zero g c = c.in_err-opened.ensures.zero ∙ c.in_ok-product.ensures.zero

pub returns-in_err-opened-clause-one : goal.returns-in_err-opened-clause-one
returns-in_err-opened-clause-one g c = c.in_err-opened.ensures.one ∙ c.in_ok-product.ensures.one

pub returns-in_err-opened-clause-two : goal.returns-in_err-opened-clause-two
returns-in_err-opened-clause-two g c = c.in_err-opened.ensures.two ∙ c.in_ok-product.ensures.two

pub returns-clause-zero : goal.returns-clause-zero
returns-clause-zero g c = c.in_ok-opened.ensures.zero ∙ c.in_ok-product.ensures.zero

pub returns-clause-one : goal.returns-clause-one
returns-clause-one g c = c.in_ok-opened.ensures.one ∙ c.in_ok-product.ensures.one

pub returns-clause-two : goal.returns-clause-two
returns-clause-two g c = c.in_ok-opened.ensures.two ∙ c.in_ok-product.ensures.two

pub returns-in_err-opened-clause-messages : goal.returns-in_err-opened-clause-messages
returns-in_err-opened-clause-messages g c =
    let p = c.in_ok-product.ensures in
    let o = rw (p.zero, p.one, p.two, p.plan, p.run) at c.in_err-opened.ensures.messages in
    let went = went_both g.W.Wire.sight g.met.W.Wire.both_pass _ _ _ p.messages.0 o.0 p.messages.1 o.1 in
    (p.messages.0 ++ o.0, went, opening_part _ _ _ _ _ p.messages.0 o.0 c.requires.run p.messages.3 o.2, search rules)

pub returns-clause-some : goal.returns-clause-some
returns-clause-some g c = c.in_ok-product.ensures.messages.3.some

pub returns-clause-messages : goal.returns-clause-messages
returns-clause-messages g c =
    let p = c.in_ok-product.ensures in
    let o = rw (p.zero, p.one, p.two, p.plan, p.run) at c.in_ok-opened.ensures.messages in
    let went = went_both g.W.Wire.sight g.met.W.Wire.both_pass _ _ _ p.messages.0 o.0 p.messages.1 o.1 in (
      p.messages.0 ++ o.0,
      went,
      opening_part _ _ _ _ _ p.messages.0 o.0 c.requires.run p.messages.3 o.2,
      run_ends _ _ _ _ _ p.messages.0 o.0 _ p.messages.3 o.3,
    )

pub returns-in_err-product-clause-visits : goal.returns-in_err-product-clause-visits
returns-in_err-product-clause-visits g c =
    let z = c.args.ready.now.plan in
    all_cut g.S.Shelf.held g.S.Shelf.visited (predicate_columns z) (opened_columns z.shape.aggregate z.widths.columns) _ _ _ _ c.from_residual.ensures.0 c.in_err-product.ensures.visits

pub returns-in_err-opened-clause-visits : goal.returns-in_err-opened-clause-visits
returns-in_err-opened-clause-visits g c =
    let z = c.args.ready.now.plan in
    let p = c.in_ok-product.ensures in
    let both = all_then g.S.Shelf.held g.S.Shelf.visited (predicate_columns z) (opened_columns z.shape.aggregate z.widths.columns) _ _ _ _ _ p.zero p.one p.two p.visits
    (rw p.plan at c.in_err-opened.ensures.visits) in
    all_fails g.S.Shelf.held g.S.Shelf.visited _ _ _ _ _ c.from_residual-in_err-opened.ensures.0 both

pub returns-clause-visits : goal.returns-clause-visits
returns-clause-visits g c =
    let z = c.args.ready.now.plan in
    let p = c.in_ok-product.ensures in
    let both = all_then g.S.Shelf.held g.S.Shelf.visited (predicate_columns z) (opened_columns z.shape.aggregate z.widths.columns) _ _ _ _ _ p.zero p.one p.two p.visits
    (rw p.plan at c.in_ok-opened.ensures.visits) in
    all_done g.S.Shelf.held g.S.Shelf.visited _ _ _ _ _ both

pub returns-in_err-product-clause-trace : goal.returns-in_err-product-clause-trace
returns-in_err-product-clause-trace g c =
    let z = c.args.ready.now.plan in
    by_stopped _ _ _ _ c.from_residual.ensures.0
    (prefix_along _ _ _ _ (run_is z) (prefix_cut _ _ _ (expected.opening_part z) c.in_err-product.ensures.trace))

pub returns-in_err-opened-clause-trace : goal.returns-in_err-opened-clause-trace
returns-in_err-opened-clause-trace g c =
    let z = c.args.ready.now.plan in
    let p = c.in_ok-product.ensures in
    by_stopped _ _ _ _ c.from_residual-in_err-opened.ensures.0
    (prefix_along _ _ _ _ (run_is z) (prefix_begun _ _ _ _ (expected.opening_part z) p.trace (rw p.plan at c.in_err-opened.ensures.trace)))

pub returns-clause-trace : goal.returns-clause-trace
returns-clause-trace g c =
    let z = c.args.ready.now.plan in
    let p = c.in_ok-product.ensures in
    grew_along _ _ _ _ (run_is z) (grew_both _ _ _ _ (expected.opening_part z) p.trace (rw p.plan at c.in_ok-opened.ensures.trace))
