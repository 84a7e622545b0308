use Rattle.std.proofs.Common.{[], ◌∷◌, rules}
use Rattle.transcript.specs.Setup.{column_of}
use Rattle.wire_line.specs.Carried.{went_both}
use Rattle.server_rounds.proofs.Messages.{none_matched, went_just}
use Rattle.server_rounds.proofs.Visiting.{all_fails}
use Rattle.visit_trace.specs.Growing.{by_stopped, grew_both, prefix_begun}
use Rattle.visit_trace.specs.Expected.{step_lengths}
use Rattle.server_rounds.proofs.Noting.{grew_along, none_is, prefix_along}
use Rattle.server_rounds.proofs.run.first_predicate.Goals as goal

pub returns-in_err-product-clause-messages : goal.returns-in_err-product-clause-messages
returns-in_err-product-clause-messages g c =
    let b = c.in_ok-bits.ensures.messages in
    let p = c.in_err-product.ensures.messages in
    let none = none_matched _ _ _ c.in_ok-bits.ensures.chain p.2 in
    let went = went_both g.W.Wire.sight g.met.W.Wire.both_pass _ _ _ b.0 p.0 b.1 p.1 in
    (b.0, went_just g.W.Wire.sight _ _ b.0 p.0 none went, b.2, search rules)

pub returns-clause-messages : goal.returns-clause-messages
returns-clause-messages g c =
    let b = c.in_ok-bits.ensures.messages in
    let p = c.in_ok-product.ensures.messages in
    let none = none_matched _ _ _ c.in_ok-bits.ensures.chain p.2 in
    let same = none_matched _ _ _ c.in_ok-bits.ensures.chain p.3 in
    let went = went_both g.W.Wire.sight g.met.W.Wire.both_pass _ _ _ b.0 p.0 b.1 p.1 in
    (b.0, went_just g.W.Wire.sight _ _ b.0 p.0 none went, b.2, rw same b.3)

pub returns-in_err-product-clause-visits : goal.returns-in_err-product-clause-visits
returns-in_err-product-clause-visits g c = all_fails g.S.Shelf.held g.S.Shelf.visited _ _ _ _ _ c.from_residual-in_err-product.ensures.0 c.in_ok-bits.ensures.visits

pub returns-in_err-bits-clause-trace : goal.returns-in_err-bits-clause-trace
returns-in_err-bits-clause-trace g c = by_stopped _ _ _ _ c.from_residual.ensures.0 c.in_err-bits.ensures.trace

pub returns-in_err-product-clause-trace : goal.returns-in_err-product-clause-trace
returns-in_err-product-clause-trace g c =
    let z = c.args.ready.now.plan in
    by_stopped _ _ _ _ c.from_residual-in_err-product.ensures.0
    (prefix_along _ _ _ _ (none_is z c.in_ok-bits.bits.plan (column_of z 0 ∷ []) (step_lengths z) c.in_ok-bits.bits.chain c.in_ok-bits.ensures.chain)
    (prefix_begun _ _ _ _ _ c.in_ok-bits.ensures.trace c.in_err-product.ensures.trace))

pub returns-clause-trace : goal.returns-clause-trace
returns-clause-trace g c =
    let z = c.args.ready.now.plan in
    grew_along _ _ _ _ (none_is z c.in_ok-bits.bits.plan (column_of z 0 ∷ []) (step_lengths z) c.in_ok-bits.bits.chain c.in_ok-bits.ensures.chain)
    (grew_both _ _ _ _ _ c.in_ok-bits.ensures.trace c.in_ok-product.ensures.trace)
