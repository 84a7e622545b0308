use Rattle.std.proofs.Common.{[], ◌+◌, ◌++◌, refl, sym, rules, arith, append-nil}
use Rattle.wire_line.specs.Carried.{went_both}
use Rattle.server_rounds.proofs.Messages.{group_none, some_matched}
use Rattle.server_rounds.proofs.Visiting.{all_fails}
use Rattle.transcript.specs.Setup.{column_of}
use Rattle.visit_trace.specs.Growing.{by_stopped, grew_both, prefix_begun, prefix_cut}
use Rattle.visit_trace.specs.Expected.{product_part, step_lengths}
use Rattle.server_rounds.proofs.Noting.{grew_along, prefix_along, some_is, two_is}
use Rattle.server_rounds.proofs.run.next_predicate.Goals as goal

pub returns-in_err-bits-clause-messages : goal.returns-in_err-bits-clause-messages
returns-in_err-bits-clause-messages g c =
    let b = c.in_err-bits.ensures.messages in (
      b.0,
      b.1,
      (
        record {
          bit_messages = b.0;
          product_messages = [];
          both = sym (append-nil b.0);
          held = c.args.chain.chain;
          bits = b.2;
          reshared = λ h. absurd (omega arith);
          products = group_none _ _;
        },
        search rules,
      ),
    )

pub returns-in_err-product-clause-messages : goal.returns-in_err-product-clause-messages
returns-in_err-product-clause-messages g c =
    let b = c.in_ok-bits.ensures.messages in
    let p = c.in_err-product.ensures.messages in
    let bits = c.in_ok-bits.bits in
    let group = rw (c.in_ok-bits.ensures.plan, c.in_ok-bits.ensures.run, c.in_ok-bits.ensures.j) at (some_matched bits.chain c.args.chain.chain _ _ c.in_ok-bits.ensures.chain p.2) in (
      b.0 ++ p.0,
      went_both g.W.Wire.sight g.met.W.Wire.both_pass _ _ _ b.0 p.0 b.1 p.1,
      (
        record {
          bit_messages = b.0;
          product_messages = p.0;
          both = refl;
          held = bits.bits;
          bits = b.2;
          reshared = λ h. b.3;
          products = group;
        },
        search rules,
      ),
    )

pub returns-clause-messages : goal.returns-clause-messages
returns-clause-messages g c =
    let b = c.in_ok-bits.ensures.messages in
    let p = c.in_ok-product.ensures.messages in
    let bits = c.in_ok-bits.bits in
    let group = rw (c.in_ok-bits.ensures.plan, c.in_ok-bits.ensures.run, c.in_ok-bits.ensures.j) at (some_matched bits.chain c.args.chain.chain _ _ c.in_ok-bits.ensures.chain p.2) in (
      b.0 ++ p.0,
      went_both g.W.Wire.sight g.met.W.Wire.both_pass _ _ _ b.0 p.0 b.1 p.1,
      (
        record {
          bit_messages = b.0;
          product_messages = p.0;
          both = refl;
          held = bits.bits;
          bits = b.2;
          reshared = λ h. b.3;
          products = group;
        },
        some_matched bits.chain c.args.chain.chain _ _ c.in_ok-bits.ensures.chain p.3,
      ),
    )

pub returns-in_err-product-clause-visits : goal.returns-in_err-product-clause-visits
returns-in_err-product-clause-visits g c = all_fails g.S.Shelf.held g.S.Shelf.visited _ _ _ _ _ c.from_residual-in_err-product.ensures.0 c.in_ok-bits.ensures.visits

pub returns-in_err-bits-clause-trace : goal.returns-in_err-bits-clause-trace
returns-in_err-bits-clause-trace g c =
    let z = c.args.chain.plan in
    by_stopped _ _ _ _ c.from_residual.ensures.0
    (prefix_along _ _ _ _ (two_is z (column_of z (c.args.chain.j + 1))) (prefix_cut _ _ _ (product_part z) c.in_err-bits.ensures.trace))

pub returns-in_err-product-clause-trace : goal.returns-in_err-product-clause-trace
returns-in_err-product-clause-trace g c =
    let z = c.args.chain.plan in
    let b = c.in_ok-bits.ensures in
    by_stopped _ _ _ _ c.from_residual-in_err-product.ensures.0
    (prefix_along _ _ _ _ (two_is z (column_of z (c.args.chain.j + 1)))
    (prefix_begun _ _ _ _ _ b.trace (prefix_along _ _ _ _ (some_is c.in_ok-bits.bits.plan z c.in_ok-bits.bits.chain c.args.chain.chain b.plan b.chain) c.in_err-product.ensures.trace)))

pub returns-clause-trace : goal.returns-clause-trace
returns-clause-trace g c =
    let z = c.args.chain.plan in
    let b = c.in_ok-bits.ensures in
    grew_along _ _ _ _ (two_is z (column_of z (c.args.chain.j + 1)))
    (grew_both _ _ _ _ _ b.trace (grew_along _ _ _ _ (some_is c.in_ok-bits.bits.plan z c.in_ok-bits.bits.chain c.args.chain.chain b.plan b.chain) c.in_ok-product.ensures.trace))
