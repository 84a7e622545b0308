use Rattle.std.proofs.Common.{◌∙◌, ◌++◌, [], ◌∷◌, ap, sym, rules}
use Rattle.wire_line.specs.Carried.{went_both}
use Rattle.transcript.specs.Setup.{Sizes, count_of}
use Rattle.server_rounds.specs.Visits.{predicate_columns, opened_columns, run_columns}
use Rattle.server_rounds.proofs.Visiting.{all_cut, all_done, all_fails, all_then}
use Rattle.visit_trace.specs.Growing.{by_stopped}
use Rattle.bucket_groups.specs.Ending.{bucket_ending}
use Rattle.bucket_groups.proofs.Runs.{before_part, buckets_part, buckets_end}
use Rattle.bucket_groups.proofs.Visiting.{run_after_products, run_after_values, run_all, run_cut}
use Rattle.bucket_groups.proofs.run.run_groups.Goals as goal

pub into_chain-chain-requires : goal.into_chain-chain-requires
into_chain-chain-requires g c = c.in_ok-product.ensures.last ∙ ap (λ (z : Sizes). count_of z) (sym c.in_ok-product.ensures.plan)

pub returns-in_err-product-clause-messages : goal.returns-in_err-product-clause-messages
returns-in_err-product-clause-messages g c =
    let b = c.in_err-product.ensures.messages in (b.0, b.1, b.2 (bucket_ending c.args.ready.now.plan c.args.column), search rules)

pub before_buckets-requires-clause-chain : goal.before_buckets-requires-clause-chain
before_buckets-requires-clause-chain g c κs within =
    let long = rw c.in_ok-product.ensures.plan at c.into_chain-chain.ensures.long in rw c.into_chain-chain.ensures.chain long

pub before_buckets-requires-clause-zero : goal.before_buckets-requires-clause-zero
before_buckets-requires-clause-zero g c κs within = rw c.in_ok-product.ensures.zero c.requires.zero

pub bucket_round-requires-clause-zero : goal.bucket_round-requires-clause-zero
bucket_round-requires-clause-zero g c κs within = rw (c.in_ok-held.ensures.zero, c.in_ok-product.ensures.zero) c.requires.zero

pub returns-in_err-held-clause-zero : goal.returns-in_err-held-clause-zero
returns-in_err-held-clause-zero g c = c.in_err-held.ensures.zero ∙ c.in_ok-product.ensures.zero

pub returns-in_err-totals-clause-zero : goal.returns-in_err-totals-clause-zero
returns-in_err-totals-clause-zero g c = c.in_err-totals.ensures.zero ∙ c.in_ok-held.ensures.zero ∙ c.in_ok-product.ensures.zero

pub returns-clause-zero : goal.returns-clause-zero
returns-clause-zero g c = c.in_ok-totals.ensures.zero ∙ c.in_ok-held.ensures.zero ∙ c.in_ok-product.ensures.zero

pub before_buckets-requires-clause-one : goal.before_buckets-requires-clause-one
before_buckets-requires-clause-one g c κs within = rw c.in_ok-product.ensures.one c.requires.one

pub bucket_round-requires-clause-one : goal.bucket_round-requires-clause-one
bucket_round-requires-clause-one g c κs within = rw (c.in_ok-held.ensures.one, c.in_ok-product.ensures.one) c.requires.one

pub returns-in_err-held-clause-one : goal.returns-in_err-held-clause-one
returns-in_err-held-clause-one g c = c.in_err-held.ensures.one ∙ c.in_ok-product.ensures.one

pub returns-in_err-totals-clause-one : goal.returns-in_err-totals-clause-one
returns-in_err-totals-clause-one g c = c.in_err-totals.ensures.one ∙ c.in_ok-held.ensures.one ∙ c.in_ok-product.ensures.one

pub returns-clause-one : goal.returns-clause-one
returns-clause-one g c = c.in_ok-totals.ensures.one ∙ c.in_ok-held.ensures.one ∙ c.in_ok-product.ensures.one

pub before_buckets-requires-clause-two : goal.before_buckets-requires-clause-two
before_buckets-requires-clause-two g c κs within = rw c.in_ok-product.ensures.two c.requires.two

pub bucket_round-requires-clause-two : goal.bucket_round-requires-clause-two
bucket_round-requires-clause-two g c κs within = rw (c.in_ok-held.ensures.two, c.in_ok-product.ensures.two) c.requires.two

pub returns-in_err-held-clause-two : goal.returns-in_err-held-clause-two
returns-in_err-held-clause-two g c = c.in_err-held.ensures.two ∙ c.in_ok-product.ensures.two

pub returns-in_err-totals-clause-two : goal.returns-in_err-totals-clause-two
returns-in_err-totals-clause-two g c = c.in_err-totals.ensures.two ∙ c.in_ok-held.ensures.two ∙ c.in_ok-product.ensures.two

pub returns-clause-two : goal.returns-clause-two
returns-clause-two g c = c.in_ok-totals.ensures.two ∙ c.in_ok-held.ensures.two ∙ c.in_ok-product.ensures.two

pub returns-in_err-held-clause-messages : goal.returns-in_err-held-clause-messages
returns-in_err-held-clause-messages g c =
    let p = c.in_ok-product.ensures in
    let v = rw (p.zero, p.one, p.two, c.into_chain-chain.ensures.chain) at c.in_err-held.ensures.messages in
    let went = went_both g.W.Wire.sight g.met.W.Wire.both_pass _ _ _ p.messages.0 v.0 p.messages.1 v.1 in
    (p.messages.0 ++ v.0, went, before_part _ c.args.column _ _ _ _ p.messages.0 v.0 c.requires.run p.messages.3 v.2, search rules)

pub returns-in_err-totals-clause-messages : goal.returns-in_err-totals-clause-messages
returns-in_err-totals-clause-messages g c =
    let p = c.in_ok-product.ensures in
    let h = c.in_ok-held.ensures in
    let v = rw (p.zero, p.one, p.two, c.into_chain-chain.ensures.chain) at h.messages in
    let o = rw (h.zero, h.one, h.two, p.zero, p.one, p.two) at c.in_err-totals.ensures.messages in
    let first = went_both g.W.Wire.sight g.met.W.Wire.both_pass _ _ _ p.messages.0 v.0 p.messages.1 v.1 in
    let went = went_both g.W.Wire.sight g.met.W.Wire.both_pass _ _ _ (p.messages.0 ++ v.0) o.0 first o.1 in
    ((p.messages.0 ++ v.0) ++ o.0, went, buckets_part _ c.args.column _ _ _ _ _ p.messages.0 v.0 o.0 c.requires.run p.messages.3 v.2 v.3 o.2, search rules)

pub returns-clause-messages : goal.returns-clause-messages
returns-clause-messages g c =
    let p = c.in_ok-product.ensures in
    let h = c.in_ok-held.ensures in
    let v = rw (p.zero, p.one, p.two, c.into_chain-chain.ensures.chain) at h.messages in
    let o = rw (h.zero, h.one, h.two, p.zero, p.one, p.two) at c.in_ok-totals.ensures.messages in
    let first = went_both g.W.Wire.sight g.met.W.Wire.both_pass _ _ _ p.messages.0 v.0 p.messages.1 v.1 in
    let went = went_both g.W.Wire.sight g.met.W.Wire.both_pass _ _ _ (p.messages.0 ++ v.0) o.0 first o.1 in (
      (p.messages.0 ++ v.0) ++ o.0,
      went,
      buckets_part _ c.args.column _ _ _ _ _ p.messages.0 v.0 o.0 c.requires.run p.messages.3 v.2 v.3 o.2,
      buckets_end _ c.args.column _ _ _ _ _ p.messages.0 v.0 o.0 _ c.requires.run p.messages.3 v.2 v.3 o.2 o.3,
    )

pub returns-in_err-product-clause-visits : goal.returns-in_err-product-clause-visits
returns-in_err-product-clause-visits g c =
    let held = g.S.Shelf.held in
    let visited = g.S.Shelf.visited in
    let z = c.args.ready.now.plan in
    let values = opened_columns z.shape.aggregate z.widths.columns in
    let last = c.args.column ∷ [] in
    let failed = c.from_residual.ensures.0 in
    all_cut held visited (run_columns z) last _ _ _ _ failed (all_cut held visited (predicate_columns z) values _ _ _ _ c.from_residual.ensures.0 c.in_err-product.ensures.visits)

pub returns-in_err-held-clause-visits : goal.returns-in_err-held-clause-visits
returns-in_err-held-clause-visits g c =
    let held = g.S.Shelf.held in
    let visited = g.S.Shelf.visited in
    let z = c.args.ready.now.plan in
    let values = opened_columns z.shape.aggregate z.widths.columns in
    let last = c.args.column ∷ [] in
    let p = c.in_ok-product.ensures in
    let both = all_then held visited (predicate_columns z) values _ _ _ _ _ p.zero p.one p.two p.visits c.in_err-held.ensures.visits in
    all_cut held visited (run_columns z) last _ _ _ _ c.from_residual-in_err-held.ensures.0 both

pub returns-in_err-totals-clause-visits : goal.returns-in_err-totals-clause-visits
returns-in_err-totals-clause-visits g c =
    let held = g.S.Shelf.held in
    let visited = g.S.Shelf.visited in
    let z = c.args.ready.now.plan in
    let values = opened_columns z.shape.aggregate z.widths.columns in
    let last = c.args.column ∷ [] in
    let p = c.in_ok-product.ensures in
    let h = c.in_ok-held.ensures in
    let both = all_then held visited (predicate_columns z) values _ _ _ _ _ p.zero p.one p.two p.visits h.visits in
    let three = all_then held visited (run_columns z) last _ _ _ _ _ (h.zero ∙ p.zero) (h.one ∙ p.one) (h.two ∙ p.two) both c.in_err-totals.ensures.visits in
    all_fails held visited _ _ _ _ _ c.from_residual-in_err-totals.ensures.0 three

pub returns-clause-visits : goal.returns-clause-visits
returns-clause-visits g c =
    let held = g.S.Shelf.held in
    let visited = g.S.Shelf.visited in
    let z = c.args.ready.now.plan in
    let values = opened_columns z.shape.aggregate z.widths.columns in
    let last = c.args.column ∷ [] in
    let p = c.in_ok-product.ensures in
    let h = c.in_ok-held.ensures in
    let both = all_then held visited (predicate_columns z) values _ _ _ _ _ p.zero p.one p.two p.visits h.visits in
    let three = all_then held visited (run_columns z) last _ _ _ _ _ (h.zero ∙ p.zero) (h.one ∙ p.one) (h.two ∙ p.two) both c.in_ok-totals.ensures.visits in
    all_done held visited _ _ _ _ _ three

pub returns-in_err-product-clause-trace : goal.returns-in_err-product-clause-trace
returns-in_err-product-clause-trace g c =
    by_stopped _ _ _ _ c.from_residual.ensures.0 (run_cut c.args.ready.now.plan c.args.column _ _ c.in_err-product.ensures.trace)

pub returns-in_err-held-clause-trace : goal.returns-in_err-held-clause-trace
returns-in_err-held-clause-trace g c =
    by_stopped _ _ _ _ c.from_residual-in_err-held.ensures.0
    (run_after_products c.args.ready.now.plan c.args.column _ _ _ c.in_ok-product.ensures.trace c.in_err-held.ensures.trace)

pub returns-in_err-totals-clause-trace : goal.returns-in_err-totals-clause-trace
returns-in_err-totals-clause-trace g c =
    by_stopped _ _ _ _ c.from_residual-in_err-totals.ensures.0
    (run_after_values c.args.ready.now.plan c.args.column _ _ _ _ c.in_ok-product.ensures.trace c.in_ok-held.ensures.trace c.in_err-totals.ensures.trace)

pub returns-clause-trace : goal.returns-clause-trace
returns-clause-trace g c =
    run_all c.args.ready.now.plan c.args.column _ _ _ _ c.in_ok-product.ensures.trace c.in_ok-held.ensures.trace c.in_ok-totals.ensures.trace
