use Rattle.std.proofs.Common.{rules, refl, subst, ℕ, [], arith}
use Rattle.std.proofs.lemmas.Result.{IfOk-weaker}
use Rattle.query_plan.specs.Query.{shaped}
use Rattle.visit_trace.specs.Expected.{trace_of}
use Rattle.visit_trace.specs.Growing.{by_stopped, prefix_none}
use Rattle.visit_trace.specs.Seen.{GrewBy}
use Rattle.wire_line.specs.Carried.{went_none}
use Rattle.agreed_rows.proofs.OverRows.{all_over_same, are_shelves_of, no_part, over_same, rows_are, same_parts}
use Rattle.agreed_rows.proofs.agreement.Agreement.open_pair.Goals as goal

pub returns-in_err-shelves-clause-messages : goal.returns-in_err-shelves-clause-messages
returns-in_err-shelves-clause-messages g c = ([], went_none g.W.Wire.sight _ _ refl refl (g.met.W.Wire.none_passes _), no_part _, search rules)

pub both_runs-requires-clause-few : goal.both_runs-requires-clause-few
both_runs-requires-clause-few g c κs within = omega (arith, rows_are _ _ _ _ c.requires.zero c.in_ok-shelves.ensures.zero, c.requires.few)

pub both_runs-requires-clause-zero : goal.both_runs-requires-clause-zero
both_runs-requires-clause-zero g c κs within =
    let s = c.in_ok-shelves.ensures in
    are_shelves_of _ _ _ _ _ c.requires.zero s.zero (rows_are _ _ _ _ c.requires.zero s.zero)

pub both_runs-requires-clause-one : goal.both_runs-requires-clause-one
both_runs-requires-clause-one g c κs within =
    let s = c.in_ok-shelves.ensures in
    are_shelves_of _ _ _ _ _ c.requires.one s.one (rows_are _ _ _ _ c.requires.zero s.zero)

pub both_runs-requires-clause-two : goal.both_runs-requires-clause-two
both_runs-requires-clause-two g c κs within =
    let s = c.in_ok-shelves.ensures in
    are_shelves_of _ _ _ _ _ c.requires.two s.two (rows_are _ _ _ _ c.requires.zero s.zero)

pub returns-clause-messages : goal.returns-clause-messages
returns-clause-messages g c =
    let s = c.in_ok-shelves.ensures in
    let r = c.requires in
    let k = c.args.keys.now in
    let h = c.both_runs.ensures.messages in
    let many = rows_are _ _ _ _ r.zero s.zero in
    let same = same_parts _ _ _ _ _ _ _ _ r.zero r.one r.two s.zero s.one s.two in
    let columns = rw c.shape.ensures.shape at c.shape.ensures.there in (
      h.0,
      h.1,
      over_same k.query k.widths k.seed _ _ _ _ h.0 many columns same h.2,
      IfOk-weaker c.both_runs.result _ _ (λ pair x. (all_over_same k.query k.widths k.seed _ _ _ _ h.0 many columns same x.0, x.1, x.2)) h.3,
    )

pub returns-in_err-shelves-clause-trace : goal.returns-in_err-shelves-clause-trace
returns-in_err-shelves-clause-trace g c = by_stopped _ _ _ _ c.from_residual.ensures.0 (prefix_none _ _)

pub returns-clause-trace : goal.returns-clause-trace
returns-clause-trace g c =
    let k = c.args.keys.now in
    let many = rows_are _ _ _ _ c.requires.zero c.in_ok-shelves.ensures.zero in
    subst (λ (n : ℕ). GrewBy c.args.trace.now c.both_runs.new.trace (trace_of (record { rows = n; widths = k.widths; shape = shaped k.query })) c.both_runs.result) many c.both_runs.ensures.trace
