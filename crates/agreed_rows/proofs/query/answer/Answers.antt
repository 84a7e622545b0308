use Rattle.std.proofs.Common.{refl, sym, subst, []}
use Rattle.query_plan.specs.Query.{Suits}
use Rattle.wire_line.specs.Carried.{went_none}
use Rattle.server_rounds.specs.declared.opened.OpenedPair.{OpenedPair}
use Rattle.transcript.specs.Transcript.{IsPart}
use Rattle.agreed_rows.specs.Agreed.{Entries}
use Rattle.visit_trace.specs.Expected.{trace_of}
use Rattle.visit_trace.specs.Growing.{prefix_none}
use Rattle.visit_trace.specs.Seen.{GrewPrefix}
use Rattle.agreed_rows.specs.Answers.{AddsTrace, Answers, IsPlainAnswer, setup_over, sizes_over}
use Rattle.agreed_rows.proofs.Answering.{Asking, asked_answers, asked_begun, asked_opens, asked_part, asked_plain, asked_trace}
use Rattle.agreed_rows.proofs.OverRows.{no_part}
use Rattle.agreed_rows.proofs.query.answer.Goals as goal

nothing : OpenedPair
nothing = record { total = 0; weighted = 0 }

pub returns-in_default-clause-answers : goal.returns-in_default-clause-answers
returns-in_default-clause-answers g c = ([], nothing, went_none g.W.Wire.sight _ _ refl refl (g.met.W.Wire.none_passes _), no_part _, λ honest. tt)

pub returns-in-Err-clause-answers : goal.returns-in-Err-clause-answers
returns-in-Err-clause-answers g c =
    let a = c.agreed.inside in
    let e = c.args.agreed.now in
    let asking : Asking a.widths _ _ _ _ _ c.args.query.now c.args.seed.now c.in-Ok.keys = record {
      agreed = c.agreed.invariant;
      made = c.in-Ok.ensures.made;
      keys_of = c.in-Ok.ensures.add_up;
      suits = subst (λ (v : Entries). Suits v.widths.columns v.widths.bits c.args.query.now) (sym c.agreed.view_is) c.requires.suits;
      columns = c.in-Err.ensures.columns;
    } in
    let h = c.in-Err.ensures.messages in (
      h.0,
      nothing,
      h.1,
      subst (λ (v : Entries). IsPart (setup_over v c.args.query.now c.args.seed.now) h.0) c.agreed.view_is (asked_part _ _ _ _ _ _ _ _ _ asking h.0 h.2),
      λ honest. tt,
    )

pub returns-clause-answers : goal.returns-clause-answers
returns-clause-answers g c =
    let a = c.agreed.inside in
    let q = c.args.query.now in
    let asking : Asking a.widths _ _ _ _ _ c.args.query.now c.args.seed.now c.in-Ok.keys = record {
      agreed = c.agreed.invariant;
      made = c.in-Ok.ensures.made;
      keys_of = c.in-Ok.ensures.add_up;
      suits = subst (λ (v : Entries). Suits v.widths.columns v.widths.bits c.args.query.now) (sym c.agreed.view_is) c.requires.suits;
      columns = c.in-Ok-open_pair.ensures.columns;
    } in
    let h = c.in-Ok-open_pair.ensures.messages in
    let pair = c.in-Ok-open_pair.pair in
    let opens = asked_opens _ _ _ _ _ _ _ _ _ asking h.0 pair h.3.0 h.3.1 h.3.2 in (
      h.0,
      pair,
      h.1,
      subst (λ (v : Entries). Answers v q c.args.seed.now h.0 pair c.judge.result) c.agreed.view_is
          (asked_answers _ _ _ _ _ _ _ _ _ asking h.0 pair c.key.result c.rows.result c.judge.result opens c.key.ensures.key c.rows.ensures c.judge.ensures),
      λ honest. subst (λ (v : Entries). IsPlainAnswer v q c.judge.result) c.agreed.view_is
          (asked_plain _ _ _ _ _ _ _ _ _ asking h.0 pair c.key.result c.rows.result c.judge.result opens c.key.ensures.key c.judge.ensures honest),
    )

pub returns-clause-plain : goal.returns-clause-plain
returns-clause-plain g c still =
    let a = c.agreed.inside in
    let q = c.args.query.now in
    let asking : Asking a.widths _ _ _ _ _ c.args.query.now c.args.seed.now c.in-Ok.keys = record {
      agreed = c.agreed.invariant;
      made = c.in-Ok.ensures.made;
      keys_of = c.in-Ok.ensures.add_up;
      suits = subst (λ (v : Entries). Suits v.widths.columns v.widths.bits c.args.query.now) (sym c.agreed.view_is) c.requires.suits;
      columns = c.in-Ok-open_pair.ensures.columns;
    } in
    let h = c.in-Ok-open_pair.ensures.messages in
    let pair = c.in-Ok-open_pair.pair in
    let opens = asked_opens _ _ _ _ _ _ _ _ _ asking h.0 pair h.3.0 h.3.1 h.3.2 in
    subst (λ (v : Entries). IsPlainAnswer v q c.judge.result) c.agreed.view_is
    (asked_plain _ _ _ _ _ _ _ _ _ asking h.0 pair c.key.result c.rows.result c.judge.result opens c.key.ensures.key c.judge.ensures (h.1.honest still))

pub returns-in_default-clause-trace : goal.returns-in_default-clause-trace
returns-in_default-clause-trace g c = prefix_none _ _

pub returns-in-Err-clause-trace : goal.returns-in-Err-clause-trace
returns-in-Err-clause-trace g c =
    let a = c.agreed.inside in
    let q = c.args.query.now in
    let asking : Asking a.widths _ _ _ _ _ c.args.query.now c.args.seed.now c.in-Ok.keys = record {
      agreed = c.agreed.invariant;
      made = c.in-Ok.ensures.made;
      keys_of = c.in-Ok.ensures.add_up;
      suits = subst (λ (v : Entries). Suits v.widths.columns v.widths.bits c.args.query.now) (sym c.agreed.view_is) c.requires.suits;
      columns = c.in-Err.ensures.columns;
    } in
    subst (λ (v : Entries). GrewPrefix c.args.trace.now c.open_pair.new.trace (trace_of (sizes_over v q))) c.agreed.view_is (asked_begun _ _ _ _ _ _ _ _ _ asking _ _ c.in-Err.ensures.trace)

pub returns-clause-trace : goal.returns-clause-trace
returns-clause-trace g c =
    let a = c.agreed.inside in
    let q = c.args.query.now in
    let asking : Asking a.widths _ _ _ _ _ c.args.query.now c.args.seed.now c.in-Ok.keys = record {
      agreed = c.agreed.invariant;
      made = c.in-Ok.ensures.made;
      keys_of = c.in-Ok.ensures.add_up;
      suits = subst (λ (v : Entries). Suits v.widths.columns v.widths.bits c.args.query.now) (sym c.agreed.view_is) c.requires.suits;
      columns = c.in-Ok-open_pair.ensures.columns;
    } in
    subst (λ (v : Entries). AddsTrace v q c.args.trace.now c.open_pair.new.trace c.judge.result) c.agreed.view_is
    (asked_trace _ _ _ _ _ _ _ _ _ asking _ _ c.in-Ok-open_pair.pair c.key.result c.rows.result c.judge.result c.judge.ensures c.in-Ok-open_pair.ensures.trace)
