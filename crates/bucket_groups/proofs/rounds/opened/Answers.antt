use Rattle.std.proofs.Common.{◌∙◌, refl, sym, length, arith}
use Rattle.visit_trace.specs.Growing.{by_stopped}
use Rattle.server_rounds.specs.declared.way.Way.TheVariants.{ToClient}
use Rattle.server_rounds.proofs.Noting.{group_same, grew_along, prefix_along}
use Rattle.bucket_groups.proofs.Adding.{added_twice}
use Rattle.bucket_groups.proofs.rounds.opened.Goals as goal

pub returns-clause-messages : goal.returns-clause-messages
returns-clause-messages g c =
    let h = c.in_ok-got.ensures.messages in
    let got = c.in_ok-got.got in
    let long = c.in_ok-got.ensures.long in
    let v = c.into_vec-totals.result in
    let r = h.3 in (
      h.0,
      h.1,
      h.2,
      record {
        full = r.full;
        sum =
            c.from_vec.ensures
            ∙ added_twice v.len got.zero got.one got.two v.items c.deref_mut.result.now c.as_slice.result.now c.add_into.new.to c.deref_mut-2.result.now c.as_slice-2.result.now
            c.add_into-2.new.to
            c.into_vec-totals.ensures (omega (arith, v.ok.0)) (omega (arith, long.long0, long.long1, c.requires.one)) (omega (arith, long.long0, long.long2, c.requires.two))
            c.deref_mut.ensures.value c.as_slice.ensures c.add_into.ensures c.deref_mut-2.ensures.value c.as_slice-2.ensures c.add_into-2.ensures
            ∙ sym (rw (r.at0, r.at1, r.at2) refl);
      },
    )

pub returns-in_err-got-clause-trace : goal.returns-in_err-got-clause-trace
returns-in_err-got-clause-trace g c =
    by_stopped _ _ _ _ c.from_residual.ensures.0
    (prefix_along _ _ _ _ (group_same ToClient _ _ _ (length c.args.words.zero) refl c.requires.one c.requires.two) c.in_err-got.ensures.trace)

pub returns-clause-trace : goal.returns-clause-trace
returns-clause-trace g c = grew_along _ _ _ _ (group_same ToClient _ _ _ (length c.args.words.zero) refl c.requires.one c.requires.two) c.in_ok-got.ensures.trace
