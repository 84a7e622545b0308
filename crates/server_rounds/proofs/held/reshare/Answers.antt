use Rattle.std.proofs.Common.{◌∙◌, ap, [], refl, length, rules}
use Rattle.wire_line.specs.Carried.{went_none}
use Rattle.server_rounds.proofs.Messages.{group_none, regroup, reshared, three_same}
use Rattle.visit_trace.specs.Growing.{by_stopped, prefix_none}
use Rattle.server_rounds.specs.declared.way.Way.TheVariants.{Around}
use Rattle.server_rounds.proofs.Noting.{group_same, grew_along, prefix_along}
use Rattle.server_rounds.proofs.held.reshare.Goals as goal

pub returns-in_err-sent-clause-messages : goal.returns-in_err-sent-clause-messages
returns-in_err-sent-clause-messages g c =
    ([], went_none g.W.Wire.sight _ _ refl refl (g.met.W.Wire.none_passes _), group_none _ _, search rules)

pub returns-in_err-got-clause-messages : goal.returns-in_err-got-clause-messages
returns-in_err-got-clause-messages g c =
    let h = c.in_err-got.ensures.messages in
    let s = c.in_ok-sent.ensures in
    (h.0, h.1, regroup _ _ _ h.0 h.2 (three_same _ _ s.zero s.one s.two), search rules)

pub returns-clause-messages : goal.returns-clause-messages
returns-clause-messages g c =
    let h = c.in_ok-got.ensures.messages in
    let s = c.in_ok-sent.ensures in
    let group = regroup _ _ _ h.0 h.2 (three_same _ _ s.zero s.one s.two) in (
      h.0,
      h.1,
      group,
      reshared _ h.0 group h.3 c.accept_reshare.ensures.first c.accept_reshare.ensures.second c.accept_reshare-2.ensures.first c.accept_reshare-2.ensures.second
          c.accept_reshare-3.ensures.first c.accept_reshare-3.ensures.second,
    )

pub returns-in_err-sent-clause-trace : goal.returns-in_err-sent-clause-trace
returns-in_err-sent-clause-trace g c = by_stopped _ _ _ _ c.from_residual.ensures.0 (prefix_none _ _)

pub returns-in_err-got-clause-trace : goal.returns-in_err-got-clause-trace
returns-in_err-got-clause-trace g c =
    by_stopped _ _ _ _ c.from_residual-in_err-got.ensures.0
    (prefix_along _ _ _ _ (group_same Around _ _ _ (length c.args.words.zero) (ap length c.in_ok-sent.ensures.zero)
    (ap length c.in_ok-sent.ensures.one ∙ c.requires.one) (ap length c.in_ok-sent.ensures.two ∙ c.requires.two)) c.in_err-got.ensures.trace)

pub returns-clause-trace : goal.returns-clause-trace
returns-clause-trace g c =
    grew_along _ _ _ _ (group_same Around _ _ _ (length c.args.words.zero) (ap length c.in_ok-sent.ensures.zero)
    (ap length c.in_ok-sent.ensures.one ∙ c.requires.one) (ap length c.in_ok-sent.ensures.two ∙ c.requires.two)) c.in_ok-got.ensures.trace
