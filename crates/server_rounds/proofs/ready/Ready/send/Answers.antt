use Rattle.std.proofs.Common.{◌≡◌, ◌∙◌, ap, sym, [], refl, rules}
use Rattle.wire_line.specs.Carried.{went_none}
use Rattle.wire_line.specs.Messages.{message_at}
use Rattle.query_plan.specs.KeyMessages.{view_from, view_of}
use Rattle.transcript.specs.Setup.{Sizes}
use Rattle.server_rounds.specs.Plans.{read_for, sizes_for}
use Rattle.server_rounds.proofs.Messages.{group_none, regroup, three_same}
use Rattle.server_rounds.proofs.Tables.{legal_query, sent_long}
use Rattle.query_plan.specs.KeyMessages.{message_length}
use Rattle.visit_trace.specs.Growing.{by_stopped, prefix_none, prefix_whole}
use Rattle.server_rounds.specs.declared.way.Way.TheVariants.{ToServers}
use Rattle.server_rounds.proofs.Noting.{group_same, grew_along, prefix_along}
use Rattle.server_rounds.proofs.ready.Ready.send.Goals as goal

pub new-plan-requires : goal.new-plan-requires
new-plan-requires g c = rw (c.widths.ensures, c.shape.ensures.shape) (legal_query _ _ _ c.requires c.shape.ensures.suits)

pub returns-in_err-zero-clause-messages : goal.returns-in_err-zero-clause-messages
returns-in_err-zero-clause-messages g c =
    ([], went_none g.W.Wire.sight _ _ refl refl (g.met.W.Wire.none_passes _), group_none _ _, search rules)

pub returns-in_err-one-clause-messages : goal.returns-in_err-one-clause-messages
returns-in_err-one-clause-messages g c =
    ([], went_none g.W.Wire.sight _ _ refl refl (g.met.W.Wire.none_passes _), group_none _ _, search rules)

pub returns-in_err-two-clause-messages : goal.returns-in_err-two-clause-messages
returns-in_err-two-clause-messages g c =
    ([], went_none g.W.Wire.sight _ _ refl refl (g.met.W.Wire.none_passes _), group_none _ _, search rules)

pub returns-in_err-got-clause-messages : goal.returns-in_err-got-clause-messages
returns-in_err-got-clause-messages g c =
    let h = c.in_err-got.ensures.messages in
    (h.0, h.1, regroup _ _ _ h.0 h.2 (three_same _ _ c.in_ok-zero.ensures.words c.in_ok-one.ensures.words c.in_ok-two.ensures.words), search rules)

pub returns-in_err-zero_read-clause-messages : goal.returns-in_err-zero_read-clause-messages
returns-in_err-zero_read-clause-messages g c =
    let h = c.in_ok-got.ensures.messages in
    (h.0, h.1, regroup _ _ _ h.0 h.2 (three_same _ _ c.in_ok-zero.ensures.words c.in_ok-one.ensures.words c.in_ok-two.ensures.words), search rules)

pub returns-in_err-one_read-clause-messages : goal.returns-in_err-one_read-clause-messages
returns-in_err-one_read-clause-messages g c =
    let h = c.in_ok-got.ensures.messages in
    (h.0, h.1, regroup _ _ _ h.0 h.2 (three_same _ _ c.in_ok-zero.ensures.words c.in_ok-one.ensures.words c.in_ok-two.ensures.words), search rules)

pub returns-in_err-two_read-clause-messages : goal.returns-in_err-two_read-clause-messages
returns-in_err-two_read-clause-messages g c =
    let h = c.in_ok-got.ensures.messages in
    (h.0, h.1, regroup _ _ _ h.0 h.2 (three_same _ _ c.in_ok-zero.ensures.words c.in_ok-one.ensures.words c.in_ok-two.ensures.words), search rules)

pub returns-clause-messages : goal.returns-clause-messages
returns-clause-messages g c =
    let h = c.in_ok-got.ensures.messages in
    let asked = c.args.keys.now in
    let got = c.in_ok-got.got in
    let same : c.new-plan.result ≡ sizes_for asked c.args.rows = c.new-plan.ensures ∙ rw (c.widths.ensures, c.shape.ensures.shape) in
    let a0 = ap view_from c.in_ok-zero_read.ensures.keys ∙ ap (λ (z : Sizes). view_of z.shape z.widths.bits got.zero) same ∙ ap (read_for asked) (sym h.3.at0) in
    let a1 = ap view_from c.in_ok-one_read.ensures.keys ∙ ap (λ (z : Sizes). view_of z.shape z.widths.bits got.one) same ∙ ap (read_for asked) (sym h.3.at1) in
    let a2 = ap view_from c.in_ok-two_read.ensures.keys ∙ ap (λ (z : Sizes). view_of z.shape z.widths.bits got.two) same ∙ ap (read_for asked) (sym h.3.at2) in (
      h.0,
      h.1,
      regroup _ _ _ h.0 h.2 (three_same _ _ c.in_ok-zero.ensures.words c.in_ok-one.ensures.words c.in_ok-two.ensures.words),
      record { full = h.3.full; seen = three_same _ (λ k. read_for asked (message_at h.0 k).received) a0 a1 a2 },
    )

pub read_keys-requires : goal.read_keys-requires
read_keys-requires g c =
    let plan : c.new-plan.result ≡ sizes_for c.args.keys.now c.args.rows = c.new-plan.ensures ∙ rw (c.widths.ensures, c.shape.ensures.shape) in
    sent_long c.args.keys.now c.new-plan.result c.args.rows _ _ plan c.in_ok-zero.ensures.length c.in_ok-got.ensures.long.long0

pub read_keys-requires-2 : goal.read_keys-requires-2
read_keys-requires-2 g c =
    let plan : c.new-plan.result ≡ sizes_for c.args.keys.now c.args.rows = c.new-plan.ensures ∙ rw (c.widths.ensures, c.shape.ensures.shape) in
    sent_long c.args.keys.now c.new-plan.result c.args.rows _ _ plan c.in_ok-one.ensures.length c.in_ok-got.ensures.long.long1

pub read_keys-requires-3 : goal.read_keys-requires-3
read_keys-requires-3 g c =
    let plan : c.new-plan.result ≡ sizes_for c.args.keys.now c.args.rows = c.new-plan.ensures ∙ rw (c.widths.ensures, c.shape.ensures.shape) in
    sent_long c.args.keys.now c.new-plan.result c.args.rows _ _ plan c.in_ok-two.ensures.length c.in_ok-got.ensures.long.long2

pub returns-in_err-zero-clause-trace : goal.returns-in_err-zero-clause-trace
returns-in_err-zero-clause-trace g c = by_stopped _ _ _ _ c.from_residual.ensures.0 (prefix_none _ _)

pub returns-in_err-one-clause-trace : goal.returns-in_err-one-clause-trace
returns-in_err-one-clause-trace g c = by_stopped _ _ _ _ c.from_residual-in_err-one.ensures.0 (prefix_none _ _)

pub returns-in_err-two-clause-trace : goal.returns-in_err-two-clause-trace
returns-in_err-two-clause-trace g c = by_stopped _ _ _ _ c.from_residual-in_err-two.ensures.0 (prefix_none _ _)

pub returns-in_err-got-clause-trace : goal.returns-in_err-got-clause-trace
returns-in_err-got-clause-trace g c =
    let asked = c.args.keys.now in
    let n = message_length (sizes_for asked c.args.rows).shape asked.widths.bits in
    by_stopped _ _ _ _ c.from_residual-in_err-got.ensures.0
    (prefix_along _ _ _ _ (group_same ToServers _ _ _ n c.in_ok-zero.ensures.length c.in_ok-one.ensures.length c.in_ok-two.ensures.length)
    c.in_err-got.ensures.trace)

pub returns-in_err-zero_read-clause-trace : goal.returns-in_err-zero_read-clause-trace
returns-in_err-zero_read-clause-trace g c =
    let asked = c.args.keys.now in
    let n = message_length (sizes_for asked c.args.rows).shape asked.widths.bits in
    by_stopped _ _ _ _ c.from_residual-in_err-zero_read.ensures.0
    (prefix_whole _ _ _ (grew_along _ _ _ _ (group_same ToServers _ _ _ n c.in_ok-zero.ensures.length c.in_ok-one.ensures.length c.in_ok-two.ensures.length)
    c.in_ok-got.ensures.trace))

pub returns-in_err-one_read-clause-trace : goal.returns-in_err-one_read-clause-trace
returns-in_err-one_read-clause-trace g c =
    let asked = c.args.keys.now in
    let n = message_length (sizes_for asked c.args.rows).shape asked.widths.bits in
    by_stopped _ _ _ _ c.from_residual-in_err-one_read.ensures.0
    (prefix_whole _ _ _ (grew_along _ _ _ _ (group_same ToServers _ _ _ n c.in_ok-zero.ensures.length c.in_ok-one.ensures.length c.in_ok-two.ensures.length)
    c.in_ok-got.ensures.trace))

pub returns-in_err-two_read-clause-trace : goal.returns-in_err-two_read-clause-trace
returns-in_err-two_read-clause-trace g c =
    let asked = c.args.keys.now in
    let n = message_length (sizes_for asked c.args.rows).shape asked.widths.bits in
    by_stopped _ _ _ _ c.from_residual-in_err-two_read.ensures.0
    (prefix_whole _ _ _ (grew_along _ _ _ _ (group_same ToServers _ _ _ n c.in_ok-zero.ensures.length c.in_ok-one.ensures.length c.in_ok-two.ensures.length)
    c.in_ok-got.ensures.trace))

pub returns-clause-trace : goal.returns-clause-trace
returns-clause-trace g c =
    let asked = c.args.keys.now in
    let n = message_length (sizes_for asked c.args.rows).shape asked.widths.bits in
    grew_along _ _ _ _ (group_same ToServers _ _ _ n c.in_ok-zero.ensures.length c.in_ok-one.ensures.length c.in_ok-two.ensures.length)
    c.in_ok-got.ensures.trace
