use Rattle.std.proofs.Common.{◌∙◌, sym, [], refl, rules}
use Rattle.std.proofs.lemmas.Result.{IfOk-at_ok}
use Rattle.wire_line.specs.Carried.{went_none}
use Rattle.server_rounds.proofs.Messages.{group_none, regroup, three_same}
use Rattle.visit_trace.specs.Growing.{by_stopped, prefix_none}
use Rattle.server_rounds.specs.declared.way.Way.TheVariants.{Around}
use Rattle.query_plan.specs.KeyMessages.{view_from}
use Rattle.server_rounds.proofs.Parts.{product_is}
use Rattle.server_rounds.proofs.Noting.{group_same, grew_along, prefix_along}
use Rattle.server_rounds.proofs.rounds.product_round.Goals as goal

pub returns-in_err-numbers-clause-messages : goal.returns-in_err-numbers-clause-messages
returns-in_err-numbers-clause-messages g c =
    ([], went_none g.W.Wire.sight _ _ refl refl (g.met.W.Wire.none_passes _), group_none _ _, search rules)

pub reshare-requires-clause-one : goal.reshare-requires-clause-one
reshare-requires-clause-one g c =
    let w = c.in_ok-numbers.ensures in
    let l = c.with_three_zeros-words.ensures.long in
    let v = c.locals_at_once-zero.ensures in
    l.long1 ∙ (IfOk-at_ok _ w.at1 v.one.long ∙ sym (l.long0 ∙ IfOk-at_ok _ w.at0 v.zero.long))

pub reshare-requires-clause-two : goal.reshare-requires-clause-two
reshare-requires-clause-two g c =
    let w = c.in_ok-numbers.ensures in
    let l = c.with_three_zeros-words.ensures.long in
    let v = c.locals_at_once-zero.ensures in
    l.long2 ∙ (IfOk-at_ok _ w.at2 v.two.long ∙ sym (l.long0 ∙ IfOk-at_ok _ w.at0 v.zero.long))

pub returns-in_err-held-clause-messages : goal.returns-in_err-held-clause-messages
returns-in_err-held-clause-messages g c =
    let h = c.in_err-held.ensures.messages in
    let w = c.in_ok-numbers.ensures in
    let v = c.locals_at_once-zero.ensures in
    let sent = c.with_three_zeros-words.ensures in
    let a = c.args in
    let keys = a.keys.now in
    let counter = c.product_counter-start.ensures.value in
    let e0 = product_is a.plan.now a.run (view_from keys.zero) a.j a.chain.now a.bits.now 0 _ _ _ _ _ sent.zero (IfOk-at_ok _ w.at0 v.zero.numbers) refl refl counter in
    let e1 = product_is a.plan.now a.run (view_from keys.one) a.j a.chain.now a.bits.now 1 _ _ _ _ _ sent.one (IfOk-at_ok _ w.at1 v.one.numbers) refl refl counter in
    let e2 = product_is a.plan.now a.run (view_from keys.two) a.j a.chain.now a.bits.now 2 _ _ _ _ _ sent.two (IfOk-at_ok _ w.at2 v.two.numbers) refl refl counter in
    (h.0, h.1, regroup _ _ _ h.0 h.2 (three_same _ _ e0 e1 e2), search rules)

pub returns-clause-long : goal.returns-clause-long
returns-clause-long g c =
    rw (c.with_three_zeros-words.ensures.long.long0 ∙ IfOk-at_ok _ c.in_ok-numbers.ensures.at0 c.locals_at_once-zero.ensures.zero.long ∙ c.requires.chain.zero_first)
    at c.in_ok-held.ensures.long

pub returns-clause-messages : goal.returns-clause-messages
returns-clause-messages g c =
    let h = c.in_ok-held.ensures.messages in
    let w = c.in_ok-numbers.ensures in
    let v = c.locals_at_once-zero.ensures in
    let sent = c.with_three_zeros-words.ensures in
    let a = c.args in
    let keys = a.keys.now in
    let counter = c.product_counter-start.ensures.value in
    let e0 = product_is a.plan.now a.run (view_from keys.zero) a.j a.chain.now a.bits.now 0 _ _ _ _ _ sent.zero (IfOk-at_ok _ w.at0 v.zero.numbers) refl refl counter in
    let e1 = product_is a.plan.now a.run (view_from keys.one) a.j a.chain.now a.bits.now 1 _ _ _ _ _ sent.one (IfOk-at_ok _ w.at1 v.one.numbers) refl refl counter in
    let e2 = product_is a.plan.now a.run (view_from keys.two) a.j a.chain.now a.bits.now 2 _ _ _ _ _ sent.two (IfOk-at_ok _ w.at2 v.two.numbers) refl refl counter in
    (h.0, h.1, regroup _ _ _ h.0 h.2 (three_same _ _ e0 e1 e2), h.3)

pub returns-in_err-numbers-clause-trace : goal.returns-in_err-numbers-clause-trace
returns-in_err-numbers-clause-trace g c = by_stopped _ _ _ _ c.from_residual.ensures.0 (prefix_none _ _)

pub returns-in_err-held-clause-trace : goal.returns-in_err-held-clause-trace
returns-in_err-held-clause-trace g c =
    let n = c.with_three_zeros-words.ensures.long.long0 ∙ IfOk-at_ok _ c.in_ok-numbers.ensures.at0 c.locals_at_once-zero.ensures.zero.long ∙ c.requires.chain.zero_first in
    by_stopped _ _ _ _ c.from_residual-in_err-held.ensures.0 (prefix_along _ _ _ _ (group_same Around _ _ _ _ n n n) c.in_err-held.ensures.trace)

pub returns-clause-trace : goal.returns-clause-trace
returns-clause-trace g c =
    let n = c.with_three_zeros-words.ensures.long.long0 ∙ IfOk-at_ok _ c.in_ok-numbers.ensures.at0 c.locals_at_once-zero.ensures.zero.long ∙ c.requires.chain.zero_first in
    grew_along _ _ _ _ (group_same Around _ _ _ _ n n n) c.in_ok-held.ensures.trace
