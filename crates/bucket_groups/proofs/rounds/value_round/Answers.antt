use Rattle.std.proofs.Common.{[], ◌∷◌, map, refl, sym, ◌∙◌, rules}
use Rattle.std.proofs.lemmas.Result.{IfOk-at_ok}
use Rattle.wire_line.specs.Carried.{went_none}
use Rattle.visit_trace.specs.Growing.{by_stopped, prefix_none}
use Rattle.server_rounds.specs.declared.servers.Servers.{Servers}
use Rattle.server_rounds.proofs.Messages.{group_none, regroup, three_same}
use Rattle.server_rounds.proofs.Visiting.{all_made, all_stopped, visited_ok}
use Rattle.server_rounds.proofs.Noting.{bits_noted, enough_all, grew_along, prefix_along, server_noted}
use Rattle.query_plan.specs.KeyMessages.{view_from}
use Rattle.server_rounds.specs.Groups.{first_of, second_of}
use Rattle.server_rounds.specs.Shelves.{pieces_of}
use Rattle.bucket_groups.proofs.Parts.{values_are}
use Rattle.bucket_groups.proofs.rounds.value_round.Goals as goal

pub returns-in_err-numbers-clause-messages : goal.returns-in_err-numbers-clause-messages
returns-in_err-numbers-clause-messages g c =
    ([], went_none g.W.Wire.sight _ _ refl refl (g.met.W.Wire.none_passes _), group_none _ _, search rules)

pub returns-in_err-held-clause-messages : goal.returns-in_err-held-clause-messages
returns-in_err-held-clause-messages g c =
    let h = c.in_err-held.ensures.messages in
    let w = c.in_ok-numbers.ensures in
    let v = c.values_at_once-zero.ensures in
    let sent = c.with_three_zeros-words.ensures in
    let z = c.args.ready.now.plan in
    let run = c.args.run in
    let keys = c.args.ready.now.keys in
    let chain = c.args.chain.now in
    let shelves = c.args.shelves.now in
    let held = g.S.Shelf.held in
    let counted = c.counter-start.ensures.value in
    let e0 = values_are z run (view_from keys.zero) (pieces_of (map held shelves.zero.items)) (first_of chain 0) (second_of chain 0) _ _ _ _ _ sent.zero (IfOk-at_ok _ w.at0 v.zero.numbers) refl refl counted in
    let e1 = values_are z run (view_from keys.one) (pieces_of (map held shelves.one.items)) (first_of chain 1) (second_of chain 1) _ _ _ _ _ sent.one (IfOk-at_ok _ w.at1 v.one.numbers) refl refl counted in
    let e2 = values_are z run (view_from keys.two) (pieces_of (map held shelves.two.items)) (first_of chain 2) (second_of chain 2) _ _ _ _ _ sent.two (IfOk-at_ok _ w.at2 v.two.numbers) refl refl counted in
    (h.0, h.1, regroup _ _ _ h.0 h.2 (three_same _ _ e0 e1 e2), search rules)

pub returns-clause-messages : goal.returns-clause-messages
returns-clause-messages g c =
    let h = c.in_ok-held.ensures.messages in
    let w = c.in_ok-numbers.ensures in
    let v = c.values_at_once-zero.ensures in
    let sent = c.with_three_zeros-words.ensures in
    let z = c.args.ready.now.plan in
    let run = c.args.run in
    let keys = c.args.ready.now.keys in
    let chain = c.args.chain.now in
    let shelves = c.args.shelves.now in
    let held = g.S.Shelf.held in
    let counted = c.counter-start.ensures.value in
    let e0 = values_are z run (view_from keys.zero) (pieces_of (map held shelves.zero.items)) (first_of chain 0) (second_of chain 0) _ _ _ _ _ sent.zero (IfOk-at_ok _ w.at0 v.zero.numbers) refl refl counted in
    let e1 = values_are z run (view_from keys.one) (pieces_of (map held shelves.one.items)) (first_of chain 1) (second_of chain 1) _ _ _ _ _ sent.one (IfOk-at_ok _ w.at1 v.one.numbers) refl refl counted in
    let e2 = values_are z run (view_from keys.two) (pieces_of (map held shelves.two.items)) (first_of chain 2) (second_of chain 2) _ _ _ _ _ sent.two (IfOk-at_ok _ w.at2 v.two.numbers) refl refl counted in
    (h.0, h.1, regroup _ _ _ h.0 h.2 (three_same _ _ e0 e1 e2), h.3)

pub returns-clause-long : goal.returns-clause-long
returns-clause-long g c =
    rw (c.with_three_zeros-words.ensures.long.long0 ∙ IfOk-at_ok _ c.in_ok-numbers.ensures.at0 c.values_at_once-zero.ensures.zero.long) at c.in_ok-held.ensures.long

pub returns-in_err-numbers-clause-visits : goal.returns-in_err-numbers-clause-visits
returns-in_err-numbers-clause-visits g c =
    let v = c.values_at_once-zero.ensures in
    all_stopped g.S.Shelf.held g.S.Shelf.visited _ _ _ _ _ _ _ c.from_residual.ensures.0 v.zero.visits v.one.visits v.two.visits

pub returns-in_err-held-clause-visits : goal.returns-in_err-held-clause-visits
returns-in_err-held-clause-visits g c =
    let v = c.values_at_once-zero.ensures in
    all_stopped g.S.Shelf.held g.S.Shelf.visited _ _ _ _ _ _ _ c.from_residual-in_err-held.ensures.0 v.zero.visits v.one.visits v.two.visits

pub returns-clause-visits : goal.returns-clause-visits
returns-clause-visits g c =
    let v = c.values_at_once-zero.ensures in
    let w = c.in_ok-numbers.ensures in
    all_made g.S.Shelf.held g.S.Shelf.visited _ _ _ _ _ _ _ _ _ _ w.at0 w.at1 w.at2 v.zero.visits v.one.visits v.two.visits

pub reshare_noted-requires-clause-one : goal.reshare_noted-requires-clause-one
reshare_noted-requires-clause-one g c =
    let w = c.in_ok-numbers.ensures in
    let v = c.values_at_once-zero.ensures in
    let l = c.with_three_zeros-words.ensures.long in
    l.long1 ∙ (IfOk-at_ok _ w.at1 v.one.long ∙ sym (l.long0 ∙ IfOk-at_ok _ w.at0 v.zero.long))

pub reshare_noted-requires-clause-two : goal.reshare_noted-requires-clause-two
reshare_noted-requires-clause-two g c =
    let w = c.in_ok-numbers.ensures in
    let v = c.values_at_once-zero.ensures in
    let l = c.with_three_zeros-words.ensures.long in
    l.long2 ∙ (IfOk-at_ok _ w.at2 v.two.long ∙ sym (l.long0 ∙ IfOk-at_ok _ w.at0 v.zero.long))

pub reshare_noted-requires-clause-zero_seen : goal.reshare_noted-requires-clause-zero_seen
reshare_noted-requires-clause-zero_seen g c =
    let held = g.S.Shelf.held in
    let visited = g.S.Shelf.visited in
    let v = c.values_at_once-zero.ensures.zero in
    let column = c.args.ready.now.plan.widths.columns in
    let old = c.args.shelves.now.zero.items in
    let new = c.values_at_once-zero.new.zero.items in
    enough_all held visited column old new v.same (visited_ok held visited (column ∷ []) old new _ _ c.in_ok-numbers.ensures.at0 v.visits)

pub reshare_noted-requires-clause-one_seen : goal.reshare_noted-requires-clause-one_seen
reshare_noted-requires-clause-one_seen g c =
    let held = g.S.Shelf.held in
    let visited = g.S.Shelf.visited in
    let v = c.values_at_once-zero.ensures.one in
    let column = c.args.ready.now.plan.widths.columns in
    let old = c.args.shelves.now.one.items in
    let new = c.values_at_once-zero.new.one.items in
    enough_all held visited column old new v.same (visited_ok held visited (column ∷ []) old new _ _ c.in_ok-numbers.ensures.at1 v.visits)

pub reshare_noted-requires-clause-two_seen : goal.reshare_noted-requires-clause-two_seen
reshare_noted-requires-clause-two_seen g c =
    let held = g.S.Shelf.held in
    let visited = g.S.Shelf.visited in
    let v = c.values_at_once-zero.ensures.two in
    let column = c.args.ready.now.plan.widths.columns in
    let old = c.args.shelves.now.two.items in
    let new = c.values_at_once-zero.new.two.items in
    enough_all held visited column old new v.same (visited_ok held visited (column ∷ []) old new _ _ c.in_ok-numbers.ensures.at2 v.visits)

pub returns-in_err-numbers-clause-trace : goal.returns-in_err-numbers-clause-trace
returns-in_err-numbers-clause-trace g c = by_stopped _ _ _ _ c.from_residual.ensures.0 (prefix_none _ _)

pub returns-in_err-held-clause-trace : goal.returns-in_err-held-clause-trace
returns-in_err-held-clause-trace g c =
    let held = g.S.Shelf.held in
    let visited = g.S.Shelf.visited in
    let z = c.args.ready.now.plan in
    let column = z.widths.columns in
    let v = c.values_at_once-zero.ensures in
    let w = c.in_ok-numbers.ensures in
    let old = c.args.shelves.now in
    let new = c.values_at_once-zero.new in
    let s0 = server_noted held visited z.widths z.rows column old.zero.items new.zero.items c.requires.zero v.zero.same
    (visited_ok held visited (column ∷ []) old.zero.items new.zero.items _ _ w.at0 v.zero.visits) in
    let s1 = server_noted held visited z.widths z.rows column old.one.items new.one.items c.requires.one v.one.same
    (visited_ok held visited (column ∷ []) old.one.items new.one.items _ _ w.at1 v.one.visits) in
    let s2 = server_noted held visited z.widths z.rows column old.two.items new.two.items c.requires.two v.two.same
    (visited_ok held visited (column ∷ []) old.two.items new.two.items _ _ w.at2 v.two.visits) in
    let after : Servers g.row.S.Denot = record { zero = new.zero; one = new.one; two = new.two } in
    let n = c.with_three_zeros-words.ensures.long.long0 ∙ IfOk-at_ok _ w.at0 v.zero.long in
    let same = bits_noted held visited z column _ after s0 s1 s2 n in
    by_stopped _ _ _ _ c.from_residual-in_err-held.ensures.0 (prefix_along _ _ _ _ same c.in_err-held.ensures.trace)

pub returns-clause-trace : goal.returns-clause-trace
returns-clause-trace g c =
    let held = g.S.Shelf.held in
    let visited = g.S.Shelf.visited in
    let z = c.args.ready.now.plan in
    let column = z.widths.columns in
    let v = c.values_at_once-zero.ensures in
    let w = c.in_ok-numbers.ensures in
    let old = c.args.shelves.now in
    let new = c.values_at_once-zero.new in
    let s0 = server_noted held visited z.widths z.rows column old.zero.items new.zero.items c.requires.zero v.zero.same
    (visited_ok held visited (column ∷ []) old.zero.items new.zero.items _ _ w.at0 v.zero.visits) in
    let s1 = server_noted held visited z.widths z.rows column old.one.items new.one.items c.requires.one v.one.same
    (visited_ok held visited (column ∷ []) old.one.items new.one.items _ _ w.at1 v.one.visits) in
    let s2 = server_noted held visited z.widths z.rows column old.two.items new.two.items c.requires.two v.two.same
    (visited_ok held visited (column ∷ []) old.two.items new.two.items _ _ w.at2 v.two.visits) in
    let after : Servers g.row.S.Denot = record { zero = new.zero; one = new.one; two = new.two } in
    let n = c.with_three_zeros-words.ensures.long.long0 ∙ IfOk-at_ok _ w.at0 v.zero.long in
    let same = bits_noted held visited z column _ after s0 s1 s2 n in
    grew_along _ _ _ _ same c.in_ok-held.ensures.trace
