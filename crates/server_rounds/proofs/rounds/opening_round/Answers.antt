use Rattle.std.proofs.Common.{[], refl, rules}
use Rattle.std.proofs.lemmas.Result.{IfOk-at_ok}
use Rattle.wire_line.specs.Carried.{went_none}
use Rattle.server_rounds.proofs.Messages.{group_none, regroup, three_same}
use Rattle.server_rounds.proofs.Visiting.{all_made, all_stopped, visited_ok}
use Rattle.visit_trace.specs.Sizes.{opened_columns}
use Rattle.server_rounds.specs.declared.servers.Servers.{Servers}
use Rattle.visit_trace.specs.Growing.{by_stopped, prefix_none}
use Rattle.server_rounds.proofs.Noting.{enough_summed, grew_along, opening_noted, prefix_along}
use Rattle.server_rounds.proofs.rounds.opening_round.Goals as goal

pub returns-in_err-words-clause-messages : goal.returns-in_err-words-clause-messages
returns-in_err-words-clause-messages g c =
    ([], went_none g.W.Wire.sight _ _ refl refl (g.met.W.Wire.none_passes _), group_none _ _, search rules)

pub opened-requires-clause-zero : goal.opened-requires-clause-zero
opened-requires-clause-zero g c = IfOk-at_ok _ c.in_ok-words.ensures.at0 c.openings_at_once-zero.ensures.zero.long

pub opened-requires-clause-one : goal.opened-requires-clause-one
opened-requires-clause-one g c = IfOk-at_ok _ c.in_ok-words.ensures.at1 c.openings_at_once-zero.ensures.one.long

pub opened-requires-clause-two : goal.opened-requires-clause-two
opened-requires-clause-two g c = IfOk-at_ok _ c.in_ok-words.ensures.at2 c.openings_at_once-zero.ensures.two.long

pub returns-in_err-total-clause-messages : goal.returns-in_err-total-clause-messages
returns-in_err-total-clause-messages g c =
    let h = c.in_err-total.ensures.messages in
    let e0 = IfOk-at_ok _ c.in_ok-words.ensures.at0 c.openings_at_once-zero.ensures.zero.words in
    let e1 = IfOk-at_ok _ c.in_ok-words.ensures.at1 c.openings_at_once-zero.ensures.one.words in
    let e2 = IfOk-at_ok _ c.in_ok-words.ensures.at2 c.openings_at_once-zero.ensures.two.words in
    (h.0, h.1, regroup _ _ _ h.0 h.2 (three_same _ _ e0 e1 e2), search rules)

pub returns-clause-messages : goal.returns-clause-messages
returns-clause-messages g c =
    let h = c.in_ok-total.ensures.messages in
    let e0 = IfOk-at_ok _ c.in_ok-words.ensures.at0 c.openings_at_once-zero.ensures.zero.words in
    let e1 = IfOk-at_ok _ c.in_ok-words.ensures.at1 c.openings_at_once-zero.ensures.one.words in
    let e2 = IfOk-at_ok _ c.in_ok-words.ensures.at2 c.openings_at_once-zero.ensures.two.words in
    (h.0, h.1, regroup _ _ _ h.0 h.2 (three_same _ _ e0 e1 e2), h.3)

pub returns-in_err-words-clause-visits : goal.returns-in_err-words-clause-visits
returns-in_err-words-clause-visits g c =
    let v = c.openings_at_once-zero.ensures in
    all_stopped g.S.Shelf.held g.S.Shelf.visited _ _ _ _ _ _ _ c.from_residual.ensures.0 v.zero.visits v.one.visits v.two.visits

pub returns-in_err-total-clause-visits : goal.returns-in_err-total-clause-visits
returns-in_err-total-clause-visits g c =
    let v = c.openings_at_once-zero.ensures in
    all_stopped g.S.Shelf.held g.S.Shelf.visited _ _ _ _ _ _ _ c.from_residual-in_err-total.ensures.0 v.zero.visits v.one.visits v.two.visits

pub returns-clause-visits : goal.returns-clause-visits
returns-clause-visits g c =
    let v = c.openings_at_once-zero.ensures in
    let w = c.in_ok-words.ensures in
    all_made g.S.Shelf.held g.S.Shelf.visited _ _ _ _ _ _ _ _ _ _ w.at0 w.at1 w.at2 v.zero.visits v.one.visits v.two.visits

pub returns-in_err-words-clause-trace : goal.returns-in_err-words-clause-trace
returns-in_err-words-clause-trace g c = by_stopped _ _ _ _ c.from_residual.ensures.0 (prefix_none _ _)

pub opened-requires-clause-zero_seen : goal.opened-requires-clause-zero_seen
opened-requires-clause-zero_seen g c =
    let held = g.S.Shelf.held in
    let visited = g.S.Shelf.visited in
    let z = c.args.plan.now in
    let v = c.openings_at_once-zero.ensures.zero in
    let columns = opened_columns z.shape.aggregate z.widths.columns in
    let old = c.args.shelves.now.zero.items in
    let new = c.openings_at_once-zero.new.zero.items in
    enough_summed held visited z.shape.aggregate z.widths.columns old new v.same (visited_ok held visited columns old new _ _ c.in_ok-words.ensures.at0 v.visits)

pub opened-requires-clause-one_seen : goal.opened-requires-clause-one_seen
opened-requires-clause-one_seen g c =
    let held = g.S.Shelf.held in
    let visited = g.S.Shelf.visited in
    let z = c.args.plan.now in
    let v = c.openings_at_once-zero.ensures.one in
    let columns = opened_columns z.shape.aggregate z.widths.columns in
    let old = c.args.shelves.now.one.items in
    let new = c.openings_at_once-zero.new.one.items in
    enough_summed held visited z.shape.aggregate z.widths.columns old new v.same (visited_ok held visited columns old new _ _ c.in_ok-words.ensures.at1 v.visits)

pub opened-requires-clause-two_seen : goal.opened-requires-clause-two_seen
opened-requires-clause-two_seen g c =
    let held = g.S.Shelf.held in
    let visited = g.S.Shelf.visited in
    let z = c.args.plan.now in
    let v = c.openings_at_once-zero.ensures.two in
    let columns = opened_columns z.shape.aggregate z.widths.columns in
    let old = c.args.shelves.now.two.items in
    let new = c.openings_at_once-zero.new.two.items in
    enough_summed held visited z.shape.aggregate z.widths.columns old new v.same (visited_ok held visited columns old new _ _ c.in_ok-words.ensures.at2 v.visits)

pub returns-in_err-total-clause-trace : goal.returns-in_err-total-clause-trace
returns-in_err-total-clause-trace g c =
    let held = g.S.Shelf.held in
    let visited = g.S.Shelf.visited in
    let z = c.args.plan.now in
    let v = c.openings_at_once-zero.ensures in
    let w = c.in_ok-words.ensures in
    let columns = opened_columns z.shape.aggregate z.widths.columns in
    let after : Servers g.row.S.Denot = record { zero = c.openings_at_once-zero.new.zero; one = c.openings_at_once-zero.new.one; two = c.openings_at_once-zero.new.two } in
    let same = opening_noted held visited z c.args.shelves.now after
    (record { shelves = c.requires.zero; same = v.zero.same; seen = visited_ok held visited columns c.args.shelves.now.zero.items c.openings_at_once-zero.new.zero.items _ _ w.at0 v.zero.visits })
    (record { shelves = c.requires.one; same = v.one.same; seen = visited_ok held visited columns c.args.shelves.now.one.items c.openings_at_once-zero.new.one.items _ _ w.at1 v.one.visits })
    (record { shelves = c.requires.two; same = v.two.same; seen = visited_ok held visited columns c.args.shelves.now.two.items c.openings_at_once-zero.new.two.items _ _ w.at2 v.two.visits }) in
    by_stopped _ _ _ _ c.from_residual-in_err-total.ensures.0 (prefix_along _ _ _ _ same c.in_err-total.ensures.trace)

pub returns-clause-trace : goal.returns-clause-trace
returns-clause-trace g c =
    let held = g.S.Shelf.held in
    let visited = g.S.Shelf.visited in
    let z = c.args.plan.now in
    let v = c.openings_at_once-zero.ensures in
    let w = c.in_ok-words.ensures in
    let columns = opened_columns z.shape.aggregate z.widths.columns in
    let after : Servers g.row.S.Denot = record { zero = c.openings_at_once-zero.new.zero; one = c.openings_at_once-zero.new.one; two = c.openings_at_once-zero.new.two } in
    let same = opening_noted held visited z c.args.shelves.now after
    (record { shelves = c.requires.zero; same = v.zero.same; seen = visited_ok held visited columns c.args.shelves.now.zero.items c.openings_at_once-zero.new.zero.items _ _ w.at0 v.zero.visits })
    (record { shelves = c.requires.one; same = v.one.same; seen = visited_ok held visited columns c.args.shelves.now.one.items c.openings_at_once-zero.new.one.items _ _ w.at1 v.one.visits })
    (record { shelves = c.requires.two; same = v.two.same; seen = visited_ok held visited columns c.args.shelves.now.two.items c.openings_at_once-zero.new.two.items _ _ w.at2 v.two.visits }) in
    grew_along _ _ _ _ same c.in_ok-total.ensures.trace
