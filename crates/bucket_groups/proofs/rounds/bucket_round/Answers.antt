use Rattle.std.proofs.Common.{[], ◌∷◌, refl, sym, ◌∙◌, rules}
use Rattle.std.proofs.lemmas.Result.{IfOk-at_ok}
use Rattle.wire_line.specs.Carried.{went_none}
use Rattle.visit_trace.specs.Growing.{by_stopped, grew_both, prefix_begun, prefix_cut, prefix_none}
use Rattle.server_rounds.proofs.Messages.{group_none, regroup, three_same}
use Rattle.server_rounds.proofs.Visiting.{all_made, all_stopped, visited_ok}
use Rattle.server_rounds.proofs.Noting.{enough_all, grew_along, prefix_along, server_noted}
use Rattle.bucket_groups.proofs.Visiting.{buckets_noted}
use Rattle.bucket_groups.proofs.rounds.bucket_round.Goals as goal

pub returns-in_err-words-clause-messages : goal.returns-in_err-words-clause-messages
returns-in_err-words-clause-messages g c =
    ([], went_none g.W.Wire.sight _ _ refl refl (g.met.W.Wire.none_passes _), group_none _ _, search rules)

pub returns-in_err-note_last-clause-messages : goal.returns-in_err-note_last-clause-messages
returns-in_err-note_last-clause-messages g c =
    ([], went_none g.W.Wire.sight _ _ refl refl (g.met.W.Wire.none_passes _), group_none _ _, search rules)

pub returns-in_err-totals-clause-messages : goal.returns-in_err-totals-clause-messages
returns-in_err-totals-clause-messages g c =
    let h = c.in_err-totals.ensures.messages in
    let w = c.in_ok-words.ensures in
    let v = c.buckets_at_once-zero.ensures in
    (h.0, h.1, regroup _ _ _ h.0 h.2 (three_same _ _ (IfOk-at_ok _ w.at0 v.zero.words) (IfOk-at_ok _ w.at1 v.one.words) (IfOk-at_ok _ w.at2 v.two.words)), search rules)

pub returns-clause-messages : goal.returns-clause-messages
returns-clause-messages g c =
    let h = c.in_ok-totals.ensures.messages in
    let w = c.in_ok-words.ensures in
    let v = c.buckets_at_once-zero.ensures in
    (h.0, h.1, regroup _ _ _ h.0 h.2 (three_same _ _ (IfOk-at_ok _ w.at0 v.zero.words) (IfOk-at_ok _ w.at1 v.one.words) (IfOk-at_ok _ w.at2 v.two.words)), h.3)

pub returns-in_err-words-clause-visits : goal.returns-in_err-words-clause-visits
returns-in_err-words-clause-visits g c =
    let v = c.buckets_at_once-zero.ensures in
    all_stopped g.S.Shelf.held g.S.Shelf.visited _ _ _ _ _ _ _ c.from_residual.ensures.0 v.zero.visits v.one.visits v.two.visits

pub returns-in_err-note_last-clause-visits : goal.returns-in_err-note_last-clause-visits
returns-in_err-note_last-clause-visits g c =
    let v = c.buckets_at_once-zero.ensures in
    all_stopped g.S.Shelf.held g.S.Shelf.visited _ _ _ _ _ _ _ c.from_residual-in_err-note_last.ensures.0 v.zero.visits v.one.visits v.two.visits

pub returns-in_err-totals-clause-visits : goal.returns-in_err-totals-clause-visits
returns-in_err-totals-clause-visits g c =
    let v = c.buckets_at_once-zero.ensures in
    all_stopped g.S.Shelf.held g.S.Shelf.visited _ _ _ _ _ _ _ c.from_residual-in_err-totals.ensures.0 v.zero.visits v.one.visits v.two.visits

pub returns-clause-visits : goal.returns-clause-visits
returns-clause-visits g c =
    let v = c.buckets_at_once-zero.ensures in
    let w = c.in_ok-words.ensures in
    all_made g.S.Shelf.held g.S.Shelf.visited _ _ _ _ _ _ _ _ _ _ w.at0 w.at1 w.at2 v.zero.visits v.one.visits v.two.visits

pub opened-requires-clause-one : goal.opened-requires-clause-one
opened-requires-clause-one g c =
    let w = c.in_ok-words.ensures in
    let v = c.buckets_at_once-zero.ensures in
    IfOk-at_ok _ w.at1 v.one.long ∙ sym (IfOk-at_ok _ w.at0 v.zero.long)

pub opened-requires-clause-two : goal.opened-requires-clause-two
opened-requires-clause-two g c =
    let w = c.in_ok-words.ensures in
    let v = c.buckets_at_once-zero.ensures in
    IfOk-at_ok _ w.at2 v.two.long ∙ sym (IfOk-at_ok _ w.at0 v.zero.long)

pub note_last-requires-clause-zero : goal.note_last-requires-clause-zero
note_last-requires-clause-zero g c =
    let held = g.S.Shelf.held in
    let visited = g.S.Shelf.visited in
    let v = c.buckets_at_once-zero.ensures.zero in
    let old = c.args.shelves.now.zero.items in
    let new = c.buckets_at_once-zero.new.zero.items in
    enough_all held visited c.args.column old new v.same (visited_ok held visited (c.args.column ∷ []) old new _ _ c.in_ok-words.ensures.at0 v.visits)

pub note_last-requires-clause-one : goal.note_last-requires-clause-one
note_last-requires-clause-one g c =
    let held = g.S.Shelf.held in
    let visited = g.S.Shelf.visited in
    let v = c.buckets_at_once-zero.ensures.one in
    let old = c.args.shelves.now.one.items in
    let new = c.buckets_at_once-zero.new.one.items in
    enough_all held visited c.args.column old new v.same (visited_ok held visited (c.args.column ∷ []) old new _ _ c.in_ok-words.ensures.at1 v.visits)

pub note_last-requires-clause-two : goal.note_last-requires-clause-two
note_last-requires-clause-two g c =
    let held = g.S.Shelf.held in
    let visited = g.S.Shelf.visited in
    let v = c.buckets_at_once-zero.ensures.two in
    let old = c.args.shelves.now.two.items in
    let new = c.buckets_at_once-zero.new.two.items in
    enough_all held visited c.args.column old new v.same (visited_ok held visited (c.args.column ∷ []) old new _ _ c.in_ok-words.ensures.at2 v.visits)

pub returns-in_err-words-clause-trace : goal.returns-in_err-words-clause-trace
returns-in_err-words-clause-trace g c = by_stopped _ _ _ _ c.from_residual.ensures.0 (prefix_none _ _)

pub returns-in_err-note_last-clause-trace : goal.returns-in_err-note_last-clause-trace
returns-in_err-note_last-clause-trace g c =
    let held = g.S.Shelf.held in
    let visited = g.S.Shelf.visited in
    let z = c.args.ready.now.plan in
    let column = c.args.column in
    let v = c.buckets_at_once-zero.ensures in
    let w = c.in_ok-words.ensures in
    let old = c.args.shelves.now in
    let new = c.buckets_at_once-zero.new in
    let s0 = server_noted held visited z.widths z.rows column old.zero.items new.zero.items c.requires.zero v.zero.same
    (visited_ok held visited (column ∷ []) old.zero.items new.zero.items _ _ w.at0 v.zero.visits) in
    let s1 = server_noted held visited z.widths z.rows column old.one.items new.one.items c.requires.one v.one.same
    (visited_ok held visited (column ∷ []) old.one.items new.one.items _ _ w.at1 v.one.visits) in
    let s2 = server_noted held visited z.widths z.rows column old.two.items new.two.items c.requires.two v.two.same
    (visited_ok held visited (column ∷ []) old.two.items new.two.items _ _ w.at2 v.two.visits) in
    let same = buckets_noted held visited z column _ _ _ _ s0 s1 s2 (IfOk-at_ok _ w.at0 v.zero.long) in
    by_stopped _ _ _ _ c.from_residual-in_err-note_last.ensures.0 (prefix_along _ _ _ _ same (prefix_cut _ _ _ _ c.in_err-note_last.ensures))

pub returns-in_err-totals-clause-trace : goal.returns-in_err-totals-clause-trace
returns-in_err-totals-clause-trace g c =
    let held = g.S.Shelf.held in
    let visited = g.S.Shelf.visited in
    let z = c.args.ready.now.plan in
    let column = c.args.column in
    let v = c.buckets_at_once-zero.ensures in
    let w = c.in_ok-words.ensures in
    let old = c.args.shelves.now in
    let new = c.buckets_at_once-zero.new in
    let s0 = server_noted held visited z.widths z.rows column old.zero.items new.zero.items c.requires.zero v.zero.same
    (visited_ok held visited (column ∷ []) old.zero.items new.zero.items _ _ w.at0 v.zero.visits) in
    let s1 = server_noted held visited z.widths z.rows column old.one.items new.one.items c.requires.one v.one.same
    (visited_ok held visited (column ∷ []) old.one.items new.one.items _ _ w.at1 v.one.visits) in
    let s2 = server_noted held visited z.widths z.rows column old.two.items new.two.items c.requires.two v.two.same
    (visited_ok held visited (column ∷ []) old.two.items new.two.items _ _ w.at2 v.two.visits) in
    let same = buckets_noted held visited z column _ _ _ _ s0 s1 s2 (IfOk-at_ok _ w.at0 v.zero.long) in
    by_stopped _ _ _ _ c.from_residual-in_err-totals.ensures.0 (prefix_along _ _ _ _ same (prefix_begun _ _ _ _ _ c.in_ok-note_last.ensures c.in_err-totals.ensures.trace))

pub returns-clause-trace : goal.returns-clause-trace
returns-clause-trace g c =
    let held = g.S.Shelf.held in
    let visited = g.S.Shelf.visited in
    let z = c.args.ready.now.plan in
    let column = c.args.column in
    let v = c.buckets_at_once-zero.ensures in
    let w = c.in_ok-words.ensures in
    let old = c.args.shelves.now in
    let new = c.buckets_at_once-zero.new in
    let s0 = server_noted held visited z.widths z.rows column old.zero.items new.zero.items c.requires.zero v.zero.same
    (visited_ok held visited (column ∷ []) old.zero.items new.zero.items _ _ w.at0 v.zero.visits) in
    let s1 = server_noted held visited z.widths z.rows column old.one.items new.one.items c.requires.one v.one.same
    (visited_ok held visited (column ∷ []) old.one.items new.one.items _ _ w.at1 v.one.visits) in
    let s2 = server_noted held visited z.widths z.rows column old.two.items new.two.items c.requires.two v.two.same
    (visited_ok held visited (column ∷ []) old.two.items new.two.items _ _ w.at2 v.two.visits) in
    let same = buckets_noted held visited z column _ _ _ _ s0 s1 s2 (IfOk-at_ok _ w.at0 v.zero.long) in
    grew_along _ _ _ _ same (grew_both _ _ _ _ _ c.in_ok-note_last.ensures c.in_ok-totals.ensures.trace)
