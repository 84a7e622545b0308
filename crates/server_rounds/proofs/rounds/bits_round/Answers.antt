use Rattle.std.proofs.Common.{◌∙◌, sym, ap, [], ◌∷◌, length, refl, rules}
use Rattle.list_facts.proofs.Listed.{length-listed}
use Rattle.wire_line.specs.Carried.{went_none}
use Rattle.server_rounds.proofs.Messages.{group_none, regroup, three_same}
use Rattle.server_rounds.proofs.Visiting.{visited_stopped}
use Rattle.server_rounds.proofs.Stretched.{seen_begun}
use Rattle.transcript.specs.Setup.{column_of}
use Rattle.server_rounds.specs.declared.servers.Servers.{Servers}
use Rattle.visit_trace.specs.Growing.{by_stopped, prefix_none}
use Rattle.server_rounds.proofs.Noting.{bits_noted, enough_all, grew_along, prefix_along, server_noted}
use Rattle.server_rounds.proofs.rounds.bits_round.Goals as goal

pub returns-in_err-words-clause-messages : goal.returns-in_err-words-clause-messages
returns-in_err-words-clause-messages g c =
    ([], went_none g.W.Wire.sight _ _ refl refl (g.met.W.Wire.none_passes _), group_none _ _, search rules)

pub returns-in_err-words-clause-trace : goal.returns-in_err-words-clause-trace
returns-in_err-words-clause-trace g c = by_stopped _ _ _ _ c.from_residual.ensures.0 (prefix_none _ _)

pub returns-in_err-words-clause-visits : goal.returns-in_err-words-clause-visits
returns-in_err-words-clause-visits g c =
    let held = g.S.Shelf.held in
    let visited = g.S.Shelf.visited in
    let v = c.in_err-words.ensures in
    let e = c.from_residual.ensures.0 in
    let columns = column_of c.args.plan.now c.args.j ∷ [] in
    let old = c.args.shelves.now in
    let new = c.bits_at_once.new in
    record {
      zero = visited_stopped held visited columns old.zero.items new.zero.items _ e v.zero.visits;
      one = visited_stopped held visited columns old.one.items new.one.items _ e v.one.visits;
      two = visited_stopped held visited columns old.two.items new.two.items _ e v.two.visits;
    }

pub reshare_noted-requires-clause-one : goal.reshare_noted-requires-clause-one
reshare_noted-requires-clause-one g c =
    let w = c.in_ok-words.ensures in
    ap length w.one.written ∙ length-listed _ _ ∙ sym (ap length w.zero.written ∙ length-listed _ _)

pub reshare_noted-requires-clause-two : goal.reshare_noted-requires-clause-two
reshare_noted-requires-clause-two g c =
    let w = c.in_ok-words.ensures in
    ap length w.two.written ∙ length-listed _ _ ∙ sym (ap length w.zero.written ∙ length-listed _ _)

pub reshare_noted-requires-clause-zero_seen : goal.reshare_noted-requires-clause-zero_seen
reshare_noted-requires-clause-zero_seen g c =
    let v = c.in_ok-words.ensures.zero in
    enough_all g.S.Shelf.held g.S.Shelf.visited (column_of c.args.plan.now c.args.j) c.args.shelves.now.zero.items c.bits_at_once.new.zero.items v.same v.visits

pub reshare_noted-requires-clause-one_seen : goal.reshare_noted-requires-clause-one_seen
reshare_noted-requires-clause-one_seen g c =
    let v = c.in_ok-words.ensures.one in
    enough_all g.S.Shelf.held g.S.Shelf.visited (column_of c.args.plan.now c.args.j) c.args.shelves.now.one.items c.bits_at_once.new.one.items v.same v.visits

pub reshare_noted-requires-clause-two_seen : goal.reshare_noted-requires-clause-two_seen
reshare_noted-requires-clause-two_seen g c =
    let v = c.in_ok-words.ensures.two in
    enough_all g.S.Shelf.held g.S.Shelf.visited (column_of c.args.plan.now c.args.j) c.args.shelves.now.two.items c.bits_at_once.new.two.items v.same v.visits

pub returns-in_err-held-clause-messages : goal.returns-in_err-held-clause-messages
returns-in_err-held-clause-messages g c =
    let h = c.in_err-held.ensures.messages in
    let w = c.in_ok-words.ensures in
    (h.0, h.1, regroup _ _ _ h.0 h.2 (three_same _ _ w.zero.written w.one.written w.two.written), search rules)

pub returns-in_err-held-clause-visits : goal.returns-in_err-held-clause-visits
returns-in_err-held-clause-visits g c =
    let held = g.S.Shelf.held in
    let visited = g.S.Shelf.visited in
    let v = c.in_ok-words.ensures in
    let e = c.from_residual-in_err-held.ensures.0 in
    let columns = column_of c.args.plan.now c.args.j ∷ [] in
    let old = c.args.shelves.now in
    let new = c.bits_at_once.new in
    record {
      zero = visited_stopped held visited columns old.zero.items new.zero.items _ e (seen_begun held visited columns old.zero.items new.zero.items v.zero.visits);
      one = visited_stopped held visited columns old.one.items new.one.items _ e (seen_begun held visited columns old.one.items new.one.items v.one.visits);
      two = visited_stopped held visited columns old.two.items new.two.items _ e (seen_begun held visited columns old.two.items new.two.items v.two.visits);
    }

pub returns-in_err-held-clause-trace : goal.returns-in_err-held-clause-trace
returns-in_err-held-clause-trace g c =
    let held = g.S.Shelf.held in
    let visited = g.S.Shelf.visited in
    let z = c.args.plan.now in
    let column = column_of z c.args.j in
    let v = c.in_ok-words.ensures in
    let old = c.args.shelves.now in
    let new = c.bits_at_once.new in
    let s0 = server_noted held visited z.widths z.rows column old.zero.items new.zero.items c.requires.zero v.zero.same v.zero.visits in
    let s1 = server_noted held visited z.widths z.rows column old.one.items new.one.items c.requires.one v.one.same v.one.visits in
    let s2 = server_noted held visited z.widths z.rows column old.two.items new.two.items c.requires.two v.two.same v.two.visits in
    let n = ap length v.zero.written ∙ length-listed _ _ in
    let after : Servers g.row.S.Denot = record { zero = new.zero; one = new.one; two = new.two } in
    let same = bits_noted held visited z column _ after s0 s1 s2 n in
    by_stopped _ _ _ _ c.from_residual-in_err-held.ensures.0 (prefix_along _ _ _ _ same c.in_err-held.ensures.trace)

pub returns-clause-long : goal.returns-clause-long
returns-clause-long g c = rw (ap length c.in_ok-words.ensures.zero.written ∙ length-listed _ _) at c.in_ok-held.ensures.long

pub returns-clause-messages : goal.returns-clause-messages
returns-clause-messages g c =
    let h = c.in_ok-held.ensures.messages in
    let w = c.in_ok-words.ensures in
    (h.0, h.1, regroup _ _ _ h.0 h.2 (three_same _ _ w.zero.written w.one.written w.two.written), h.3)

pub returns-clause-visits : goal.returns-clause-visits
returns-clause-visits g c =
    let v = c.in_ok-words.ensures in
    record { zero = v.zero.visits; one = v.one.visits; two = v.two.visits }

pub returns-clause-trace : goal.returns-clause-trace
returns-clause-trace g c =
    let held = g.S.Shelf.held in
    let visited = g.S.Shelf.visited in
    let z = c.args.plan.now in
    let column = column_of z c.args.j in
    let v = c.in_ok-words.ensures in
    let old = c.args.shelves.now in
    let new = c.bits_at_once.new in
    let s0 = server_noted held visited z.widths z.rows column old.zero.items new.zero.items c.requires.zero v.zero.same v.zero.visits in
    let s1 = server_noted held visited z.widths z.rows column old.one.items new.one.items c.requires.one v.one.same v.one.visits in
    let s2 = server_noted held visited z.widths z.rows column old.two.items new.two.items c.requires.two v.two.same v.two.visits in
    let n = ap length v.zero.written ∙ length-listed _ _ in
    let after : Servers g.row.S.Denot = record { zero = new.zero; one = new.one; two = new.two } in
    let same = bits_noted held visited z column _ after s0 s1 s2 n in
    grew_along _ _ _ _ same c.in_ok-held.ensures.trace
