use Rattle.std.proofs.Common.{◌≡◌, ◌∙◌, ap, length, [], refl, rules, subst}
use Rattle.list_facts.proofs.Listed.{length-listed}
use Rattle.wire_line.specs.Carried.{went_none}
use Rattle.server_rounds.proofs.Messages.{group_none}
use Rattle.row_tree.specs.Cover.{cover_of}
use Rattle.row_tree.specs.Rounds.{IsTreePart, Sides}
use Rattle.row_tree.proofs.Nine.{keys_part, sides_same}
use Rattle.row_tree.proofs.Ranges.{visited_done}
use Rattle.row_tree.proofs.runs.tree_runs.Goals as goal

pub returns-in_err-sums-clause-messages : goal.returns-in_err-sums-clause-messages
returns-in_err-sums-clause-messages g c =
    ([], went_none g.W.Wire.sight _ _ refl refl (g.met.W.Wire.none_passes _), keys_part _ [] (group_none _ _), search rules)

pub exchange-requires-clause-zero_first : goal.exchange-requires-clause-zero_first
exchange-requires-clause-zero_first g c = ap length c.in_ok-sums.ensures.zero.first ∙ (length-listed _ _ ∙ c.requires.width)

pub exchange-requires-clause-zero_second : goal.exchange-requires-clause-zero_second
exchange-requires-clause-zero_second g c = ap length c.in_ok-sums.ensures.zero.second ∙ (length-listed _ _ ∙ c.requires.width)

pub exchange-requires-clause-one_first : goal.exchange-requires-clause-one_first
exchange-requires-clause-one_first g c = ap length c.in_ok-sums.ensures.one.first ∙ (length-listed _ _ ∙ (c.requires.one_width ∙ c.requires.width))

pub exchange-requires-clause-one_second : goal.exchange-requires-clause-one_second
exchange-requires-clause-one_second g c = ap length c.in_ok-sums.ensures.one.second ∙ (length-listed _ _ ∙ (c.requires.one_width ∙ c.requires.width))

pub exchange-requires-clause-two_first : goal.exchange-requires-clause-two_first
exchange-requires-clause-two_first g c = ap length c.in_ok-sums.ensures.two.first ∙ (length-listed _ _ ∙ (c.requires.two_width ∙ c.requires.width))

pub exchange-requires-clause-two_second : goal.exchange-requires-clause-two_second
exchange-requires-clause-two_second g c = ap length c.in_ok-sums.ensures.two.second ∙ (length-listed _ _ ∙ (c.requires.two_width ∙ c.requires.width))

pub returns-in_err-pair-clause-visits : goal.returns-in_err-pair-clause-visits
returns-in_err-pair-clause-visits g c =
    let nodes = cover_of c.args.low c.args.high in
    let e = c.from_residual-in_err-pair.ensures.0 in
    let v = c.in_ok-sums.ensures.visits in
    record {
      zero = visited_done nodes _ _ _ e v.zero;
      one = visited_done nodes _ _ _ e v.one;
      two = visited_done nodes _ _ _ e v.two;
    }

pub returns-clause-messages : goal.returns-clause-messages
returns-clause-messages g c =
    let s = c.in_ok-sums.sums in
    let t = c.args.trees.now in
    let sums = c.in_ok-sums.ensures in
    let same = sides_same c.args.keys.now s.zero s.one s.two t.zero t.one t.two c.args.low c.args.high sums.zero sums.one sums.two in
    let h = c.in_ok-pair.ensures in
    let part = subst (λ (x : Sides). IsTreePart x h.0) same h.2 in
    (h.0, h.1, part, (record { part = part; full = h.3.0 }, h.3.1, h.3.2))
