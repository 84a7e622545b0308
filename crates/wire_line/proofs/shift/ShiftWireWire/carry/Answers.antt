use Rattle.std.proofs.Common.{◌≡◌, ℕ, ◌+◌, ◌-◌, ◌^◌, min, if◌then◌else◌, nat_eq, List, [], ◌∷◌, ◌++◌, length, refl, ap, ◌∙◌, rules}
use Rattle.std.specs.Cmp.Lexicographic.{pointwise}
use Rattle.wire_line.specs.Messages.{message_of}
use Rattle.wire_line.specs.Shifts.{shifted}
use Rattle.wire_line.specs.Shown.{shown}
use Rattle.wire_line.specs.ShiftLaws.{none_shifted, still_shifted}
use Rattle.wire_line.proofs.OneShifted.{on_err, one_shifted}
use Rattle.wire_line.proofs.shift.ShiftWireWire.carry.Goals as goal

pub returns-in_err-received-clause-passes_kept : goal.returns-in_err-received-clause-passes_kept
returns-in_err-received-clause-passes_kept g c =
    on_err _ _ (none_shifted g.W.Wire.sight g.met.W.Wire.none_passes (shown c.args.self.now))

pub returns-in_err-reserve-clause-passes_kept : goal.returns-in_err-reserve-clause-passes_kept
returns-in_err-reserve-clause-passes_kept g c =
    let p = still_shifted g.W.Wire.sight c.args.self.now.inner c.args.self.now.inner c.args.self.now.shifts
    c.args.self.now.messages.items c.reserve.new.self.items c.args.self.now.changed refl refl (g.met.W.Wire.none_passes c.args.self.now.inner) c.reserve.ensures.items in
    on_err _ _ p

pub returns-in_err-carry-clause-passes_kept : goal.returns-in_err-carry-clause-passes_kept
returns-in_err-carry-clause-passes_kept g c =
    let p = still_shifted g.W.Wire.sight c.args.self.now.inner c.carry.new.self c.args.self.now.shifts
    c.args.self.now.messages.items c.reserve.new.self.items c.args.self.now.changed
    c.in_err-carry.ensures.reported_kept c.in_err-carry.ensures.count_kept c.in_err-carry.ensures.passes_kept c.reserve.ensures.items in
    on_err _ _ p

pub returns-clause-carried : goal.returns-clause-carried
returns-clause-carried g c =
    let got = c.carry.new.words in
    let place : c.len.result ≡ length c.args.self.now.messages.items = search rules in
    let after : c.add_to.new.words ≡ shifted c.args.self.now.shifts (length c.args.self.now.messages.items) got =
    c.add_to.ensures ∙ ap (λ (n : ℕ). shifted c.args.self.now.shifts n got) place in
    let below : c.deref.result.now ≡ got = search rules in
    let list : c.push_reserved.new.self.items ≡ c.args.self.now.messages.items ++ message_of c.args.sender c.args.receiver c.args.words.now c.add_to.new.words ∷ [] = search rules in
    let count : c.count_change-self.result ≡ min (c.args.self.now.changed + (if pointwise nat_eq got c.add_to.new.words then 0 else 1)) (2 ^ 64 - 1) =
    c.count_change-self.ensures ∙ ap (λ (l : List ℕ). min (c.args.self.now.changed + (if pointwise nat_eq l c.add_to.new.words then 0 else 1)) (2 ^ 64 - 1)) below in
    let p = one_shifted g.W.Wire.sight c.args.self.now.inner c.carry.new.self c.args.self.now.shifts
    c.args.self.now.messages.items c.push_reserved.new.self.items c.args.self.now.changed c.count_change-self.result
    c.args.sender c.args.receiver c.args.words.now got c.add_to.new.words c.in_ok-carry.ensures.carried after list count in
    record { listed = p.listed; grows = p.grows; honest = p.honest; passed = p.passed }
