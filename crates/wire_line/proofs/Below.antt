-- What went through the wire below one that shifts.
use Rattle.std.proofs.Common.{◌≡◌, ℕ, ◌+◌, List, [], ◌∷◌, length, Result, Ok, Err, OnOk, ap, ◌∙◌, arith}
use Rattle.ring128.specs.declared.memory.Memory.{Memory}
use Rattle.wire_line.specs.declared.lent.LentWire.{LentWire}
use Rattle.wire_line.specs.declared.message.Message.{Message}
use Rattle.wire_line.specs.declared.message.Peer.{Peer}
use Rattle.wire_line.specs.declared.shift.ShiftWire.{ShiftWire}
use Rattle.wire_line.specs.declared.shifts.Shift.{Shift}
use Rattle.wire_line.specs.Messages.{message_of, message_at, Went}
use Rattle.wire_line.specs.Shifts.{shifted, all_shifted}
use Rattle.wire_line.specs.ShiftLaws.{length-all_shifted}
use Rattle.wire_line.specs.Shown.{sight_lent, sight_over}
use Rattle.wire_line.specs.Sights.{Sight}

-- where one message came out of the shifts, one went in
one_below : (shifts : List Shift) (n : ℕ) (sender receiver : Peer) (sent got : List ℕ) (below : List Message)
    → message_of sender receiver sent got ∷ [] ≡ all_shifted shifts n below
    → (words : List ℕ) × (below ≡ message_of sender receiver sent words ∷ []) × (got ≡ shifted shifts n words)
one_below shifts n sender receiver sent got [] e = absurd (omega (arith, ap length e))
one_below shifts n sender receiver sent got (k ∷ []) e =
    let from : sender ≡ k.sender = ap (λ (ms : List Message). (message_at ms 0).sender) e in
    let to : receiver ≡ k.receiver = ap (λ (ms : List Message). (message_at ms 0).receiver) e in
    let words : sent ≡ k.sent = ap (λ (ms : List Message). (message_at ms 0).sent) e in
    (k.received, rw (from, to, words), ap (λ (ms : List Message). (message_at ms 0).received) e)
one_below shifts n sender receiver sent got (k ∷ l ∷ ks) e = absurd (omega (arith, ap length e, length-all_shifted shifts (n + 1) (l ∷ ks)))

-- messages over a wire that shifts over one that is lent: others went over the lent one, and these are those after the shifts
pub went_below : {S : Type 0} (sight : Sight S)
    (w v : ShiftWire (LentWire S)) (start last : S) (shifts : List Shift) (ms : List Message)
    → w.shifts ≡ shifts → w.messages.items ≡ [] → w.inner.inner.now ≡ start
    → (v.inner.inner.ghost_name ≡ w.inner.inner.ghost_name → last ≡ v.inner.inner.now)
    → Went (sight_over (sight_lent sight)) w ms v
    → (below : List Message) × Went sight start below last × (ms ≡ all_shifted shifts 0 below)
went_below sight w v start last shifts ms e f g h went =
    let p = went.passed in
    let known : last ≡ v.inner.inner.now = h (p.went.passed.0) in (
      p.below,
      rw (← g, known) (record { listed = p.went.listed; grows = p.went.grows; honest = p.went.honest; passed = p.went.passed.1 }),
      rw (← e) (p.these ∙ ap (λ (ns : List Message). all_shifted w.shifts (length ns) p.below) f),
    )

-- the same of one message, where it was carried
pub one_went_below : {S : Type 0} (sight : Sight S)
    (r : Result (Unit {0}) Memory) (w v : ShiftWire (LentWire S)) (start last : S) (shifts : List Shift) (sender receiver : Peer) (sent got : List ℕ)
    → w.shifts ≡ shifts → w.messages.items ≡ [] → w.inner.inner.now ≡ start
    → (v.inner.inner.ghost_name ≡ w.inner.inner.ghost_name → last ≡ v.inner.inner.now)
    → OnOk r (Went (sight_over (sight_lent sight)) w (message_of sender receiver sent got ∷ []) v)
    → OnOk r ((below : List ℕ) × Went sight start (message_of sender receiver sent below ∷ []) last × (got ≡ shifted shifts 0 below))
one_went_below sight (Ok u) w v start last shifts sender receiver sent got e f g h went =
    let p = went_below sight w v start last shifts (message_of sender receiver sent got ∷ []) e f g h went in
    let one = one_below shifts 0 sender receiver sent got p.0 p.2 in
    (one.0, rw (one.1) at p.1, one.2)
one_went_below sight (Err x) w v start last shifts sender receiver sent got e f g h went = tt
