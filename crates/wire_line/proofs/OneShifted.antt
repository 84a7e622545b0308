-- One message through a wire that shifts.
use Rattle.std.proofs.Common.{◌≡◌, ℕ, ◌+◌, ◌-◌, ◌^◌, ◌≤◌, Bool, true, false, if◌then◌else◌, nat_eq, List, [], ◌∷◌, ◌++◌, length, min, Some, Result, Ok, Err, OnErr, OnOk, refl, sym, ap, ◌∙◌, arith}
use Rattle.std.specs.Cmp.Lexicographic.{pointwise, same_text}
use Rattle.fault_count.specs.Causes.{Rose}
use Rattle.wire_line.specs.declared.message.Message.{Message}
use Rattle.wire_line.specs.declared.message.Peer.{Peer}
use Rattle.wire_line.specs.declared.shifts.Shift.{Shift}
use Rattle.wire_line.specs.Messages.{message_of, Went}
use Rattle.wire_line.specs.Shifts.{shifted, sight_shifted}
use Rattle.wire_line.specs.Carried.{honest_one, honest_at}
use Rattle.wire_line.specs.Sights.{Sight, HasAltered}

pub on_err : {T E : Type 0} (r : Result T E) (P : Type 0) → P → OnErr r P
on_err (Ok x) P p = tt
on_err (Err e) P p = p

pub on_ok : {T E : Type 0} (r : Result T E) (P : Type 0) → P → OnOk r P
on_ok (Ok x) P p = p
on_ok (Err e) P p = tt

-- `got` was received below, and `after` are the words after the shifts
pub one_shifted : {S : Type 0} (sight : Sight S)
    (inner now : S) (shifts : List Shift) (messages messages_now : List Message) (changed changed_now : ℕ) (sender receiver : Peer) (sent got after : List ℕ)
    → Went sight inner (message_of sender receiver sent got ∷ []) now
    → after ≡ shifted shifts (length messages) got
    → messages_now ≡ messages ++ message_of sender receiver sent after ∷ []
    → changed_now ≡ min (changed + (if pointwise nat_eq got after then 0 else 1)) (2 ^ 64 - 1)
    → Went (sight_shifted sight)
    (record { inner = inner; shifts = shifts; messages = messages; changed = changed }) (message_of sender receiver sent after ∷ [])
    (record { inner = now; shifts = shifts; messages = messages_now; changed = changed_now })
one_shifted {S = S} sight inner now shifts messages messages_now changed changed_now sender receiver sent got after went e list count = record {
  listed = ap Some list;
  grows = by_cases (pointwise nat_eq got after) count;
  honest = λ still. honest_one _ (received (pointwise nat_eq got after) refl count still);
  passed = record {
    below = message_of sender receiver sent got ∷ [];
    went = went;
    these = ap (λ (words : List ℕ). message_of sender receiver sent words ∷ []) e;
    kept = refl;
    list = list;
    count = omega arith;
  };
}
  where
    by_cases : (s : Bool) → changed_now ≡ min (changed + (if s then 0 else 1)) (2 ^ 64 - 1)
        → min (sight.alterations inner + changed) (2 ^ 64 - 1) ≤ min (sight.alterations now + changed_now) (2 ^ 64 - 1)
    by_cases true c = omega (arith, went.grows)
    by_cases false c = omega (arith, went.grows)

    received : (s : Bool) → s ≡ pointwise nat_eq got after → changed_now ≡ min (changed + (if s then 0 else 1)) (2 ^ 64 - 1)
        → ¬ Rose (min (sight.alterations inner + changed) (2 ^ 64 - 1)) (min (sight.alterations now + changed_now) (2 ^ 64 - 1)) → after ≡ sent
    received true same c still =
        sym (same_text got after same)
        ∙ honest_at (message_of sender receiver sent got ∷ []) 0 (went.honest (λ (rose : HasAltered sight inner now). still (omega arith))) (omega arith)
    received false same c still = absurd (still (omega (arith, went.grows)))
