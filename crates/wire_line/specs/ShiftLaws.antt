-- Messages through a wire that shifts.
use Rattle.std.proofs.Common.{◌≡◌, ℕ, zero, suc, ◌+◌, ◌<◌, List, [], ◌∷◌, ◌++◌}
use Rattle.std.proofs.Common.{length, refl, sym, ap, ◌∙◌, arith, append_assoc, append-nil, length-append}
use Rattle.wire_line.specs.declared.message.Message.{Message}
use Rattle.wire_line.specs.declared.shifts.Shift.{Shift}
use Rattle.wire_line.specs.Messages.{message_at}
use Rattle.wire_line.specs.Shifts.{shifted, all_shifted, changes, Shifting, PassesShifted}
use Rattle.wire_line.specs.Carried.{went_none, went_both}
use Rattle.wire_line.specs.Sights.{Sight, NonePasses, BothPass}

pub length-all_shifted : (shifts : List Shift) (n : ℕ) (ms : List Message) → length (all_shifted shifts n ms) ≡ length ms
length-all_shifted shifts n [] = refl
length-all_shifted shifts n (m ∷ ms) = ap suc (length-all_shifted shifts (n + 1) ms)

pub all_shifted-append : (shifts : List Shift) (n : ℕ) (ms ns : List Message)
    → all_shifted shifts n (ms ++ ns) ≡ all_shifted shifts n ms ++ all_shifted shifts (n + length ms) ns
all_shifted-append shifts n [] ns = let e : n + 0 ≡ n = omega arith in rw e
all_shifted-append shifts n (m ∷ ms) ns =
    let e : n + suc (length ms) ≡ n + 1 + length ms = omega arith in
    rw (e, all_shifted-append shifts (n + 1) ms ns)

-- the message at a place after the shifts
pub message_at-all_shifted : (shifts : List Shift) (n i : ℕ) (ms : List Message) → i < length ms
    → message_at (all_shifted shifts n ms) i ≡ record (message_at ms i) { received = shifted shifts (n + i) (message_at ms i).received }
message_at-all_shifted shifts n i [] h = absurd (omega arith)
message_at-all_shifted shifts n zero (m ∷ ms) h = let e : n + 0 ≡ n = omega arith in rw e
message_at-all_shifted shifts n (suc i) (m ∷ ms) h =
    let e : n + suc i ≡ n + 1 + i = omega arith in
    rw e (message_at-all_shifted shifts (n + 1) i ms (omega arith))

changes-append : (ks ls ms ns : List Message) → length ks ≡ length ms → changes (ks ++ ls) (ms ++ ns) ≡ changes ks ms + changes ls ns
changes-append [] ls [] ns e = omega arith
changes-append [] ls (m ∷ ms) ns e = absurd (omega arith)
changes-append (k ∷ ks) ls [] ns e = absurd (omega arith)
changes-append (k ∷ ks) ls (m ∷ ms) ns e = rw (changes-append ks ls ms ns (omega arith)) (omega arith)

-- nothing was carried
pub still_shifted : {S : Type 0} (sight : Sight S) (inner now : S) (shifts : List Shift)
    (messages messages_now : List Message) (changed : ℕ)
    → sight.reported now ≡ sight.reported inner → sight.alterations now ≡ sight.alterations inner
    → sight.passes inner [] now → messages_now ≡ messages
    → PassesShifted sight (record { inner = inner; shifts = shifts; messages = messages; changed = changed }) []
    (record { inner = now; shifts = shifts; messages = messages_now; changed = changed })
still_shifted sight inner now shifts messages messages_now changed list count p e = record {
  below = [];
  went = went_none sight inner now list count p;
  these = refl;
  kept = refl;
  list = e ∙ sym (append-nil messages);
  count = omega arith;
}

pub none_shifted : {S : Type 0} (sight : Sight S) → NonePasses sight
    → (w : Shifting S) → PassesShifted sight w [] w
none_shifted sight none w = still_shifted sight w.inner w.inner w.shifts w.messages w.messages w.changed refl refl (none w.inner) refl

-- messages were carried in two calls
pub both_shifted : {S : Type 0} (sight : Sight S) → BothPass sight
    → (w v u : Shifting S) (ms ns : List Message) → PassesShifted sight w ms v → PassesShifted sight v ns u
    → PassesShifted sight w (ms ++ ns) u
both_shifted sight both w v u ms ns p q =
    let long : length ms ≡ length p.below = ap length p.these ∙ length-all_shifted w.shifts (length w.messages) p.below in
    let place : length v.messages ≡ length w.messages + length p.below = omega (arith, ap length p.list, length-append w.messages ms) in
    let counted = changes-append p.below q.below ms ns (sym long) in
    record {
      below = p.below ++ q.below;
      went = went_both sight both w.inner v.inner u.inner p.below q.below p.went q.went;
      these = rw (p.these, q.these, p.kept, place) (sym (all_shifted-append w.shifts (length w.messages) p.below q.below));
      kept = q.kept ∙ p.kept;
      list = q.list ∙ (ap (λ (l : List Message). l ++ ns) p.list ∙ append_assoc w.messages ms ns);
      count = omega (arith, p.count, q.count, counted);
    }
