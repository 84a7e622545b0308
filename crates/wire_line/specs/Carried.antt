-- What a wire did over several calls, and the messages of two lists.
use Rattle.std.proofs.Common.{◌≡◌, ℕ, zero, suc, ◌+◌, ◌-◌, ◌<◌, ◌≤◌, List, [], ◌∷◌, ◌++◌, length, get_or, Option, Some, None, refl, sym, ap}
use Rattle.std.proofs.Common.{◌∙◌, arith, append_assoc, append-nil}
use Rattle.std.specs.Option.{option_map}
use Rattle.std.proofs.lemmas.List.Elements.{All-append}
use Rattle.wire_line.specs.declared.message.Message.{Message}
use Rattle.wire_line.specs.declared.message.Peer.TheVariants.{Client}
use Rattle.wire_line.specs.Messages.{message_of, message_at, IsHonest, Went}
use Rattle.wire_line.specs.Sights.{Sight, HasAltered, BothPass}

-- a message of two lists
pub message_before : (ms ns : List Message) (i : ℕ) → i < length ms → message_at (ms ++ ns) i ≡ message_at ms i
message_before [] ns i h = absurd (omega arith)
message_before (m ∷ ms) ns zero h = refl
message_before (m ∷ ms) ns (suc i) h = message_before ms ns i (omega arith)

pub message_after : (ms ns : List Message) (i : ℕ) → message_at (ms ++ ns) (length ms + i) ≡ message_at ns i
message_after [] ns i = let e : 0 + i ≡ i = omega arith in rw e
message_after (m ∷ ms) ns i = let e : suc (length ms) + i ≡ suc (length ms + i) = omega arith in rw e (message_after ms ns i)

pub message_from : (ms ns : List Message) (i : ℕ) → length ms ≤ i → message_at (ms ++ ns) i ≡ message_at ns (i - length ms)
message_from ms ns i h =
    let e : i ≡ length ms + (i - length ms) = omega arith in
    ap (message_at (ms ++ ns)) e ∙ message_after ms ns (i - length ms)

pub honest_none : IsHonest []
honest_none = λ k d h. absurd (omega arith)

pub honest_one : (m : Message) → m.received ≡ m.sent → IsHonest (m ∷ [])
honest_one m e = first
  where
    first : (k : ℕ) (d : Message) → k < 1 → (get_or (m ∷ []) k d).received ≡ (get_or (m ∷ []) k d).sent
    first zero d h = e
    first (suc k) d h = absurd (omega arith)

pub honest_both : (ms ns : List Message) → IsHonest ms → IsHonest ns → IsHonest (ms ++ ns)
honest_both ms ns f g = All-append (λ (m : Message). m.received ≡ m.sent) ms ns f g

-- in an honest list each message was received as it was sent
pub honest_at : (ms : List Message) (i : ℕ) → IsHonest ms → i < length ms → (message_at ms i).received ≡ (message_at ms i).sent
honest_at ms i honest h = honest i (message_of Client Client [] []) h

-- a list is honest where each message was received as it was sent
pub honest_each : (ms : List Message) → ((i : ℕ) → i < length ms → (message_at ms i).received ≡ (message_at ms i).sent) → IsHonest ms
honest_each [] each = honest_none
honest_each (m ∷ ms) each =
    honest_both (m ∷ []) ms (honest_one m (each 0 (omega arith))) (honest_each ms (λ i h. each (suc i) (omega arith)))

reported_both : (ms ns : List Message) (t : Option (List Message))
    → option_map (λ (old : List Message). old ++ ns) (option_map (λ (old : List Message). old ++ ms) t)
    ≡ option_map (λ (old : List Message). old ++ (ms ++ ns)) t
reported_both ms ns None = refl
reported_both ms ns (Some old) = ap Some (append_assoc old ms ns)

reported_none : (t : Option (List Message)) → t ≡ option_map (λ (old : List Message). old ++ []) t
reported_none None = refl
reported_none (Some old) = ap Some (sym (append-nil old))

-- nothing was carried, and list and count stayed
pub went_none : {S : Type 0} (sight : Sight S) (s t : S)
    → sight.reported t ≡ sight.reported s → sight.alterations t ≡ sight.alterations s → sight.passes s [] t → Went sight s [] t
went_none sight s t list count p = record {
  listed = list ∙ reported_none (sight.reported s);
  grows = omega arith;
  honest = λ _. honest_none;
  passed = p;
}

-- these messages were carried, and then those
pub went_both : {S : Type 0} (sight : Sight S) → BothPass sight
    → (s t u : S) (ms ns : List Message) → Went sight s ms t → Went sight t ns u → Went sight s (ms ++ ns) u
went_both sight both s t u ms ns f g = record {
  listed = g.listed ∙ (ap (option_map (λ (old : List Message). old ++ ns)) f.listed ∙ reported_both ms ns (sight.reported s));
  grows = omega (arith, f.grows, g.grows);
  honest = λ still. honest_both ms ns
      (f.honest (λ (rose : HasAltered sight s t). still (omega (arith, f.grows, g.grows))))
      (g.honest (λ (rose : HasAltered sight t u). still (omega (arith, f.grows, g.grows))));
  passed = both s t u ms ns f.passed g.passed;
}
