-- A list of messages that gains those of the next step.
use Rattle.std.proofs.Common.{◌≡◌, ℕ, zero, suc, ◌+◌, ◌*◌, ◌-◌, ◌%◌, ◌<◌, ◌≤◌, List, ◌++◌, length, refl, sym, ap, ⊎_elim, ◌∙◌, arith, length-append}
use Rattle.std.proofs.lemmas.Bool.{cases_lt}
use Rattle.wire_line.specs.declared.message.Peer.{Peer}
use Rattle.wire_line.specs.declared.message.Message.{Message}
use Rattle.wire_line.specs.Messages.{message_at}
use Rattle.wire_line.specs.Carried.{message_before, message_from}
use Rattle.transcript.specs.Setup.{Setup, count_of}
use Rattle.transcript.specs.Steps.{Step, bits, product, further, opening, IsStep, group_of, place_of, peer_of, receiver_of}
use Rattle.transcript.specs.Formulas.{words_of}
use Rattle.transcript.specs.Transcript.{Fits, IsPart, seat_of, opened_at}
use Rattle.transcript.proofs.Places.{group_within, place_within}
use Rattle.transcript.proofs.Seats.{words_same}
use Rattle.server_rounds.specs.Groups.{from_of, to_of, IsGroup}
use Rattle.server_rounds.specs.declared.way.Way.{Way}
use Rattle.server_rounds.specs.declared.way.Way.TheVariants.{ToServers, Around, ToClient}

-- two steps of one number are one step
same_step : (count more : ℕ) (a b : Step) → IsStep count more a → IsStep count more b → group_of count more a ≡ group_of count more b → a ≡ b
same_step count more (bits i) (bits j) h k e = let f : i ≡ j = omega arith in ap bits f
same_step count more (bits i) (product j) h k e = absurd (omega arith)
same_step count more (bits i) (further j) h k e = absurd (omega arith)
same_step count more (bits i) opening h k e = absurd (omega arith)
same_step count more (product i) (bits j) h k e = absurd (omega arith)
same_step count more (product i) (product j) h k e = let f : i ≡ j = omega arith in ap product f
same_step count more (product i) (further j) h k e = absurd (omega arith)
same_step count more (product i) opening h k e = absurd (omega arith)
same_step count more (further i) (bits j) h k e = absurd (omega arith)
same_step count more (further i) (product j) h k e = absurd (omega arith)
same_step count more (further i) (further j) h k e = let f : i ≡ j = omega arith in ap further f
same_step count more (further i) opening h k e = absurd (omega arith)
same_step count more opening (bits j) h k e = absurd (omega arith)
same_step count more opening (product j) h k e = absurd (omega arith)
same_step count more opening (further j) h k e = absurd (omega arith)
same_step count more opening opening h k e = refl

-- a message among the three of a step is one of that step
pub record IsSame (r r' g g' : ℕ) : Type 0 where
  pub run : r ≡ r'
  pub group : g ≡ g'

same_place : (count more run run' g g' k k' : ℕ) → run < 2 → run' < 2 → g < 2 * count + more → g' < 2 * count + more → k < 3 → k' < 3
    → 3 + 3 * (2 * count * run + more * run + g) + k ≡ 3 + 3 * (2 * count * run' + more * run' + g') + k' → IsSame run run' g g'
same_place count more zero zero g g' k k' r s h h' b c e = record { run = refl; group = omega arith }
same_place count more zero (suc zero) g g' k k' r s h h' b c e = absurd (omega arith)
same_place count more (suc zero) zero g g' k k' r s h h' b c e = absurd (omega arith)
same_place count more (suc zero) (suc zero) g g' k k' r s h h' b c e = record { run = refl; group = omega arith }
same_place count more (suc (suc r)) run' g g' k k' r2 s h h' b c e = absurd (omega arith)
same_place count more zero (suc (suc r)) g g' k k' r2 s h h' b c e = absurd (omega arith)
same_place count more (suc zero) (suc (suc r)) g g' k k' r2 s h h' b c e = absurd (omega arith)

-- the words of a step rest on earlier messages alone
pub words_stay : (s : Setup) (ms ns : List Message) (run : ℕ) (step : Step) (k : ℕ) → IsStep (count_of s.sizes) s.ending.further step → k < 3
    → place_of (count_of s.sizes) s.ending.further run step 0 ≤ length ms
    → words_of s.sizes s.ending run (seat_of s (ms ++ ns) run k) step ≡ words_of s.sizes s.ending run (seat_of s ms run k) step
words_stay s ms ns run step k h b early =
    let count = count_of s.sizes in
    let more = s.ending.further in
    let first : k < length ms = omega arith in
    let next : (k + 1) % 3 < 3 = omega arith in
    words_same s.sizes s.ending run (seat_of s (ms ++ ns) run k) (seat_of s ms run k) step h
    (record {
      view = ap (λ (m : Message). s.read m.received) (message_before ms ns k first);
      pieces = refl;
      first = λ t i before.
          let there : place_of count more run t k < length ms = omega arith in
          ap (λ (m : Message). m.sent) (message_before ms ns (place_of count more run t k) there);
      second = λ t i before.
          let there : place_of count more run t ((k + 1) % 3) < length ms = omega arith in
          ap (λ (m : Message). m.received) (message_before ms ns (place_of count more run t ((k + 1) % 3)) there);
    })

fits_along : (m n : Message) (p p' q q' : Peer) (x y : List ℕ) → m ≡ n → p ≡ p' → q ≡ q' → x ≡ y → Fits n p' q' y → Fits m p q x
fits_along m n p p' q q' x y e f g h fits = record {
  from = ap (λ (m : Message). m.sender) e ∙ fits.from ∙ sym f;
  to = ap (λ (m : Message). m.receiver) e ∙ fits.to ∙ sym g;
  words = ap (λ (m : Message). m.sent) e ∙ fits.words ∙ sym h;
  long = ap (λ (m : Message). length m.received) e ∙ fits.long ∙ sym (ap (λ (m : Message). length m.sent) e);
}

-- which way a step's messages go
abbrev pub way_of : Step → Way
way_of (bits j) = Around
way_of (product j) = Around
way_of (further e) = Around
way_of opening = ToClient

from_way : (step : Step) (k : ℕ) → peer_of k ≡ from_of (way_of step) k
from_way (bits j) k = refl
from_way (product j) k = refl
from_way (further e) k = refl
from_way opening k = refl

to_way : (step : Step) (k : ℕ) → receiver_of step k ≡ to_of (way_of step) k
to_way (bits j) k = refl
to_way (product j) k = refl
to_way (further e) k = refl
to_way opening k = refl

-- the messages of the next step, or the first of them
pub extend : (s : Setup) (ms ns : List Message) (run : ℕ) (step : Step) → run < 2 → IsStep (count_of s.sizes) s.ending.further step → IsPart s ms
    → length ms ≡ place_of (count_of s.sizes) s.ending.further run step 0 → (words : ℕ → List ℕ)
    → ((k : ℕ) → k < 3 → words k ≡ words_of s.sizes s.ending run (seat_of s ms run k) step) → IsGroup (way_of step) words ns
    → IsPart s (ms ++ ns)
extend s ms ns run step two is_step part here words by_formula group = record {
  few =
      let within = place_within (count_of s.sizes) s.ending.further run step 2 two is_step (omega arith) in
      omega (arith, group.few, length-append ms ns);
  keys = λ k b h.
      let early : k < length ms = omega arith in
      fits_along _ _ _ _ _ _ _ _ (message_before ms ns k early) refl refl refl (part.keys k b early);
  steps = λ run' step' k two' is_step' b h.
      ⊎_elim
      (λ (early : place_of (count_of s.sizes) s.ending.further run' step' k < length ms).
      let at = part.steps run' step' k two' is_step' b early in
      let before : place_of (count_of s.sizes) s.ending.further run' step' 0 ≤ length ms = omega arith in
      fits_along _ _ _ _ _ _ _ _ (message_before ms ns _ early) refl refl (words_stay s ms ns run' step' k is_step' b before) at)
      (λ (late : length ms ≤ place_of (count_of s.sizes) s.ending.further run' step' k).
      let count = count_of s.sizes in
      let more = s.ending.further in
      let d = place_of count more run' step' k - length ms in
      let within : d < length ns = omega (arith, length-append ms ns) in
      let few : d < 3 = omega (arith, group.few) in
      let same : IsSame run' run (group_of count more step') (group_of count more step) =
      same_place count more run' run (group_of count more step') (group_of count more step) k d two' two (group_within count more step' is_step') (group_within count more step is_step) b few (omega arith) in
      let one_step : step' ≡ step = same_step count more step' step is_step' is_step same.group in
      let number : place_of count more run' step' k ≡ place_of count more run step k = ap (λ (r : ℕ). place_of count more r step' k) same.run ∙ ap (λ (t : Step). place_of count more run t k) one_step in
      let is_d : d ≡ k = omega arith in
      let there : k < length ns = omega arith in
      fits_along _ _ _ _ _ _ _ _
      (message_from ms ns (place_of count more run' step' k) late ∙ ap (message_at ns) is_d)
      (from_way step k)
      (ap (λ (t : Step). receiver_of t k) one_step ∙ to_way step k)
      (ap (λ (r : ℕ). words_of s.sizes s.ending r (seat_of s (ms ++ ns) r k) step') same.run
      ∙ ap (λ (t : Step). words_of s.sizes s.ending run (seat_of s (ms ++ ns) run k) t) one_step
      ∙ words_stay s ms ns run step k is_step b (omega arith)
      ∙ sym (by_formula k b))
      (group.fits k there))
      (cases_lt (place_of (count_of s.sizes) s.ending.further run' step' k) (length ms));
}

-- the key messages
pub extend_keys : (s : Setup) (ns : List Message) (words : ℕ → List ℕ) → ((k : ℕ) → k < 3 → words k ≡ s.keys k) → IsGroup ToServers words ns → IsPart s ns
extend_keys s ns words same group = record {
  few = omega (arith, group.few);
  keys = λ k b h.
      let at = group.fits k h in record { from = at.from; to = at.to; words = at.words ∙ same k b; long = at.long };
  steps = λ run step k two is_step b h. absurd (omega (arith, group.few));
}

-- what a run opened stays when further messages follow
pub opened_stays : (s : Setup) (ms ns : List Message) (run i : ℕ)
    → 3 + 6 * count_of s.sizes * run + 3 * s.ending.further * run + 6 * count_of s.sizes + 3 * s.ending.further ≤ length ms → 0 < count_of s.sizes
    → opened_at s (ms ++ ns) run i ≡ opened_at s ms run i
opened_stays s ms ns run i long some =
    let count = count_of s.sizes in
    let more = s.ending.further in
    let within : (k : ℕ) → k < 3 → place_of count more run opening k < length ms = λ k h. omega arith in
    rw (
      message_before ms ns (place_of count more run opening 0) (within 0 (omega arith)),
      message_before ms ns (place_of count more run opening 1) (within 1 (omega arith)),
      message_before ms ns (place_of count more run opening 2) (within 2 (omega arith)),
    )
