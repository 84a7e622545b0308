-- What a server sees of the messages of a query: their lengths follow from the sizes.
use Rattle.std.proofs.Common.{◌≡◌, ◌≢◌, ◌∙◌, refl, sym, ap, ℕ, zero, suc, ◌+◌, ◌-◌, ◌*◌, ◌/◌, ◌%◌, ◌<◌, ◌≤◌, Bool, true, false, nat_lt, List, [], ◌∷◌, ◌++◌, length, map, get_or, append_assoc, append-nil, eq-eqb, inl, inr, ◌⊎◌, arith}
use Rattle.std.specs.Prelude.{◌==◌, if◌then◌else◌}
use Rattle.std.specs.List.{flat_map}
use Rattle.std.proofs.lemmas.Bool.Decides.{nat_tests}
use Rattle.std.proofs.lemmas.Bool.{cases_Bool, eqb-true, eqb-false, ne_eqb}
use Rattle.std.proofs.lemmas.List.{get_or-map, length-map}
use Rattle.std.proofs.lemmas.List.Folds.{flat_map-map}
use Rattle.std.proofs.lemmas.Grind.{flat_map-append}
use Rattle.list_facts.specs.Listed.{listed}
use Rattle.list_facts.proofs.Listed.{length-listed, listed-append, listed_is, listed_more}
use Rattle.query_plan.specs.KeyMessages.{message_length}
use Rattle.visit_trace.specs.Seen.{length_at, lengths_at, seen_by}
use Rattle.visit_trace.specs.Expected.{query_lengths, run_lengths, trace_of}
use Rattle.wire_line.specs.declared.message.Message.{Message}
use Rattle.wire_line.specs.declared.message.Peer.{Peer}
use Rattle.wire_line.specs.declared.message.Peer.TheVariants.{Client}
use Rattle.wire_line.specs.Messages.{message_at, message_of}
use Rattle.transcript.specs.Setup.{Ending, Setup, Sizes, count_of}
use Rattle.transcript.specs.Steps.{Step, bits, product, further, opening, IsStep, before, chain_step, group_of, peer_of, place_of, receiver_of}
use Rattle.transcript.specs.Formulas.{words_of, total_ending}
use Rattle.transcript.specs.Transcript.{IsPart, seat_of}
use Rattle.transcript.specs.Laws.{KeysAreLong, LengthsAreTrace, LengthsBeginTrace, step_length}
use Rattle.transcript.proofs.Places.{group-chain}

-- the lengths that f gives at 0, 1, .., one after another
abbrev joined : ℕ → (ℕ → List ℕ) → List ℕ
joined zero f = []
joined (suc n) f = joined n f ++ f n

joined-listed : (n : ℕ) (f : ℕ → List ℕ) → flat_map (λ (l : List ℕ). l) (listed n f) ≡ joined n f
joined-listed zero f = refl
joined-listed (suc n) f =
    let more : n + 1 ≡ suc n = omega arith in
    ap (λ (m : ℕ). flat_map (λ (l : List ℕ). l) (listed m f)) (sym more)
    ∙ ap (flat_map (λ (l : List ℕ). l)) (sym (listed_more n f))
    ∙ flat_map-append (λ (l : List ℕ). l) (listed n f) (f n ∷ [])
    ∙ ap (λ (l : List ℕ). flat_map (λ (l : List ℕ). l) (listed n f) ++ l) (append-nil (f n))
    ∙ ap (λ (l : List ℕ). l ++ f n) (joined-listed n f)

joined-add : (m n : ℕ) (f : ℕ → List ℕ) → joined (m + n) f ≡ joined m f ++ joined n (λ i. f (m + i))
joined-add m zero f = let none : m + 0 ≡ m = omega arith in ap (λ (k : ℕ). joined k f) none ∙ sym (append-nil (joined m f))
joined-add m (suc n) f =
    let more : m + suc n ≡ suc (m + n) = omega arith in
    ap (λ (k : ℕ). joined k f) more ∙ ap (λ (l : List ℕ). l ++ f (m + n)) (joined-add m n f) ∙ append_assoc (joined m f) (joined n (λ i. f (m + i))) (f (m + n))

joined-same : (n : ℕ) (f g : ℕ → List ℕ) → ((i : ℕ) → i < n → f i ≡ g i) → joined n f ≡ joined n g
joined-same zero f g at = refl
joined-same (suc n) f g at = ap (λ (l : List ℕ). l ++ f n) (joined-same n f g (λ i h. at i (omega arith))) ∙ ap (λ (l : List ℕ). joined n g ++ l) (at n (omega arith))

-- three of them at a time
abbrev third : (ℕ → List ℕ) → ℕ → List ℕ
third f q = (f (3 * q) ++ f (3 * q + 1)) ++ f (3 * q + 2)

joined-thirds : (n : ℕ) (f : ℕ → List ℕ) → joined (3 * n) f ≡ joined n (third f)
joined-thirds zero f = refl
joined-thirds (suc n) f =
    let more : 3 * suc n ≡ suc (suc (suc (3 * n))) = omega arith in
    let one : suc (3 * n) ≡ 3 * n + 1 = omega arith in
    let two : suc (suc (3 * n)) ≡ 3 * n + 2 = omega arith in
    ap (λ (k : ℕ). joined k f) more
    ∙ ap (λ (l : List ℕ). ((joined (3 * n) f ++ f (3 * n)) ++ l) ++ f (suc (suc (3 * n)))) (ap f one)
    ∙ ap (λ (l : List ℕ). ((joined (3 * n) f ++ f (3 * n)) ++ f (3 * n + 1)) ++ l) (ap f two)
    ∙ ap (λ (l : List ℕ). l ++ f (3 * n + 2)) (append_assoc (joined (3 * n) f) (f (3 * n)) (f (3 * n + 1)))
    ∙ append_assoc (joined (3 * n) f) (f (3 * n) ++ f (3 * n + 1)) (f (3 * n + 2))
    ∙ ap (λ (l : List ℕ). l ++ third f n) (joined-thirds n f)

joined-pairs : (m n : ℕ) → joined m (λ i. n ∷ n ∷ []) ≡ listed (2 * m) (λ i. n)
joined-pairs zero n = refl
joined-pairs (suc m) n =
    let more : 2 * m + 2 ≡ 2 * suc m = omega arith in
    ap (λ (l : List ℕ). l ++ n ∷ n ∷ []) (joined-pairs m n) ∙ sym (listed-append (2 * m) 2 (λ i. n)) ∙ ap (λ (k : ℕ). listed k (λ (i : ℕ). n)) more

-- what server k sees of message j of a group of a run: of an opening, or of another group
abbrev group_at : Sizes → ℕ → ℕ → ℕ → List ℕ
group_at z k g j = if g == 2 * count_of z - 1 then length_at k (peer_of j) Client 1 else length_at k (peer_of j) (peer_of (before j)) z.rows

-- the number of a group in its run
abbrev in_run : ℕ → ℕ → ℕ
in_run count q = if nat_lt q (2 * count) then q else q - 2 * count

-- of the message at a place behind the key messages, and at any place
abbrev rest_at : Sizes → ℕ → ℕ → List ℕ
rest_at z k r = group_at z k (in_run (count_of z) (r / 3)) (r % 3)

abbrev seen_at : Sizes → ℕ → ℕ → List ℕ
seen_at z k i = if nat_lt i 3 then length_at k Client (peer_of i) (message_length z.shape z.widths.bits) else rest_at z k (i - 3)

-- a group as a whole
abbrev group_lengths : Sizes → ℕ → List ℕ
group_lengths z g = if g == 2 * count_of z - 1 then 1 ∷ [] else z.rows ∷ z.rows ∷ []

whole_by : (z : Sizes) (k : ℕ) (b : Bool) → k < 3
    → ((if b then length_at k (peer_of 0) Client 1 else length_at k (peer_of 0) (peer_of (before 0)) z.rows)
    ++ (if b then length_at k (peer_of 1) Client 1 else length_at k (peer_of 1) (peer_of (before 1)) z.rows))
    ++ (if b then length_at k (peer_of 2) Client 1 else length_at k (peer_of 2) (peer_of (before 2)) z.rows)
    ≡ (if b then 1 ∷ [] else z.rows ∷ z.rows ∷ [])
whole_by z zero true h = refl
whole_by z zero false h = refl
whole_by z (suc zero) true h = refl
whole_by z (suc zero) false h = refl
whole_by z (suc (suc zero)) true h = refl
whole_by z (suc (suc zero)) false h = refl
whole_by z (suc (suc (suc k))) b h = absurd (omega arith)

third_is : (z : Sizes) (k q g : ℕ) → k < 3 → in_run (count_of z) q ≡ g → third (rest_at z k) q ≡ group_lengths z g
third_is z k q g h e =
    let d0 : 3 * q / 3 ≡ q = omega arith in
    let d1 : (3 * q + 1) / 3 ≡ q = omega arith in
    let d2 : (3 * q + 2) / 3 ≡ q = omega arith in
    let m0 : 3 * q % 3 ≡ 0 = omega arith in
    let m1 : (3 * q + 1) % 3 ≡ 1 = omega arith in
    let m2 : (3 * q + 2) % 3 ≡ 2 = omega arith in
    let at = λ (x r : ℕ) (j : ℕ) (d : x ≡ q) (m : r ≡ j). ap (λ (y : ℕ). group_at z k (in_run (count_of z) y) r) d ∙ ap (λ (y : ℕ). group_at z k y r) e ∙ ap (λ (y : ℕ). group_at z k g y) m in
    ap (λ (l : List ℕ). (l ++ rest_at z k (3 * q + 1)) ++ rest_at z k (3 * q + 2)) (at (3 * q / 3) (3 * q % 3) 0 d0 m0)
    ∙ ap (λ (l : List ℕ). (group_at z k g 0 ++ l) ++ rest_at z k (3 * q + 2)) (at ((3 * q + 1) / 3) ((3 * q + 1) % 3) 1 d1 m1)
    ∙ ap (λ (l : List ℕ). (group_at z k g 0 ++ group_at z k g 1) ++ l) (at ((3 * q + 2) / 3) ((3 * q + 2) % 3) 2 d2 m2)
    ∙ whole_by z k (g == 2 * count_of z - 1) h

not_last : (z : Sizes) (g : ℕ) → g < 2 * count_of z - 1 → group_lengths z g ≡ z.rows ∷ z.rows ∷ []
not_last z g h = let no : (g == 2 * count_of z - 1) ≡ false = grind (arith, nat_tests) in rw no refl

the_last : (z : Sizes) → group_lengths z (2 * count_of z - 1) ≡ 1 ∷ []
the_last z = let yes : (2 * count_of z - 1 == 2 * count_of z - 1) ≡ true = grind (arith, nat_tests) in rw yes refl

run_is : (z : Sizes) → 0 < count_of z → joined (2 * count_of z) (group_lengths z) ≡ run_lengths z
run_is z some =
    let last = 2 * count_of z - 1 in
    let whole : 2 * count_of z ≡ suc (2 * count_of z - 1) = omega arith in
    ap (λ (n : ℕ). joined n (group_lengths z)) whole
    ∙ ap (λ (l : List ℕ). joined (2 * count_of z - 1) (group_lengths z) ++ l) (the_last z)
    ∙ ap (λ (l : List ℕ). l ++ 1 ∷ []) (joined-same last (group_lengths z) (λ i. z.rows ∷ z.rows ∷ []) (λ i h. not_last z i h) ∙ joined-pairs last z.rows)

keys_is : (z : Sizes) (k : ℕ) → k < 3 → joined 3 (seen_at z k) ≡ message_length z.shape z.widths.bits ∷ []
keys_is z zero h = refl
keys_is z (suc zero) h = refl
keys_is z (suc (suc zero)) h = refl
keys_is z (suc (suc (suc k))) h = absurd (omega arith)

rest_is : (z : Sizes) (k i : ℕ) → seen_at z k (3 + i) ≡ rest_at z k i
rest_is z k i =
    let no : nat_lt (3 + i) 3 ≡ false = grind (arith, nat_tests) in
    let less : 3 + i - 3 ≡ i = omega arith in
    rw (no, less) refl

in_first : (count q : ℕ) → q < 2 * count → in_run count q ≡ q
in_first count q h = let yes : nat_lt q (2 * count) ≡ true = grind (arith, nat_tests) in rw yes refl

in_second : (count q : ℕ) → in_run count (2 * count + q) ≡ q
in_second count q =
    let no : nat_lt (2 * count + q) (2 * count) ≡ false = grind (arith, nat_tests) in
    let less : 2 * count + q - 2 * count ≡ q = omega arith in
    rw (no, less) refl

-- all places of a query
all_seen : (z : Sizes) (k : ℕ) → k < 3 → 0 < count_of z → joined (3 + 12 * count_of z) (seen_at z k) ≡ query_lengths z
all_seen z k h some =
    let count = count_of z in
    let places : 12 * count_of z ≡ 3 * (2 * count_of z + 2 * count_of z) = omega arith in
    let first : joined (2 * count_of z) (third (rest_at z k)) ≡ run_lengths z =
    joined-same (2 * count) (third (rest_at z k)) (group_lengths z) (λ q b. third_is z k q q h (in_first count q b)) ∙ run_is z some in
    let second : joined (2 * count_of z) (λ q. third (rest_at z k) (2 * count_of z + q)) ≡ run_lengths z =
    joined-same (2 * count) (λ q. third (rest_at z k) (2 * count + q)) (group_lengths z) (λ q b. third_is z k (2 * count + q) q h (in_second count q)) ∙ run_is z some in
    joined-add 3 (12 * count) (seen_at z k)
    ∙ ap (λ (l : List ℕ). l ++ joined (12 * count) (λ i. seen_at z k (3 + i))) (keys_is z k h)
    ∙ ap (λ (l : List ℕ). message_length z.shape z.widths.bits ∷ l)
    (joined-same (12 * count) (λ i. seen_at z k (3 + i)) (rest_at z k) (λ i b. rest_is z k i)
    ∙ ap (λ (n : ℕ). joined n (rest_at z k)) places
    ∙ joined-thirds (2 * count + 2 * count) (rest_at z k)
    ∙ joined-add (2 * count) (2 * count) (third (rest_at z k))
    ∙ ap (λ (l : List ℕ). l ++ joined (2 * count) (λ q. third (rest_at z k) (2 * count + q))) first
    ∙ ap (λ (l : List ℕ). run_lengths z ++ l) second)

-- the step of a group
record AtGroup (count more g : ℕ) : Type 0 where
  step : Step
  is : IsStep count more step
  here : group_of count more step ≡ g

halves : (count more g : ℕ) → more ≡ 0 → 0 < count → g < 2 * count → (h : ℕ) → (g ≡ 2 * h) ⊎ (g ≡ 2 * h + 1) → AtGroup count more g
halves count more g none some within zero (inl e) = record { step = bits 0; is = omega arith; here = omega arith }
halves count more g none some within (suc h) (inl e) = record { step = product (suc h); is = (omega arith, omega arith); here = omega arith }
halves count more g none some within h (inr e) =
    elim (cases_Bool (h + 1 == count)) as (λ _. AtGroup count more g) [
      | inl holds ↦ record { step = opening; is = some; here = let at : h + 1 ≡ count = eqb-true (h + 1) count holds in omega arith }
      | inr fails ↦ record { step = bits (h + 1); is = let apart : h + 1 ≢ count = eqb-false (h + 1) count fails in omega arith; here = omega arith }
    ]

find : (count more g : ℕ) → more ≡ 0 → 0 < count → g < 2 * count → AtGroup count more g
find count more g none some within =
    elim (cases_Bool (g % 2 == 0)) as (λ _. AtGroup count more g) [
      | inl holds ↦ let even : g % 2 ≡ 0 = eqb-true (g % 2) 0 holds in halves count more g none some within (g / 2) (inl (omega arith))
      | inr fails ↦ let odd : g % 2 ≢ 0 = eqb-false (g % 2) 0 fails in halves count more g none some within (g / 2) (inr (omega arith))
    ]

-- what server k sees of message j of a step
step_seen : (z : Sizes) (more k j : ℕ) (step : Step) → more ≡ 0 → IsStep (count_of z) more step
    → length_at k (peer_of j) (receiver_of step j) (step_length z step) ≡ group_at z k (group_of (count_of z) more step) j
step_seen z more k j (bits i) none h =
    let no : (2 * i - 1 == 2 * count_of z - 1) ≡ false = ne_eqb (2 * i - 1) (2 * count_of z - 1) (λ e. omega arith) in rw no refl
step_seen z more k j (product i) none h =
    let no : (2 * i == 2 * count_of z - 1) ≡ false = ne_eqb (2 * i) (2 * count_of z - 1) (λ e. omega (arith, h.1)) in rw no refl
step_seen z more k j (further e) none h = absurd (omega (arith, h.1))
step_seen z more k j opening none h =
    let yes : (2 * count_of z - 1 + more == 2 * count_of z - 1) ≡ true = eq-eqb (2 * count_of z - 1 + more) (2 * count_of z - 1) (omega arith) in rw yes refl

-- the messages that were carried are as long as the sizes say
module _ (s : Setup) (ms : List Message) (total : s.ending ≡ total_ending s.sizes) (part : IsPart s ms) where
  abbrev more : ℕ
  more = s.ending.further

  none : s.ending.further ≡ 0
  none = ap (λ (d : Ending). d.further) total

  abbrev place : ℕ → Step → ℕ → ℕ
  place run step k = place_of (count_of s.sizes) s.ending.further run step k

  chain_long : (run j k : ℕ) → run < 2 → j < count_of s.sizes → k < 3 → place run (chain_step j) k < length ms → length (message_at ms (place run (chain_step j) k)).sent ≡ s.sizes.rows
  chain_long run zero k two h b there = ap length (part.steps run (bits 0) k two h b there).words ∙ length-listed _ _
  chain_long run (suc j) k two h b there =
      let one_less : suc j - 1 ≡ j = omega arith in
      let before : place run (chain_step j) k < length ms =
      omega (arith, there, group-chain (count_of s.sizes) s.ending.further j, group-chain (count_of s.sizes) s.ending.further (suc j)) in
      ap length (part.steps run (product (suc j)) k two (omega arith, h) b there).words ∙ length-listed _ _
      ∙ ap (λ (i : ℕ). length (message_at ms (place run (chain_step i) k)).sent) one_less
      ∙ chain_long run j k two (omega arith) b before

  sent_long : (run : ℕ) (step : Step) (k : ℕ) → run < 2 → IsStep (count_of s.sizes) s.ending.further step → k < 3 → place run step k < length ms
      → length (message_at ms (place run step k)).sent ≡ step_length s.sizes step
  sent_long run (bits j) k two h b there = ap length (part.steps run (bits j) k two h b there).words ∙ length-listed _ _
  sent_long run (product zero) k two h b there = absurd (omega (arith, h.0))
  sent_long run (product (suc j)) k two h b there = chain_long run (suc j) k two h.1 b there
  sent_long run (further e) k two h b there = absurd (omega (arith, h.1, none))
  sent_long run opening k two h b there =
      ap length ((part.steps run opening k two h b there).words ∙ ap (λ (d : Ending). words_of s.sizes d run (seat_of s ms run k) opening) total)

  abbrev seen_of : ℕ → Message → List ℕ
  seen_of k m = length_at k m.sender m.receiver (length m.sent)

  seen_is : (k n : ℕ) (m : Message) (sender receiver : Peer) → m.sender ≡ sender → m.receiver ≡ receiver → length m.sent ≡ n → seen_of k m ≡ length_at k sender receiver n
  seen_is k n m sender receiver from to long =
      ap (λ (p : Peer). length_at k p m.receiver (length m.sent)) from ∙ ap (λ (p : Peer). length_at k sender p (length m.sent)) to ∙ ap (length_at k sender receiver) long

  step_at : (run : ℕ) (step : Step) (j k i : ℕ) → run < 2 → IsStep (count_of s.sizes) s.ending.further step → j < 3 → place run step j ≡ i → i < length ms
      → seen_of k (message_at ms i) ≡ group_at s.sizes k (group_of (count_of s.sizes) s.ending.further step) j
  step_at run step j k i two h b at there =
      let here : place run step j < length ms = omega arith in
      let fits = part.steps run step j two h b here in
      ap (λ (x : ℕ). seen_of k (message_at ms x)) (sym at)
      ∙ seen_is k (step_length s.sizes step) (message_at ms (place run step j)) (peer_of j) (receiver_of step j) fits.from fits.to (sent_long run step j two h b here)
      ∙ step_seen s.sizes s.ending.further k j step none h

  group_seen_at : (k run g j i : ℕ) → run < 2 → 0 < count_of s.sizes → g < 2 * count_of s.sizes → j < 3 → 3 + 3 * (2 * count_of s.sizes * run + g) + j ≡ i → i < length ms
      → seen_of k (message_at ms i) ≡ group_at s.sizes k g j
  group_seen_at k zero g j i two some within b at there =
      let found = find (count_of s.sizes) s.ending.further g none some within in
      step_at 0 found.step j k i two found.is b (omega (arith, found.here, none)) there ∙ ap (λ (x : ℕ). group_at s.sizes k x j) found.here
  group_seen_at k (suc zero) g j i two some within b at there =
      let found = find (count_of s.sizes) s.ending.further g none some within in
      step_at 1 found.step j k i two found.is b (omega (arith, found.here, none)) there ∙ ap (λ (x : ℕ). group_at s.sizes k x j) found.here
  group_seen_at k (suc (suc run)) g j i two some within b at there = absurd (omega arith)

  rest_seen : (k i : ℕ) → 0 < count_of s.sizes → 3 ≤ i → i < length ms → seen_of k (message_at ms i) ≡ rest_at s.sizes k (i - 3)
  rest_seen k i some late there =
      let count = count_of s.sizes in
      let q = (i - 3) / 3 in
      let below : (i - 3) / 3 < 4 * count_of s.sizes = omega (arith, part.few, none) in
      let b : (i - 3) % 3 < 3 = omega arith in
      elim (cases_Bool (nat_lt ((i - 3) / 3) (2 * count_of s.sizes))) as (λ _. seen_of k (message_at ms i) ≡ rest_at s.sizes k (i - 3)) [
        | inl holds ↦ let first : (i - 3) / 3 < 2 * count_of s.sizes = grind (arith, nat_tests) in
            group_seen_at k 0 q ((i - 3) % 3) i (omega arith) some first b (omega arith) there ∙ ap (λ (x : ℕ). group_at s.sizes k x ((i - 3) % 3)) (sym (in_first count q first))
        | inr fails ↦ let second : 2 * count_of s.sizes ≤ (i - 3) / 3 = grind (arith, nat_tests) in
            let whole : 2 * count_of s.sizes + ((i - 3) / 3 - 2 * count_of s.sizes) ≡ (i - 3) / 3 = omega arith in
            group_seen_at k 1 (q - 2 * count) ((i - 3) % 3) i (omega arith) some (omega arith) b (omega arith) there
            ∙ ap (λ (x : ℕ). group_at s.sizes k x ((i - 3) % 3)) (sym (in_second count (q - 2 * count)) ∙ ap (in_run count) whole)
      ]

  place_seen : (k i : ℕ) → KeysAreLong s → 0 < count_of s.sizes → i < length ms → seen_of k (message_at ms i) ≡ seen_at s.sizes k i
  place_seen k i long some there =
      elim (cases_Bool (nat_lt i 3)) as (λ _. seen_of k (message_at ms i) ≡ seen_at s.sizes k i) [
        | inl holds ↦ let early : i < 3 = grind (arith, nat_tests) in
            let fits = part.keys i early there in
            seen_is k (message_length s.sizes.shape s.sizes.widths.bits) (message_at ms i) Client (peer_of i) fits.from fits.to (ap length fits.words ∙ long i early) ∙ rw holds refl
        | inr fails ↦ let late : 3 ≤ i = grind (arith, nat_tests) in rest_seen k i some late there ∙ rw fails refl
      ]

  -- the lengths that a server sees are those of the places that there are
  lengths_seen : (k : ℕ) → KeysAreLong s → 0 < count_of s.sizes → lengths_at k ms ≡ joined (length ms) (seen_at s.sizes k)
  lengths_seen k long some =
      let f = λ (m : Message). length_at k m.sender m.receiver (length m.sent) in
      sym (flat_map-map (λ (l : List ℕ). l) f ms)
      ∙ ap (flat_map (λ (l : List ℕ). l)) (listed_is (length ms) (seen_at s.sizes k) [] (map f ms) (length-map ms f)
      (λ i h. get_or-map f ms i (message_of Client Client [] []) [] h ∙ place_seen k i long some h))
      ∙ joined-listed (length ms) (seen_at s.sizes k)

by_server : (z : Sizes) (k : ℕ) → k < 3 → query_lengths z ≡ (seen_by (trace_of z) k).lengths
by_server z zero h = refl
by_server z (suc zero) h = refl
by_server z (suc (suc zero)) h = refl
by_server z (suc (suc (suc k))) h = absurd (omega arith)

pub lengths_are_trace : LengthsAreTrace
lengths_are_trace s ms k h total some long t =
    let none : s.ending.further ≡ 0 = ap (λ (d : Ending). d.further) total in
    let full : length ms ≡ 3 + 12 * count_of s.sizes = omega (arith, t.full) in
    lengths_seen s ms total t.part k long some ∙ ap (λ (n : ℕ). joined n (seen_at s.sizes k)) full ∙ all_seen s.sizes k h some ∙ by_server s.sizes k h

pub lengths_begin_trace : LengthsBeginTrace
lengths_begin_trace s ms k h total some long part =
    let none : s.ending.further ≡ 0 = ap (λ (d : Ending). d.further) total in
    let left = 3 + 12 * count_of s.sizes - length ms in
    let whole : length ms + (3 + 12 * count_of s.sizes - length ms) ≡ 3 + 12 * count_of s.sizes = omega (arith, part.few) in (
      joined left (λ i. seen_at s.sizes k (length ms + i)),
      ap (λ (l : List ℕ). l ++ joined left (λ i. seen_at s.sizes k (length ms + i))) (lengths_seen s ms total part k long some)
          ∙ sym (joined-add (length ms) left (seen_at s.sizes k)) ∙ ap (λ (n : ℕ). joined n (seen_at s.sizes k)) whole
          ∙ all_seen s.sizes k h some ∙ by_server s.sizes k h,
    )
