-- What three servers hold where all altered messages have one server as an end. The shares count as the others see them: that
-- server's own as its neighbour received them, the others' as they were sent.
use Rattle.std.proofs.Common.{◌≡◌, ◌≢◌, ℕ, zero, suc, ◌+◌, ◌*◌, ◌-◌, ◌%◌, ◌<◌, true, false, cond, List, length, refl, sym, ap, ⊎_elim, ◌∙◌, arith, eqb}
use Rattle.std.proofs.lemmas.Bool.{cases_Bool, eqb-true, eqb-false}
use Rattle.list_facts.proofs.Listed.{length-listed}
use Rattle.ring128.specs.Laws.{IsThree}
use Rattle.wire_line.specs.declared.message.Peer.TheVariants.{Client}
use Rattle.wire_line.specs.declared.message.Message.{Message}
use Rattle.table_schema.specs.declared.rows.Row.{Row}
use Rattle.query_plan.specs.declared.query.Query.{Query}
use Rattle.transcript.specs.Setup.{Setup, count_of}
use Rattle.transcript.specs.Steps.{Step, bits, product, further, opening, IsStep, group_of, place_of, chain_step, peer_of, receiver_of, after}
use Rattle.transcript.specs.Formulas.{Seat, words_of}
use Rattle.wire_line.specs.Messages.{message_at}
use Rattle.transcript.specs.Transcript.{Fits, IsTranscript, seat_of}
use Rattle.transcript.specs.Laws.{Asks}
use Rattle.transcript.specs.Shifts.{OneAltered, realigned_seat, realigned_words}
use Rattle.transcript.proofs.Places.{place_within, IsStep-chain}
use Rattle.transcript.proofs.Seats.{SameUpTo, words_same}

peers_apart : (a b : ℕ) → a < 3 → b < 3 → a ≢ b → peer_of a ≢ peer_of b
peers_apart zero zero h k n = absurd (omega arith)
peers_apart zero (suc zero) h k n = λ e. cc
peers_apart zero (suc (suc b)) h k n = λ e. cc
peers_apart (suc zero) zero h k n = λ e. cc
peers_apart (suc zero) (suc zero) h k n = absurd (omega arith)
peers_apart (suc zero) (suc (suc b)) h k n = λ e. cc
peers_apart (suc (suc a)) zero h k n = λ e. cc
peers_apart (suc (suc a)) (suc zero) h k n = λ e. cc
peers_apart (suc (suc a)) (suc (suc b)) h k n = absurd (omega arith)

pub client_apart : (b : ℕ) → Client ≢ peer_of b
client_apart zero = λ e. cc
client_apart (suc zero) = λ e. cc
client_apart (suc (suc b)) = λ e. cc

-- the premises of the law
pub record IsCase (s : Setup) (query : Query) (weights : ℕ → ℕ → ℕ) (rows : List Row) (ms : List Message) (run server : ℕ) : Type 0 where
  pub two : run < 2
  pub three : server < 3
  pub asks : Asks s query weights rows
  pub transcript : IsTranscript s ms
  pub one : OneAltered server ms

-- the message of server k in a step
abbrev pub message_of : Setup → List Message → ℕ → Step → ℕ → Message
message_of s ms run step k = message_at ms (place_of (count_of s.sizes) s.ending.further run step k)

-- share k after a step
abbrev pub share : Setup → List Message → ℕ → ℕ → Step → ℕ → List ℕ
share s ms server run step k = cond (eqb k server) (message_of s ms run step k).received (message_of s ms run step k).sent

-- server k by the shares
abbrev pub share_seat : Setup → List Message → ℕ → ℕ → ℕ → Seat
share_seat s ms server run k = record {
  view = s.read (s.keys k);
  pieces = s.pieces k;
  first = λ t. share s ms server run t k;
  second = λ t. share s ms server run t (after k);
}

-- the words by the formula
abbrev pub base : Setup → List Message → ℕ → ℕ → Step → ℕ → List ℕ
base s ms server run step k = cond (eqb k server) (realigned_words s ms server run step) (message_of s ms run step k).sent

pub there : (s : Setup) (ms : List Message) (run : ℕ) (step : Step) (k : ℕ) → run < 2 → IsTranscript s ms → IsStep (count_of s.sizes) s.ending.further step → k < 3
    → place_of (count_of s.sizes) s.ending.further run step k < length ms
there s ms run step k two t h b =
    let within = place_within (count_of s.sizes) s.ending.further run step k two h b in omega (arith, t.full, within)

pub fits_at : (s : Setup) (ms : List Message) (run : ℕ) (step : Step) (k : ℕ) → run < 2 → IsTranscript s ms → IsStep (count_of s.sizes) s.ending.further step → k < 3
    → Fits (message_of s ms run step k) (peer_of k) (receiver_of step k) (words_of s.sizes s.ending run (seat_of s ms run k) step)
fits_at s ms run step k two t h b = t.part.steps run step k two h b (there s ms run step k two t h b)

-- a message between the two others was received as it was sent
pub got_other : (s : Setup) (query : Query) (weights : ℕ → ℕ → ℕ) (rows : List Row) (ms : List Message) (run server : ℕ)
    → IsCase s query weights rows ms run server → (step : Step) (k : ℕ) → IsStep (count_of s.sizes) s.ending.further step → k < 3 → k ≢ server
    → receiver_of step k ≢ peer_of server → (message_of s ms run step k).received ≡ (message_of s ms run step k).sent
got_other s query weights rows ms run server g step k h b apart far =
    let fits = fits_at s ms run step k g.two g.transcript h b in
    g.one (place_of (count_of s.sizes) s.ending.further run step k) (there s ms run step k g.two g.transcript h b)
    (λ e. peers_apart k server b g.three apart (sym fits.from ∙ e)) (λ e. far (sym fits.to ∙ e))

key_other : (s : Setup) (query : Query) (weights : ℕ → ℕ → ℕ) (rows : List Row) (ms : List Message) (run server : ℕ)
    → IsCase s query weights rows ms run server → (k : ℕ) → k < 3 → k ≢ server → (message_at ms k).received ≡ s.keys k
key_other s query weights rows ms run server g k b apart =
    let early : k < length ms = omega (arith, g.transcript.full) in
    let fits = g.transcript.part.keys k b early in
    g.one k early (λ e. client_apart server (sym fits.from ∙ e)) (λ e. peers_apart k server b g.three apart (sym fits.to ∙ e)) ∙ fits.words

around : (k : ℕ) → k < 3 → peer_of (((k + 1) % 3 + 2) % 3) ≡ peer_of k
around k b = let e : ((k + 1) % 3 + 2) % 3 ≡ k = omega arith in ap peer_of e

-- before the openings the message of the next server goes to k
receiver_before : (count more : ℕ) (t : Step) (k : ℕ) → IsStep count more t → k < 3 → group_of count more t < 2 * count - 1 + more → receiver_of t (after k) ≡ peer_of k
receiver_before count more (bits j) k h b early = around k b
receiver_before count more (product j) k h b early = around k b
receiver_before count more (further e) k h b early = around k b
receiver_before count more opening k h b early = absurd (omega arith)

group_up_to : (count more : ℕ) (step t : Step) → IsStep count more step → IsStep count more t → group_of count more t < group_of count more step → group_of count more t < 2 * count - 1 + more
group_up_to count more (bits j) t h i e = omega arith
group_up_to count more (product j) t h i e = omega (arith, h.1)
group_up_to count more (further u) t h i e = omega (arith, h.1)
group_up_to count more opening t h i e = e

-- what server k, which isn't the one altered, received from the next one
second_other : (s : Setup) (query : Query) (weights : ℕ → ℕ → ℕ) (rows : List Row) (ms : List Message) (run server : ℕ)
    → IsCase s query weights rows ms run server → (t : Step) (k : ℕ) → IsStep (count_of s.sizes) s.ending.further t → k < 3 → k ≢ server
    → group_of (count_of s.sizes) s.ending.further t < 2 * count_of s.sizes - 1 + s.ending.further
    → (message_of s ms run t (after k)).received ≡ share s ms server run t (after k)
second_other s query weights rows ms run server g t k h b apart early =
    let next : (k + 1) % 3 < 3 = omega arith in
    ⊎_elim
    (λ (yes : eqb ((k + 1) % 3) server ≡ true). rw yes)
    (λ (no : eqb ((k + 1) % 3) server ≡ false).
    rw no
    (got_other s query weights rows ms run server g t ((k + 1) % 3) h next (eqb-false _ _ no)
    (λ e. peers_apart k server b g.three apart (sym (receiver_before (count_of s.sizes) s.ending.further t k h b early) ∙ e))))
    (cases_Bool (eqb ((k + 1) % 3) server))

second_own : (s : Setup) (ms : List Message) (run server : ℕ) (t : Step) (k : ℕ) → k < 3 → k ≡ server
    → (message_of s ms run t (after k)).sent ≡ share s ms server run t (after k)
second_own s ms run server t k b e =
    let no : eqb ((k + 1) % 3) server ≡ false = grind arith in rw no

-- the words by the formula are those of the shares
pub base_is : (s : Setup) (query : Query) (weights : ℕ → ℕ → ℕ) (rows : List Row) (ms : List Message) (run server : ℕ)
    → IsCase s query weights rows ms run server → (step : Step) (k : ℕ) → IsStep (count_of s.sizes) s.ending.further step → k < 3
    → base s ms server run step k ≡ words_of s.sizes s.ending run (share_seat s ms server run k) step
base_is s query weights rows ms run server g step k h b =
    let early : k < length ms = omega (arith, g.transcript.full) in
    ⊎_elim
    (λ (yes : eqb k server ≡ true).
    let e : k ≡ server = eqb-true k server yes in
    let same : SameUpTo (count_of s.sizes) s.ending.further (group_of (count_of s.sizes) s.ending.further step) (realigned_seat s ms run k) (share_seat s ms server run k) = record {
      view = ap s.read (g.transcript.part.keys k b early).words;
      pieces = refl;
      first = λ t i before. rw yes;
      second = λ t i before. second_own s ms run server t k b e;
    } in
    let own : base s ms server run step k ≡ realigned_words s ms server run step = rw yes in
    own ∙ ap (λ (q : ℕ). realigned_words s ms q run step) (sym e) ∙ words_same s.sizes s.ending run _ _ step h same)
    (λ (no : eqb k server ≡ false).
    let apart : k ≢ server = eqb-false k server no in
    let same : SameUpTo (count_of s.sizes) s.ending.further (group_of (count_of s.sizes) s.ending.further step) (seat_of s ms run k) (share_seat s ms server run k) = record {
      view = ap s.read (key_other s query weights rows ms run server g k b apart);
      pieces = refl;
      first = λ t i before. rw no;
      second = λ t i before.
          second_other s query weights rows ms run server g t k i b apart (group_up_to (count_of s.sizes) s.ending.further step t h i before);
    } in
    let other : base s ms server run step k ≡ (message_of s ms run step k).sent = rw no in
    other ∙ (fits_at s ms run step k g.two g.transcript h b).words ∙ words_same s.sizes s.ending run _ _ step h same)
    (cases_Bool (eqb k server))

-- lengths
sent_bits_long : (s : Setup) (ms : List Message) (run j k : ℕ) → run < 2 → IsTranscript s ms → j < count_of s.sizes → k < 3
    → length (message_of s ms run (bits j) k).sent ≡ s.sizes.rows
sent_bits_long s ms run j k two t h b = ap length (fits_at s ms run (bits j) k two t h b).words ∙ length-listed s.sizes.rows _

pub sent_chain_long : (s : Setup) (ms : List Message) (run j k : ℕ) → run < 2 → IsTranscript s ms → j < count_of s.sizes → k < 3
    → length (message_of s ms run (chain_step j) k).sent ≡ s.sizes.rows
sent_chain_long s ms run zero k two t h b = sent_bits_long s ms run zero k two t h b
sent_chain_long s ms run (suc j) k two t h b =
    let one_less : suc j - 1 ≡ j = omega arith in
    let step : IsStep (count_of s.sizes) s.ending.further (product (suc j)) = (omega arith, h) in
    ap length (fits_at s ms run (product (suc j)) k two t step b).words ∙ length-listed _ _
    ∙ ap (λ (i : ℕ). length (message_of s ms run (chain_step i) k).sent) one_less
    ∙ sent_chain_long s ms run j k two t (omega arith) b

pub share_long : (s : Setup) (ms : List Message) (run server : ℕ) (step : Step) (k : ℕ) → run < 2 → IsTranscript s ms
    → IsStep (count_of s.sizes) s.ending.further step → k < 3 → length (message_of s ms run step k).sent ≡ s.sizes.rows
    → length (share s ms server run step k) ≡ s.sizes.rows
share_long s ms run server step k two t h b e =
    let fits = fits_at s ms run step k two t h b in
    ⊎_elim (λ (yes : eqb k server ≡ true). rw yes (fits.long ∙ e)) (λ (no : eqb k server ≡ false). rw no e) (cases_Bool (eqb k server))

three_share : (s : Setup) (ms : List Message) (run server : ℕ) (step : Step) → run < 2 → IsTranscript s ms → IsStep (count_of s.sizes) s.ending.further step
    → ((k : ℕ) → k < 3 → length (message_of s ms run step k).sent ≡ s.sizes.rows)
    → IsThree s.sizes.rows (share s ms server run step 0) (share s ms server run step 1) (share s ms server run step 2)
three_share s ms run server step two t h e = record {
  first = share_long s ms run server step 0 two t h (omega arith) (e 0 (omega arith));
  second = share_long s ms run server step 1 two t h (omega arith) (e 1 (omega arith));
  third = share_long s ms run server step 2 two t h (omega arith) (e 2 (omega arith));
}

pub three_chain : (s : Setup) (ms : List Message) (run server j : ℕ) → run < 2 → IsTranscript s ms → j < count_of s.sizes
    → IsThree s.sizes.rows (share s ms server run (chain_step j) 0) (share s ms server run (chain_step j) 1) (share s ms server run (chain_step j) 2)
three_chain s ms run server j two t h =
    three_share s ms run server (chain_step j) two t (IsStep-chain (count_of s.sizes) s.ending.further j h) (λ k b. sent_chain_long s ms run j k two t h b)

pub three_bits : (s : Setup) (ms : List Message) (run server j : ℕ) → run < 2 → IsTranscript s ms → j < count_of s.sizes
    → IsThree s.sizes.rows (share s ms server run (bits j) 0) (share s ms server run (bits j) 1) (share s ms server run (bits j) 2)
three_bits s ms run server j two t h =
    three_share s ms run server (bits j) two t h (λ k b. sent_bits_long s ms run j k two t h b)
