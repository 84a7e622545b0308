-- The messages of a run, step by step.
use Rattle.ring128.specs.Ring.{plus}
use Rattle.std.proofs.Common.{suc, get_or, ◌≡◌, ℕ, ◌+◌, ◌*◌, ◌-◌, ◌%◌, ◌<◌, ◌≤◌, List, [], ◌∷◌, ◌++◌, length, refl, sym, ap, subst, ⊎_elim, ◌∙◌, arith, length-append, append_assoc, append-nil}
use Rattle.std.proofs.lemmas.Bool.{cases_lt}
use Rattle.wire_line.specs.declared.message.Message.{Message}
use Rattle.wire_line.specs.Messages.{message_at}
use Rattle.wire_line.specs.Carried.{message_before, message_after}
use Rattle.scan_chunks.specs.Pieces.{Pieces}
use Rattle.query_plan.specs.Views.{View}
use Rattle.transcript.specs.Setup.{Sizes, Ending, count_of}
use Rattle.transcript.specs.Steps.{bits, product, further, opening, place_of, chain_step, step_before}
use Rattle.transcript.specs.Formulas.{bits_words, product_words, total_ending}
use Rattle.transcript.specs.Transcript.{IsPart, seat_of}
use Rattle.transcript.proofs.Places.{group-chain, group-before}
use Rattle.transcript.proofs.Seats.{same_end}
use Rattle.server_rounds.specs.declared.way.Way.TheVariants.{Around, ToClient}
use Rattle.server_rounds.specs.Groups.{Pairs, first_of, second_of, IsGroup, AreReshared}
use Rattle.server_rounds.specs.Rounds.{bits_of, products_of, openings_of, IsOpened}
use Rattle.server_rounds.specs.Runs.{IsBefore, IsRunPart, IsRun, EndsWith, IsPredicatePart, HaveProducts, HaveEnded, setup_of}
use Rattle.server_rounds.proofs.Extend.{extend}

-- the bits of predicate 0
pub first_part : (z : Sizes) (ending : Ending) (pieces : ℕ → Pieces) (run : ℕ) (views : ℕ → View) (ns : List Message) → run < 2 → 0 < count_of z
    → IsGroup Around (bits_of z run views pieces 0) ns → IsRunPart z ending pieces run views ns
first_part z ending pieces run views ns two some group keys read earlier b =
    extend (setup_of z ending keys read pieces) earlier ns run (bits 0) two some b.part (omega (arith, b.long)) (bits_of z run views pieces 0)
    (λ k h. ap (λ (v : View). bits_words z run v (pieces k) 0) (b.seen k h)) group

reshared_ends : (pairs : Pairs) (ms ns : List Message) → AreReshared pairs ns → EndsWith pairs (ms ++ ns)
reshared_ends pairs ms ns r = record {
  first = λ k h.
      let e : length (ms ++ ns) - 3 + k ≡ length ms + k = omega (arith, length-append ms ns, r.full) in
      r.first k h ∙ ap (λ (m : Message). m.sent) (sym (ap (message_at (ms ++ ns)) e ∙ message_after ms ns k));
  second = λ k h.
      let e : length (ms ++ ns) - 3 + (k + 1) % 3 ≡ length ms + (k + 1) % 3 = omega (arith, length-append ms ns, r.full) in
      r.second k h ∙ ap (λ (m : Message). m.received) (sym (ap (message_at (ms ++ ns)) e ∙ message_after ms ns ((k + 1) % 3)));
}

pub so_far_first : (z : Sizes) (pieces : ℕ → Pieces) (run : ℕ) (views : ℕ → View) (chain : Pairs) (ns : List Message) → run < 2 → 0 < count_of z
    → IsGroup Around (bits_of z run views pieces 0) ns → AreReshared chain ns → HaveProducts z pieces run views 1 chain ns
so_far_first z pieces run views chain ns two some group r = record {
  some = omega arith;
  part = λ ending. first_part z ending pieces run views ns two some group;
  long = omega (arith, r.full);
  ends = reshared_ends chain [] ns r;
}

-- the bits of predicate j
bits_part : (z : Sizes) (ending : Ending) (pieces : ℕ → Pieces) (run : ℕ) (views : ℕ → View) (j : ℕ) (chain : Pairs) (ms ns : List Message) → run < 2 → j < count_of z
    → HaveProducts z pieces run views j chain ms → IsGroup Around (bits_of z run views pieces j) ns → IsRunPart z ending pieces run views (ms ++ ns)
bits_part z ending pieces run views j chain ms ns two some so group keys read earlier b =
    let s = setup_of z ending keys read pieces in
    let long : length (earlier ++ ms) ≡ place_of (count_of z) ending.further run (bits j) 0 = omega (arith, length-append earlier ms, b.long, so.long, so.some) in
    let P : List Message → Type 0 = λ l. IsPart s l in
    subst P (append_assoc earlier ms ns)
    (extend s (earlier ++ ms) ns run (bits j) two some (so.part ending keys read earlier b) long (bits_of z run views pieces j)
    (λ k h. let early : k < length earlier = omega (arith, b.long) in
    ap (λ (v : View). bits_words z run v (pieces k) j) (b.seen k h ∙ ap (λ (m : Message). read m.received) (sym (message_before earlier ms k early))))
    group)

-- the product with the bits of predicate j
product_part : (z : Sizes) (ending : Ending) (pieces : ℕ → Pieces) (run : ℕ) (views : ℕ → View) (j : ℕ) (chain held : Pairs) (ms bs ps : List Message) → run < 2 → j < count_of z
    → HaveProducts z pieces run views j chain ms → IsGroup Around (bits_of z run views pieces j) bs → AreReshared held bs
    → IsGroup Around (products_of z run views j chain held) ps → IsRunPart z ending pieces run views (ms ++ (bs ++ ps))
product_part z ending pieces run views j chain held ms bs ps two some so group r products keys read earlier b =
    let s = setup_of z ending keys read pieces in
    let count = count_of z in
    let long : length (earlier ++ (ms ++ bs)) ≡ place_of count ending.further run (product j) 0 =
    omega (arith, length-append earlier (ms ++ bs), length-append ms bs, b.long, so.long, so.some, r.full) in
    let P : List Message → Type 0 = λ l. IsPart s l in
    let at_chain : (k : ℕ) → k < 3 → message_at (earlier ++ (ms ++ bs)) (place_of count ending.further run (chain_step (j - 1)) k) ≡ message_at ms (length ms - 3 + k) =
    λ k h.
    let there : place_of count ending.further run (chain_step (j - 1)) k ≡ length earlier + (length ms - 3 + k) = omega (arith, group-chain count ending.further (j - 1), b.long, so.long, so.some) in
    let within : length ms - 3 + k < length ms = omega (arith, so.long, so.some) in
    ap (message_at (earlier ++ (ms ++ bs))) there ∙ message_after earlier (ms ++ bs) (length ms - 3 + k) ∙ message_before ms bs (length ms - 3 + k) within in
    let at_bits : (k : ℕ) → k < 3 → message_at (earlier ++ (ms ++ bs)) (place_of count ending.further run (bits j) k) ≡ message_at bs k =
    λ k h.
    let there : place_of count ending.further run (bits j) k ≡ length earlier + (length ms + k) = omega (arith, b.long, so.long, so.some) in
    ap (message_at (earlier ++ (ms ++ bs))) there ∙ message_after earlier (ms ++ bs) (length ms + k) ∙ message_after ms bs k in
    let joined : (earlier ++ (ms ++ bs)) ++ ps ≡ earlier ++ (ms ++ (bs ++ ps)) = append_assoc earlier (ms ++ bs) ps ∙ ap (λ (l : List Message). earlier ++ l) (append_assoc ms bs ps) in
    subst P joined
    (extend s (earlier ++ (ms ++ bs)) ps run (product j) two (so.some, some) (bits_part z ending pieces run views j chain ms bs two some so group keys read earlier b) long
    (products_of z run views j chain held)
    (λ k h.
    let early : k < length earlier = omega (arith, b.long) in
    let next : (k + 1) % 3 < 3 = omega arith in
    let view : views k ≡ read (message_at (earlier ++ (ms ++ bs)) k).received = b.seen k h ∙ ap (λ (m : Message). read m.received) (sym (message_before earlier (ms ++ bs) k early)) in
    let c0 : first_of chain k ≡ (message_at (earlier ++ (ms ++ bs)) (place_of count ending.further run (chain_step (j - 1)) k)).sent = so.ends.first k h ∙ ap (λ (m : Message). m.sent) (sym (at_chain k h)) in
    let c1 : second_of chain k ≡ (message_at (earlier ++ (ms ++ bs)) (place_of count ending.further run (chain_step (j - 1)) ((k + 1) % 3))).received =
    so.ends.second k h ∙ ap (λ (m : Message). m.received) (sym (at_chain ((k + 1) % 3) next)) in
    let d0 : first_of held k ≡ (message_at (earlier ++ (ms ++ bs)) (place_of count ending.further run (bits j) k)).sent = r.first k h ∙ ap (λ (m : Message). m.sent) (sym (at_bits k h)) in
    let d1 : second_of held k ≡ (message_at (earlier ++ (ms ++ bs)) (place_of count ending.further run (bits j) ((k + 1) % 3))).received =
    r.second k h ∙ ap (λ (m : Message). m.received) (sym (at_bits ((k + 1) % 3) next)) in
    ap (λ (v : View). product_words z run v j (first_of chain k) (second_of chain k) (first_of held k) (second_of held k)) view
    ∙ ap (λ (l : List ℕ). product_words z run (read (message_at (earlier ++ (ms ++ bs)) k).received) j l (second_of chain k) (first_of held k) (second_of held k)) c0
    ∙ ap (λ (l : List ℕ). product_words z run (read (message_at (earlier ++ (ms ++ bs)) k).received) j (message_at (earlier ++ (ms ++ bs)) (place_of count ending.further run (chain_step (j - 1)) k)).sent l (first_of held k) (second_of held k)) c1
    ∙ rw (d0, d1))
    products)

nothing_in : (ms : List Message) → length ms ≤ 0 → ms ≡ []
nothing_in [] h = refl
nothing_in (m ∷ ms) h = absurd (omega arith)

-- a predicate's messages
pub predicate_part : (z : Sizes) (ending : Ending) (pieces : ℕ → Pieces) (run : ℕ) (views : ℕ → View) (j : ℕ) (chain : Pairs) (ms ns : List Message) → run < 2 → j < count_of z
    → HaveProducts z pieces run views j chain ms → IsPredicatePart z run views pieces j chain ns → IsRunPart z ending pieces run views (ms ++ ns)
predicate_part z ending pieces run views j chain ms ns two some so p =
    let P : List Message → Type 0 = λ l. IsRunPart z ending pieces run views (ms ++ l) in
    subst P (sym p.both)
    (⊎_elim
    (λ (h : 0 < length p.product_messages).
    product_part z ending pieces run views j chain p.held ms p.bit_messages p.product_messages two some so p.bits (p.reshared h) p.products)
    (λ (h : length p.product_messages ≤ 0).
    let none : p.product_messages ≡ [] = nothing_in p.product_messages h in
    let Q : List Message → Type 0 = λ l. IsRunPart z ending pieces run views (ms ++ (p.bit_messages ++ l)) in
    let alone : IsRunPart z ending pieces run views (ms ++ p.bit_messages) = bits_part z ending pieces run views j chain ms p.bit_messages two some so p.bits in
    let R : List Message → Type 0 = λ l. IsRunPart z ending pieces run views (ms ++ l) in
    subst Q (sym none) (subst R (sym (append-nil p.bit_messages)) alone))
    (cases_lt 0 (length p.product_messages)))

pub so_far_more : (z : Sizes) (pieces : ℕ → Pieces) (run : ℕ) (views : ℕ → View) (j : ℕ) (chain next : Pairs) (ms ns : List Message) → run < 2 → j < count_of z
    → HaveProducts z pieces run views j chain ms → (p : IsPredicatePart z run views pieces j chain ns) → AreReshared next p.product_messages
    → HaveProducts z pieces run views (j + 1) next (ms ++ ns)
so_far_more z pieces run views j chain next ms ns two some so p r = record {
  some = omega arith;
  part = λ ending. predicate_part z ending pieces run views j chain ms ns two some so p;
  long =
      let there : 0 < length p.product_messages = omega (arith, r.full) in
      let b = p.reshared there in
      omega (arith, length-append ms ns, ap length p.both, length-append p.bit_messages p.product_messages, so.long, r.full, b.full);
  ends =
      let P : List Message → Type 0 = λ l. EndsWith next l in
      subst P (append_assoc ms p.bit_messages p.product_messages ∙ ap (λ (l : List Message). ms ++ l) (sym p.both))
      (reshared_ends next (ms ++ p.bit_messages) p.product_messages r);
}

-- all products, and nothing further yet
pub products_ended : (z : Sizes) (ending : Ending) (pieces : ℕ → Pieces) (run : ℕ) (views : ℕ → View) (chain : Pairs) (ms : List Message)
    → HaveProducts z pieces run views (count_of z) chain ms → HaveEnded z ending pieces run views 0 chain ms
products_ended z ending pieces run views chain ms so = record { some = so.some; part = so.part ending; long = omega (arith, so.long); ends = so.ends }

-- the message of the step before stands among the last three
at_end : (z : Sizes) (ending : Ending) (pieces : ℕ → Pieces) (run : ℕ) (views : ℕ → View) (e : ℕ) (pairs : Pairs) (ms earlier : List Message) (k : ℕ) → k < 3
    → HaveEnded z ending pieces run views e pairs ms → length earlier ≡ 3 + 6 * count_of z * run + 3 * ending.further * run
    → message_at (earlier ++ ms) (place_of (count_of z) ending.further run (step_before (count_of z) e) k) ≡ message_at ms (length ms - 3 + k)
at_end z ending pieces run views e pairs ms earlier k h so long =
    let count = count_of z in
    let there : place_of count ending.further run (step_before count e) k ≡ length earlier + (length ms - 3 + k) =
    omega (arith, group-before count ending.further e so.some, long, so.long, so.some) in
    ap (message_at (earlier ++ ms)) there ∙ message_after earlier ms (length ms - 3 + k)

-- words of what the servers hold are words of the seats that the messages leave
end_words : (z : Sizes) (ending : Ending) (pieces : ℕ → Pieces) (run : ℕ) (views : ℕ → View) (e : ℕ) (pairs : Pairs) (ms : List Message) (keys : ℕ → List ℕ)
    (read : List ℕ → View) (earlier : List Message) → HaveEnded z ending pieces run views e pairs ms → IsBefore (setup_of z ending keys read pieces) run views earlier
    → (f : View → Pieces → List ℕ → List ℕ → List ℕ) (k : ℕ) → k < 3
    → let seat = seat_of (setup_of z ending keys read pieces) (earlier ++ ms) run k in
    let held = step_before (count_of z) e in
    f (views k) (pieces k) (first_of pairs k) (second_of pairs k) ≡ f seat.view seat.pieces (seat.first held) (seat.second held)
end_words z ending pieces run views e pairs ms keys read earlier so b f k h =
    let early : k < length earlier = omega (arith, b.long) in
    let next : (k + 1) % 3 < 3 = omega arith in
    same_end f _ _ _ _ _ _ _ _
    (b.seen k h ∙ ap (λ (m : Message). read m.received) (sym (message_before earlier ms k early)))
    refl
    (so.ends.first k h ∙ ap (λ (m : Message). m.sent) (sym (at_end z ending pieces run views e pairs ms earlier k h so b.long)))
    (so.ends.second k h ∙ ap (λ (m : Message). m.received) (sym (at_end z ending pieces run views e pairs ms earlier ((k + 1) % 3) next so b.long)))

-- the words of the servers in further step e, and in the opening, from what they hold
abbrev pub further_of : Ending → ℕ → ℕ → (ℕ → View) → (ℕ → Pieces) → Pairs → ℕ → List ℕ
further_of ending run e views pieces pairs k = ending.words run e (views k) (pieces k) (first_of pairs k) (second_of pairs k)

abbrev pub last_of : Ending → ℕ → (ℕ → View) → (ℕ → Pieces) → Pairs → ℕ → List ℕ
last_of ending run views pieces pairs k = ending.last run (views k) (pieces k) (first_of pairs k) (second_of pairs k)

pub further_part : (z : Sizes) (ending : Ending) (pieces : ℕ → Pieces) (run : ℕ) (views : ℕ → View) (e : ℕ) (pairs : Pairs) (ms ns : List Message) → run < 2 → e < ending.further
    → HaveEnded z ending pieces run views e pairs ms → IsGroup Around (further_of ending run e views pieces pairs) ns → IsRunPart z ending pieces run views (ms ++ ns)
further_part z ending pieces run views e pairs ms ns two there so group keys read earlier b =
    let s = setup_of z ending keys read pieces in
    let long : length (earlier ++ ms) ≡ place_of (count_of z) ending.further run (further e) 0 = omega (arith, length-append earlier ms, b.long, so.long, so.some) in
    let P : List Message → Type 0 = λ l. IsPart s l in
    subst P (append_assoc earlier ms ns)
    (extend s (earlier ++ ms) ns run (further e) two (so.some, there) (so.part keys read earlier b) long (further_of ending run e views pieces pairs)
    (end_words z ending pieces run views e pairs ms keys read earlier so b (ending.words run e)) group)

pub further_more : (z : Sizes) (ending : Ending) (pieces : ℕ → Pieces) (run : ℕ) (views : ℕ → View) (e : ℕ) (pairs next : Pairs) (ms ns : List Message) → run < 2 → e < ending.further
    → HaveEnded z ending pieces run views e pairs ms → IsGroup Around (further_of ending run e views pieces pairs) ns → AreReshared next ns
    → HaveEnded z ending pieces run views (suc e) next (ms ++ ns)
further_more z ending pieces run views e pairs next ms ns two there so group r = record {
  some = so.some;
  part = further_part z ending pieces run views e pairs ms ns two there so group;
  long = omega (arith, length-append ms ns, so.long, r.full);
  ends = reshared_ends next ms ns r;
}

pub last_part : (z : Sizes) (ending : Ending) (pieces : ℕ → Pieces) (run : ℕ) (views : ℕ → View) (pairs : Pairs) (ms ns : List Message) → run < 2
    → HaveEnded z ending pieces run views ending.further pairs ms → IsGroup ToClient (last_of ending run views pieces pairs) ns → IsRunPart z ending pieces run views (ms ++ ns)
last_part z ending pieces run views pairs ms ns two so group keys read earlier b =
    let s = setup_of z ending keys read pieces in
    let long : length (earlier ++ ms) ≡ place_of (count_of z) ending.further run opening 0 = omega (arith, length-append earlier ms, b.long, so.long, so.some) in
    let P : List Message → Type 0 = λ l. IsPart s l in
    subst P (append_assoc earlier ms ns)
    (extend s (earlier ++ ms) ns run opening two so.some (so.part keys read earlier b) long (last_of ending run views pieces pairs)
    (end_words z ending pieces run views ending.further pairs ms keys read earlier so b (ending.last run)) group)

-- the sum of the three words i that the client received
abbrev pub received_at : List Message → ℕ → ℕ
received_at ns i = plus (plus (get_or (message_at ns 0).received i 0) (get_or (message_at ns 1).received i 0)) (get_or (message_at ns 2).received i 0)

pub last_ends : (z : Sizes) (ending : Ending) (pieces : ℕ → Pieces) (run : ℕ) (views : ℕ → View) (pairs : Pairs) (ms ns : List Message) (i total : ℕ)
    → HaveEnded z ending pieces run views ending.further pairs ms → length ns ≡ 3 → total ≡ received_at ns i → IsRun z ending pieces run views (ms ++ ns) i total
last_ends z ending pieces run views pairs ms ns i total so full sum = record {
  full = omega (arith, length-append ms ns, so.long, so.some, full);
  sum = λ keys read earlier b.
      let count = count_of z in
      let at : (k : ℕ) → message_at (earlier ++ (ms ++ ns)) (place_of count ending.further run opening k) ≡ message_at ns k =
      λ k.
      let there : place_of count ending.further run opening k ≡ length earlier + (length ms + k) = omega (arith, b.long, so.long, so.some) in
      ap (message_at (earlier ++ (ms ++ ns))) there ∙ message_after earlier (ms ++ ns) (length ms + k) ∙ message_after ms ns k in
      sum ∙ rw (at 0, at 1, at 2);
}

-- a run that ends with one number
pub opening_part : (z : Sizes) (pieces : ℕ → Pieces) (run : ℕ) (views : ℕ → View) (chain : Pairs) (ms ns : List Message) → run < 2
    → HaveProducts z pieces run views (count_of z) chain ms → IsGroup ToClient (openings_of z run views pieces chain) ns
    → IsRunPart z (total_ending z) pieces run views (ms ++ ns)
opening_part z pieces run views chain ms ns two so group =
    last_part z (total_ending z) pieces run views chain ms ns two (products_ended z (total_ending z) pieces run views chain ms so) group

pub run_ends : (z : Sizes) (pieces : ℕ → Pieces) (run : ℕ) (views : ℕ → View) (chain : Pairs) (ms ns : List Message) (total : ℕ)
    → HaveProducts z pieces run views (count_of z) chain ms → IsOpened ns total → IsRun z (total_ending z) pieces run views (ms ++ ns) 0 total
run_ends z pieces run views chain ms ns total so o =
    last_ends z (total_ending z) pieces run views chain ms ns 0 total (products_ended z (total_ending z) pieces run views chain ms so) o.full o.sum
