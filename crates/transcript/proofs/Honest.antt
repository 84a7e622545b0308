-- What a run opens where nothing was altered: no shift is left, and the chains are the key at the rows that pass.
use Rattle.std.proofs.Common.{◌≡◌, ℕ, zero, suc, ◌+◌, ◌*◌, ◌-◌, ◌%◌, ◌^◌, ◌<◌, Bool, cond, List, length, get_or, map, filter, refl, sym, ap, ◌∙◌, arith}
use Rattle.std.specs.List.{list_all}
use Rattle.std.proofs.lemmas.List.{ext_get_or, get_or-map, length-map}
use Rattle.list_facts.specs.Listed.{listed}
use Rattle.list_facts.proofs.Listed.{length-listed, get_or-listed}
use Rattle.ring128.specs.Ring.{plus, times, sums3}
use Rattle.ring128.proofs.Laws.{inward}
use Rattle.wire_line.specs.declared.message.Message.{Message}
use Rattle.table_schema.specs.declared.rows.Row.{Row}
use Rattle.table_schema.specs.declared.shapes.Aggregate.{Aggregate}
use Rattle.table_schema.specs.declared.shapes.Aggregate.TheVariants.{Count, Sum}
use Rattle.ring128.specs.Signed.{word_of}
use Rattle.query_plan.specs.declared.query.Predicate.{Predicate}
use Rattle.query_plan.specs.declared.query.Query.{Query}
use Rattle.query_plan.specs.Query.{predicate_at}
use Rattle.transcript.specs.Plain.{passes, answer_of, plain}
use Rattle.query_plan.specs.Views.{is_inside, key_from}
use Rattle.transcript.specs.Setup.{Setup, count_of}
use Rattle.transcript.specs.Steps.{Step, bits, product, opening, IsStep, group_of, place_of, chain_step, after}
use Rattle.wire_line.specs.Messages.{IsHonest}
use Rattle.wire_line.specs.Carried.{honest_at}
use Rattle.transcript.specs.Transcript.{IsTranscript, seat_of}
use Rattle.transcript.specs.Laws.{RunsOpen, PairOpens, ProductsShared, passing}
use Rattle.transcript.specs.Shifts.{realigned_seat, realigned_words, shift_of, shifted_chain, row_bit, no_row, chain_sum}
use Rattle.transcript.proofs.Steps.{chain_of, chain_is, key_from-below, total_passing, dot_of_passing, word_of-below}
use Rattle.transcript.proofs.Seats.{SameUpTo, words_same}
use Rattle.transcript.proofs.Shares.{IsCase, message_of, there, fits_at, sent_chain_long}
use Rattle.transcript.proofs.Places.{IsStep-chain}
use Rattle.transcript.proofs.Shifted.{bit_of, count_is, chain_total, shifted_open}

got_is : (s : Setup) (ms : List Message) (run : ℕ) (step : Step) (k : ℕ) → run < 2 → IsTranscript s ms → IsHonest ms → IsStep (count_of s.sizes) s.ending.further step → k < 3
    → (message_of s ms run step k).received ≡ (message_of s ms run step k).sent
got_is s ms run step k two t honest h b = honest_at ms (place_of (count_of s.sizes) s.ending.further run step k) honest (there s ms run step k two t h b)

-- a server's realigned words are what it sent
realigned_is : (s : Setup) (ms : List Message) (run : ℕ) (step : Step) (k : ℕ) → run < 2 → IsTranscript s ms → IsHonest ms → IsStep (count_of s.sizes) s.ending.further step → k < 3
    → realigned_words s ms k run step ≡ (message_of s ms run step k).received
realigned_is s ms run step k two t honest h b =
    let early : k < length ms = omega (arith, t.full) in
    let next : (k + 1) % 3 < 3 = omega arith in
    let same : SameUpTo (count_of s.sizes) s.ending.further (group_of (count_of s.sizes) s.ending.further step) (realigned_seat s ms run k) (seat_of s ms run k) = record {
      view = ap s.read (sym (honest_at ms k honest early));
      pieces = refl;
      first = λ u i before. got_is s ms run u k two t honest i b;
      second = λ u i before. sym (got_is s ms run u ((k + 1) % 3) two t honest i next);
    } in
    words_same s.sizes s.ending run _ _ step h same ∙ sym (fits_at s ms run step k two t h b).words ∙ sym (got_is s ms run step k two t honest h b)

no_shift : (x y : ℕ) → y ≡ x → (x + (2 ^ 128 - 1) * y) % 2 ^ 128 ≡ 0
no_shift x y e = omega arith

shift_is : (s : Setup) (ms : List Message) (run : ℕ) (step : Step) (k i : ℕ) → run < 2 → IsTranscript s ms → IsHonest ms → IsStep (count_of s.sizes) s.ending.further step → k < 3
    → shift_of s ms k run step i ≡ 0
shift_is s ms run step k i two t honest h b =
    no_shift (get_or (message_of s ms run step k).received i 0) (get_or (realigned_words s ms k run step) i 0)
    (ap (λ (l : List ℕ). get_or l i 0) (realigned_is s ms run step k two t honest h b))

plain_bit : (x d : ℕ) → d ≡ 0 → plus x d ≡ x % 2 ^ 128
plain_bit x d e = omega arith

plain_product : (x y d e : ℕ) → d ≡ 0 → e ≡ 0 → plus (times x (plus y d)) e ≡ times x (y % 2 ^ 128)
plain_product x y d e f g = rw (plain_bit y d f) (omega arith)

-- without shifts a row's chain is the product of its bits
chain_at : (query : Query) (weights : ℕ → ℕ) (rows : List Row) (shift : Step → ℕ → ℕ) (count more j i : ℕ)
    → ((t : Step) → IsStep count more t → shift t i ≡ 0) → j < count
    → shifted_chain (row_bit query weights rows) shift j i ≡ chain_of (bit_of query weights) j (get_or rows i no_row)
chain_at query weights rows shift count more zero i none h = plain_bit (row_bit query weights rows 0 i) (shift (bits 0) i) (none (bits 0) h)
chain_at query weights rows shift count more (suc j) i none h =
    rw (chain_at query weights rows shift count more j i none (omega arith))
    (plain_product (chain_of (bit_of query weights) j (get_or rows i no_row)) (row_bit query weights rows (suc j) i)
    (shift (bits (suc j)) i) (shift (product (suc j)) i) (none (bits (suc j)) h) (none (product (suc j)) (omega arith, h)))

chains_are : (query : Query) (weights : ℕ → ℕ) (rows : List Row) (shift : Step → ℕ → ℕ) (count more j : ℕ)
    → ((t : Step) (i : ℕ) → IsStep count more t → shift t i ≡ 0) → j < count
    → listed (length rows) (shifted_chain (row_bit query weights rows) shift j) ≡ map (chain_of (bit_of query weights) j) rows
chains_are query weights rows shift count more j none h =
    let n = length rows in
    let f = shifted_chain (row_bit query weights rows) shift j in
    ext_get_or 0 _ _ (length-listed n f ∙ sym (length-map rows (chain_of (bit_of query weights) j)))
    (λ i b. let c : i < n = omega (arith, length-listed n f) in
    get_or-listed n i f 0 c ∙ chain_at query weights rows shift count more j i (λ t s. none t i s) h
    ∙ sym (get_or-map (chain_of (bit_of query weights) j) rows i no_row 0 c))

-- a row's chain is the key where the row passes
passing_chain : (query : Query) (weights : ℕ → ℕ) (row : Row) → 0 < query.count
    → chain_of (bit_of query weights) (query.count - 1) row ≡ cond (passes query row) (key_from weights (query.count)) 0
passing_chain query weights row some =
    let last = query.count - 1 in
    let whole : suc last ≡ query.count = omega arith in
    let inside = λ (p : Predicate) (row : Row). is_inside p (get_or row.buckets p.column 0) in
    chain_is (predicate_at query) weights inside row last
    ∙ ap (λ (n : ℕ). cond (list_all (λ (p : Predicate). inside p row) (listed n (predicate_at query))) (key_from weights n) 0) whole

pub answers : (a : Aggregate) (f : Row → ℕ) (p : Row → Bool) (key : ℕ) → key < 2 ^ 128 → ((row : Row) → f row ≡ cond (p row) key 0) → (rows : List Row)
    → chain_sum a (map f rows) (map (λ (row : Row). word_of row.value) rows) ≡ times key (word_of (answer_of a (filter p rows)))
answers Count f p key small at rows = total_passing f p key small at rows ∙ simp inward (omega arith)
answers Sum f p key small at rows = dot_of_passing f (λ (row : Row). row.value) p key at rows

-- the servers share the products of the bits
pub products_shared : ProductsShared
products_shared s query weights rows ms run two asks t honest =
    let count = count_of s.sizes in
    let last = query.count - 1 in
    let same : count ≡ query.count = count_is s query asks.shape in
    let some : 0 < query.count = asks.suits.some in
    let within : last < count = omega arith in
    let step = chain_step (count - 1) in
    let is_step : IsStep count s.ending.further step = IsStep-chain count s.ending.further (count - 1) (omega arith) in
    let none : (u : Step) (i : ℕ) → IsStep count s.ending.further u → shift_of s ms 0 run u i ≡ 0 = λ u i h. shift_is s ms run u 0 i two t honest h (omega arith) in
    let g : IsCase s query weights rows ms run 0 = record {
      two = two;
      three = omega arith;
      asks = asks;
      transcript = t;
      one = λ i b _ _. honest_at ms i honest b;
    } in
    let x = λ (k : ℕ). (seat_of s ms run k).first step in
    let long : (k : ℕ) → k < 3 → length (x k) ≡ length rows = λ k b. sent_chain_long s ms run (count - 1) k two t (omega arith) b ∙ asks.long in
    let got : (k : ℕ) → k < 3 → (message_of s ms run step k).received ≡ x k = λ k b. got_is s ms run step k two t honest is_step b in
    let whole = chain_total s query weights rows ms run 0 g (count - 1) (omega arith) in
    let listed_long : length (passing query (weights run) rows) ≡ length rows = length-map rows _ in
    let key = key_from (weights run) query.count in
    let chains : listed s.sizes.rows (shifted_chain (row_bit query (weights run) rows) (shift_of s ms 0 run) (count - 1)) ≡ passing query (weights run) rows =
    ap (λ (n : ℕ). listed n (shifted_chain (row_bit query (weights run) rows) (shift_of s ms 0 run) (count - 1))) asks.long
    ∙ ap (λ (n : ℕ). listed (length rows) (shifted_chain (row_bit query (weights run) rows) (shift_of s ms 0 run) (n - 1))) same
    ∙ chains_are query (weights run) rows (shift_of s ms 0 run) count s.ending.further last none within
    ∙ ext_get_or 0 _ _ (length-map rows _ ∙ sym (length-map rows _))
    (λ i b. let c : i < length rows = omega (arith, length-map rows (chain_of (bit_of query (weights run)) last)) in
    get_or-map (chain_of (bit_of query (weights run)) last) rows i no_row 0 c
    ∙ passing_chain query (weights run) (get_or rows i no_row) some
    ∙ sym (get_or-map (λ (row : Row). cond (passes query row) key 0) rows i no_row 0 c))
    in record {
      next = λ k b. got (after k) (omega arith);
      long = record {
        first = long 0 (omega arith) ∙ sym listed_long;
        second = long 1 (omega arith) ∙ sym listed_long;
        third = long 2 (omega arith) ∙ sym listed_long;
      };
      adds_up = ap (λ (l : List ℕ). sums3 l (x 1) (x 2)) (sym (got 0 (omega arith))) ∙ whole ∙ chains;
    }

pub runs_open : RunsOpen
runs_open s query weights rows ms run two asks total t honest =
    let count = count_of s.sizes in
    let last = query.count - 1 in
    let within : last < count = omega (arith, asks.suits.some, count_is s query asks.shape) in
    let some : 0 < count = omega arith in
    let none : (u : Step) (i : ℕ) → IsStep count s.ending.further u → shift_of s ms 0 run u i ≡ 0 = λ u i h. shift_is s ms run u 0 i two t honest h (omega arith) in
    let values = map (λ (row : Row). word_of row.value) rows in
    let key = key_from (weights run) (query.count) in
    shifted_open s query weights rows ms run 0 two (omega arith) asks total t (λ i b _ _. honest_at ms i honest b)
    ∙ rw (
      chains_are query (weights run) rows (shift_of s ms 0 run) count s.ending.further last none within,
      none opening 0 some,
      answers query.aggregate (chain_of (bit_of query (weights run)) last) (passes query) key (key_from-below (weights run) (query.count))
          (λ row. passing_chain query (weights run) row asks.suits.some) rows,
    ) (omega arith)

pub key_from-ones : (weights : ℕ → ℕ) (n : ℕ) → ((j : ℕ) → weights j ≡ 1) → key_from weights n ≡ 1
key_from-ones weights zero h = refl
key_from-ones weights (suc n) h = rw (key_from-ones weights n h, h n)

pub pair_opens : PairOpens
pair_opens s query weights rows ms ones asks total t honest =
    let answer = plain query rows in
    let first = runs_open s query weights rows ms 0 (omega arith) asks total t honest in
    let one = key_from-ones (weights 0) (query.count) ones in
    (first ∙ rw one (omega (arith, word_of-below answer)), runs_open s query weights rows ms 1 (omega arith) asks total t honest)
