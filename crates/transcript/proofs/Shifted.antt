-- What a run opens where all altered messages have one server as an end.
use Rattle.std.proofs.Common.{◌≡◌, ◌≢◌, ℕ, zero, suc, ◌+◌, ◌*◌, ◌-◌, ◌%◌, ◌^◌, ◌<◌, ◌≤◌, true, false, List, [], ◌∷◌, length, get_or, map, refl, sym, ap, subst, ⊎_elim, ◌∙◌, arith, eqb, ltb, lt-ltb, length-append}
use Rattle.std.specs.List.{flat_map}
use Rattle.std.proofs.lemmas.List.{ext_get_or, get_or-map, length-map}
use Rattle.std.proofs.lemmas.Bool.{cases_Bool, eq-eqb}
use Rattle.list_facts.specs.Listed.{listed}
use Rattle.list_facts.proofs.Listed.{length-listed, get_or-listed}
use Rattle.prg_chacha.specs.Prg.{pad_of}
use Rattle.ring128.specs.Ring.{plus, minus, times, total_of, sums3}
use Rattle.ring128.specs.Laws.{IsThree}
use Rattle.ring128.proofs.Laws.{get_or-sums3, length-sums3}
use Rattle.zero_share.specs.Zero.{part_of}
use Rattle.share_product.specs.Product.{local_rows_of}
use Rattle.share_product.proofs.Products.{rows_add_up, inners_add_up}
use Rattle.wire_line.specs.declared.message.Message.{Message}
use Rattle.table_schema.specs.declared.rows.Row.{Row}
use Rattle.table_schema.specs.declared.shapes.Aggregate.{Aggregate}
use Rattle.table_schema.specs.declared.shapes.Aggregate.TheVariants.{Count, Sum}
use Rattle.table_schema.specs.declared.shapes.Part.{Part}
use Rattle.table_schema.specs.declared.shapes.Shape.{Shape}
use Rattle.table_schema.specs.declared.widths.Widths.{Widths}
use Rattle.onehot_column.specs.Code.{width_of, code_at}
use Rattle.ring128.specs.Signed.{word_of}
use Rattle.query_plan.specs.declared.query.Predicate.{Predicate}
use Rattle.query_plan.specs.declared.query.Query.{Query}
use Rattle.query_plan.specs.Query.{predicate_at, shaped, no_predicate, Suits, IsPlaced}
use Rattle.query_plan.specs.Query.{part_of as part_of_predicate}
use Rattle.transcript.specs.Setup.{Setup, Ending, count_of, column_of}
use Rattle.transcript.specs.Steps.{Step, bits, product, opening, counter_of, chain_step, after}
use Rattle.transcript.specs.Formulas.{product_words, opening_share, words_of, total_ending}
use Rattle.transcript.specs.Transcript.{opened_of, opened_at}
use Rattle.query_plan.specs.Views.{IsTablePair, weight_inside}
use Rattle.transcript.specs.Shifts.{shift_of, shifted_chain, row_bit, no_row, chain_sum, ShiftedOpen}
use Rattle.transcript.proofs.Sums.{total_of-sums3}
use Rattle.transcript.proofs.Steps.{bits_shares, bits_of_rows, openings_add_up}
use Rattle.transcript.proofs.Places.{IsStep-chain}
use Rattle.transcript.proofs.Shares.{IsCase, share, share_seat, base, base_is, message_of, got_other, client_apart, three_chain, three_bits, share_long, sent_chain_long}

-- the shape says how many predicates there are, whether values are summed, and each predicate's column
pub count_is : (s : Setup) (query : Query) → s.sizes.shape ≡ shaped query → count_of s.sizes ≡ query.count
count_is s query e = ap (λ (shape : Shape). shape.count) e

pub aggregate_is : (s : Setup) (query : Query) → s.sizes.shape ≡ shaped query → s.sizes.shape.aggregate ≡ query.aggregate
aggregate_is s query e = ap (λ (shape : Shape). shape.aggregate) e

part_at : (ps : List Predicate) (j : ℕ) → get_or (map part_of_predicate ps) j (part_of_predicate no_predicate) ≡ part_of_predicate (get_or ps j no_predicate)
part_at [] j = refl
part_at (p ∷ ps) zero = refl
part_at (p ∷ ps) (suc j) = part_at ps j

column_is : (s : Setup) (query : Query) → s.sizes.shape ≡ shaped query → (j : ℕ) → column_of s.sizes j ≡ (predicate_at query j).column
column_is s query e j =
    ap (λ (shape : Shape). (get_or shape.parts j (part_of_predicate no_predicate)).column) e ∙ ap (λ (part : Part). part.column) (part_at query.predicates j)

pub column_there : (columns : ℕ) (widths : List ℕ) (query : Query) (j : ℕ) → Suits columns widths query → j < query.count → (predicate_at query j).column < columns
column_there columns widths query j suits h =
    let yes : ltb j query.count ≡ true = lt-ltb j query.count h in
    let placed : IsPlaced columns widths query j = suits.placed j (omega (arith, suits.few)) in
    (rw yes at placed).legal.column

drop_mod : (a b : ℕ) → plus (a % 2 ^ 128) b ≡ plus a b
drop_mod a b = omega arith

-- what the one server's shift does to a sum of three
shift_three : (server : ℕ) → server < 3 → (x y : ℕ → ℕ) → ((k : ℕ) → k < 3 → k ≢ server → x k ≡ y k)
    → plus (plus (x 0) (x 1)) (x 2) ≡ plus (plus (plus (y 0) (y 1)) (y 2)) (minus (x server) (y server))
shift_three zero h x y e = omega (arith, e 1 (omega arith) (omega arith), e 2 (omega arith) (omega arith))
shift_three (suc zero) h x y e = omega (arith, e 0 (omega arith) (omega arith), e 2 (omega arith) (omega arith))
shift_three (suc (suc zero)) h x y e = omega (arith, e 0 (omega arith) (omega arith), e 1 (omega arith) (omega arith))
shift_three (suc (suc (suc k))) h x y e = absurd (omega arith)

-- a share is its words by the formula, but for the one server's
share_is : (s : Setup) (ms : List Message) (run server : ℕ) (step : Step) (k i : ℕ) → k ≢ server
    → get_or (share s ms server run step k) i 0 ≡ get_or (base s ms server run step k) i 0
share_is s ms run server step k i apart = let no : eqb k server ≡ false = grind arith in rw no

-- three shares add up to the formula's sum and the shift
shares_total : (s : Setup) (ms : List Message) (run server : ℕ) (step : Step) (f : ℕ → ℕ) → server < 3
    → IsThree s.sizes.rows (share s ms server run step 0) (share s ms server run step 1) (share s ms server run step 2)
    → IsThree s.sizes.rows (base s ms server run step 0) (base s ms server run step 1) (base s ms server run step 2)
    → ((i : ℕ) → i < s.sizes.rows → get_or (sums3 (base s ms server run step 0) (base s ms server run step 1) (base s ms server run step 2)) i 0 ≡ f i % 2 ^ 128)
    → sums3 (share s ms server run step 0) (share s ms server run step 1) (share s ms server run step 2)
    ≡ listed s.sizes.rows (λ i. plus (f i) (shift_of s ms server run step i))
shares_total s ms run server step f three tx ty at =
    let n = s.sizes.rows in
    let x = λ (k : ℕ). share s ms server run step k in
    let y = λ (k : ℕ). base s ms server run step k in
    ext_get_or 0 _ _ (length-sums3 n _ _ _ tx ∙ sym (length-listed n _))
    (λ i h.
    let b : i < n = omega (arith, length-sums3 n (x 0) (x 1) (x 2) tx) in
    let same : eqb server server ≡ true = eq-eqb server server refl in
    let own : minus (get_or (x server) i 0) (get_or (y server) i 0) ≡ shift_of s ms server run step i = rw same in
    get_or-sums3 n i (x 0) (x 1) (x 2) tx b
    ∙ shift_three server three (λ k. get_or (x k) i 0) (λ k. get_or (y k) i 0) (λ k _ apart. share_is s ms run server step k i apart)
    ∙ ap (λ (d : ℕ). plus (plus (plus (get_or (y 0) i 0) (get_or (y 1) i 0)) (get_or (y 2) i 0)) d) own
    ∙ ap (λ (d : ℕ). plus d (shift_of s ms server run step i)) (sym (get_or-sums3 n i (y 0) (y 1) (y 2) ty b) ∙ at i b)
    ∙ drop_mod (f i) (shift_of s ms server run step i)
    ∙ sym (get_or-listed n i (λ i. plus (f i) (shift_of s ms server run step i)) 0 b))

length-code_at : (w : Widths) (column : ℕ) (row : Row) → length (code_at w column row) ≡ width_of w column
length-code_at w column row =
    ⊎_elim
    (λ (yes : eqb column w.columns ≡ true). rw yes)
    (λ (no : eqb column w.columns ≡ false). rw no (length-listed _ _))
    (cases_Bool (eqb column w.columns))

pub length-codes : (w : Widths) (column : ℕ) (rows : List Row) → length (flat_map (code_at w column) rows) ≡ length rows * width_of w column
length-codes w column [] = omega arith
length-codes w column (row ∷ rows) =
    let more : suc (length rows) * width_of w column ≡ width_of w column + length rows * width_of w column = omega arith in
    length-append (code_at w column row) (flat_map (code_at w column) rows)
    ∙ rw (length-code_at w column row, length-codes w column rows) (sym more)

-- the bit of a predicate at a row, as a word
abbrev pub bit_of : Query → (ℕ → ℕ) → ℕ → Row → ℕ
bit_of query weights j row = let p = predicate_at query j in weight_inside p (weights j) (get_or row.buckets p.column 0) % 2 ^ 128

-- the bits by the formula
base_bits_is : (s : Setup) (query : Query) (weights : ℕ → ℕ → ℕ) (rows : List Row) (ms : List Message) (run server : ℕ)
    → IsCase s query weights rows ms run server → (j k : ℕ) → j < count_of s.sizes → k < 3
    → let c = (predicate_at query j).column in
    let v = s.read (s.keys k) in
    base s ms server run (bits j) k
    ≡ bits_shares s.sizes.rows (width_of s.sizes.widths c) (v.party0 run j) (v.party1 run j) ((s.pieces k).first c) ((s.pieces (after k)).first c)
    v.own (s.read (s.keys (after k))).own (counter_of (count_of s.sizes) run (bits j))
base_bits_is s query weights rows ms run server g j k h b =
    let v = s.read (s.keys k) in
    let a = g.asks in
    let p : j < query.count = omega (arith, count_is s query a.shape) in
    let near : (predicate_at query j).column ≤ s.sizes.widths.columns = omega (arith, column_there s.sizes.widths.columns s.sizes.widths.bits query j a.suits p) in
    let shared = a.hold.shared (predicate_at query j).column near in
    base_is s query weights rows ms run server g (bits j) k h b
    ∙ ap
    (λ (c : ℕ). bits_shares s.sizes.rows (width_of s.sizes.widths c) (v.party0 run j) (v.party1 run j) ((s.pieces k).first c) ((s.pieces k).second c) v.own v.next (counter_of (count_of s.sizes) run (bits j)))
    (column_is s query a.shape j)
    ∙ rw (shared.next k b, a.keys.seeds k b)

pair_along : (v w : ℕ) (table0 table1 : List ℕ) (whole : ℕ → ℕ) → v ≡ w → IsTablePair v table0 table1 whole → IsTablePair w table0 table1 whole
pair_along v w table0 table1 whole e pair = let P : ℕ → Type 0 = λ n. IsTablePair n table0 table1 whole in subst P e pair

base_bits_sum : (s : Setup) (query : Query) (weights : ℕ → ℕ → ℕ) (rows : List Row) (ms : List Message) (run server : ℕ)
    → IsCase s query weights rows ms run server → (j : ℕ) → j < count_of s.sizes
    → sums3 (base s ms server run (bits j) 0) (base s ms server run (bits j) 1) (base s ms server run (bits j) 2) ≡ map (bit_of query (weights run) j) rows
base_bits_sum s query weights rows ms run server g j h =
    let a = g.asks in
    let test = predicate_at query j in
    let c = test.column in
    let w = width_of s.sizes.widths c in
    let v = λ (k : ℕ). s.read (s.keys k) in
    let x = λ (k : ℕ). (s.pieces k).first c in
    let p : j < query.count = omega (arith, count_is s query a.shape) in
    let there : c < s.sizes.widths.columns = column_there s.sizes.widths.columns s.sizes.widths.bits query j a.suits p in
    let near : c ≤ s.sizes.widths.columns = omega arith in
    let no : eqb c s.sizes.widths.columns ≡ false = grind arith in
    let narrow : c < 6 = omega (arith, s.sizes.widths.legal.1) in
    let shared = a.hold.shared c near in
    let long : length (flat_map (code_at s.sizes.widths c) rows) ≡ s.sizes.rows * w = length-codes s.sizes.widths c rows ∙ ap (λ (n : ℕ). n * w) (sym a.long) in
    let wide : 2 ^ get_or s.sizes.widths.bits c 0 ≡ w = rw no in
    let pair0 = pair_along _ w _ _ _ wide (a.keys.pairs run j 0 g.two p (omega arith)) in
    let pair1 = pair_along _ w _ _ _ wide (a.keys.pairs run j 1 g.two p (omega arith)) in
    let pair2 = pair_along _ w _ _ _ wide (a.keys.pairs run j 2 g.two p (omega arith)) in
    let at = λ (k : ℕ) (b : k < 3). base_bits_is s query weights rows ms run server g j k h b in
    rw (at 0 (omega arith), at 1 (omega arith), at 2 (omega arith))
    (bits_of_rows s.sizes.rows w (counter_of (count_of s.sizes) run (bits j))
    ((v 0).party0 run j) ((v 1).party0 run j) ((v 2).party0 run j) ((v 0).party1 run j) ((v 1).party1 run j) ((v 2).party1 run j)
    (x 0) (x 1) (x 2) (v 0).own (v 1).own (v 2).own rows (code_at s.sizes.widths c) (weight_inside test (weights run j)) (λ row. get_or row.buckets c 0) no_row a.long
    (record { first = pair2.long0; second = pair0.long0; third = pair1.long0 })
    (record { first = pair0.long1; second = pair1.long1; third = pair2.long1 })
    (record { first = shared.long.first ∙ long; second = shared.long.second ∙ long; third = shared.long.third ∙ long })
    pair2.adds_up pair0.adds_up pair1.adds_up shared.adds_up
    (λ row. rw no (length-listed _ _))
    (λ row. rw no)
    (λ i b. let k : i < length rows = omega (arith, a.long) in rw no ((a.hold.held i no_row k).buckets c narrow)))

bits_total : (s : Setup) (query : Query) (weights : ℕ → ℕ → ℕ) (rows : List Row) (ms : List Message) (run server : ℕ)
    → IsCase s query weights rows ms run server → (j : ℕ) → j < count_of s.sizes
    → sums3 (share s ms server run (bits j) 0) (share s ms server run (bits j) 1) (share s ms server run (bits j) 2)
    ≡ listed s.sizes.rows (λ i. plus (row_bit query (weights run) rows j i) (shift_of s ms server run (bits j) i))
bits_total s query weights rows ms run server g j h =
    let long = λ (k : ℕ) (b : k < 3). ap length (base_is s query weights rows ms run server g (bits j) k h b) ∙ length-listed s.sizes.rows _ in
    shares_total s ms run server (bits j) (row_bit query (weights run) rows j) g.three (three_bits s ms run server j g.two g.transcript h)
    (record { first = long 0 (omega arith); second = long 1 (omega arith); third = long 2 (omega arith) })
    (λ i b. let k : i < length rows = omega (arith, g.asks.long) in
    ap (λ (l : List ℕ). get_or l i 0) (base_bits_sum s query weights rows ms run server g j h) ∙ get_or-map (bit_of query (weights run) j) rows i no_row 0 k)

-- a product by the formula
base_product_is : (s : Setup) (query : Query) (weights : ℕ → ℕ → ℕ) (rows : List Row) (ms : List Message) (run server : ℕ)
    → IsCase s query weights rows ms run server → (j k : ℕ) → suc j < count_of s.sizes → k < 3
    → let c = λ (k : ℕ). share s ms server run (chain_step j) k in
    let d = λ (k : ℕ). share s ms server run (bits (suc j)) k in
    base s ms server run (product (suc j)) k
    ≡ local_rows_of (c k) (c (after k)) (d k) (d (after k)) (s.read (s.keys k)).own (s.read (s.keys (after k))).own (counter_of (count_of s.sizes) run (product (suc j)))
base_product_is s query weights rows ms run server g j k h b =
    let one_less : suc j - 1 ≡ j = omega arith in
    let d = λ (k : ℕ). share s ms server run (bits (suc j)) k in
    base_is s query weights rows ms run server g (product (suc j)) k (omega arith, h) b
    ∙ ap (λ (i : ℕ). product_words s.sizes run (s.read (s.keys k)) (suc j) (share s ms server run (chain_step i) k) (share s ms server run (chain_step i) (after k)) (d k) (d (after k))) one_less
    ∙ rw (g.asks.keys.seeds k b)

pub chain_total : (s : Setup) (query : Query) (weights : ℕ → ℕ → ℕ) (rows : List Row) (ms : List Message) (run server : ℕ)
    → IsCase s query weights rows ms run server → (j : ℕ) → j < count_of s.sizes
    → sums3 (share s ms server run (chain_step j) 0) (share s ms server run (chain_step j) 1) (share s ms server run (chain_step j) 2)
    ≡ listed s.sizes.rows (shifted_chain (row_bit query (weights run) rows) (shift_of s ms server run) j)
chain_total s query weights rows ms run server g zero h = bits_total s query weights rows ms run server g zero h
chain_total s query weights rows ms run server g (suc j) h =
    let n = s.sizes.rows in
    let start = counter_of (count_of s.sizes) run (product (suc j)) in
    let v = λ (k : ℕ). s.read (s.keys k) in
    let c = λ (k : ℕ). share s ms server run (chain_step j) k in
    let d = λ (k : ℕ). share s ms server run (bits (suc j)) k in
    let early : j < count_of s.sizes = omega arith in
    let three_c = three_chain s ms run server j g.two g.transcript early in
    let three_d = three_bits s ms run server (suc j) g.two g.transcript h in
    let chain = shifted_chain (row_bit query (weights run) rows) (shift_of s ms server run) j in
    let bit = λ (i : ℕ). plus (row_bit query (weights run) rows (suc j) i) (shift_of s ms server run (bits (suc j)) i) in
    let words = λ (k : ℕ) (b : k < 3). base_product_is s query weights rows ms run server g j k h b in
    let long = λ (k : ℕ) (b : k < 3).
    ap length (words k b) ∙ length-listed _ _ ∙ share_long s ms run server (chain_step j) k g.two g.transcript (IsStep-chain (count_of s.sizes) s.ending.further j early) b (sent_chain_long s ms run j k g.two g.transcript early b) in
    shares_total s ms run server (product (suc j)) (λ i. times (chain i) (bit i)) g.three (three_chain s ms run server (suc j) g.two g.transcript h)
    (record { first = long 0 (omega arith); second = long 1 (omega arith); third = long 2 (omega arith) })
    (λ i b.
    let whole = rows_add_up n start (c 0) (c 1) (c 2) (d 0) (d 1) (d 2) (v 0).own (v 1).own (v 2).own three_c three_d in
    let at_chain = ap (λ (l : List ℕ). get_or l i 0) (chain_total s query weights rows ms run server g j early) ∙ get_or-listed n i chain 0 b in
    let at_bits = ap (λ (l : List ℕ). get_or l i 0) (bits_total s query weights rows ms run server g (suc j) h) ∙ get_or-listed n i bit 0 b in
    rw (words 0 (omega arith), words 1 (omega arith), words 2 (omega arith), whole, get_or-listed n i (λ i. times (get_or (sums3 (c 0) (c 1) (c 2)) i 0) (get_or (sums3 (d 0) (d 1) (d 2)) i 0)) 0 b, at_chain, at_bits)
    (omega arith))

-- three shares of a sum, each with a zero part, add up to the sum
shares_open : (a : Aggregate) (n : ℕ) (c0 c1 c2 v0 v1 v2 : List ℕ) (p q r : ℕ) → IsThree n c0 c1 c2 → IsThree n v0 v1 v2
    → plus (plus (plus (opening_share a c0 c1 v0 v1) (minus p q)) (plus (opening_share a c1 c2 v1 v2) (minus q r))) (plus (opening_share a c2 c0 v2 v0) (minus r p))
    ≡ chain_sum a (sums3 c0 c1 c2) (sums3 v0 v1 v2)
shares_open Count n c0 c1 c2 v0 v1 v2 p q r x y =
    openings_add_up (total_of c0) (total_of c1) (total_of c2) p q r ∙ sym (total_of-sums3 n c0 c1 c2 x)
shares_open Sum n c0 c1 c2 v0 v1 v2 p q r x y =
    openings_add_up (opening_share Sum c0 c1 v0 v1) (opening_share Sum c1 c2 v1 v2) (opening_share Sum c2 c0 v2 v0) p q r ∙ inners_add_up n c0 c1 c2 v0 v1 v2 x y

pub codes_are_values : (w : Widths) (rows : List Row) → flat_map (code_at w w.columns) rows ≡ map (λ (row : Row). word_of row.value) rows
codes_are_values w [] = refl
codes_are_values w (row ∷ rows) = rw (eq-eqb w.columns w.columns refl, codes_are_values w rows)

-- the opening by the formula
base_opening_is : (s : Setup) (query : Query) (weights : ℕ → ℕ → ℕ) (rows : List Row) (ms : List Message) (run server : ℕ)
    → IsCase s query weights rows ms run server → s.ending ≡ total_ending s.sizes → (k : ℕ) → 0 < count_of s.sizes → k < 3
    → let c = λ (k : ℕ). share s ms server run (chain_step (count_of s.sizes - 1)) k in
    let v = λ (k : ℕ). (s.pieces k).first s.sizes.widths.columns in
    get_or (base s ms server run opening k) 0 0
    ≡ plus (opening_share s.sizes.shape.aggregate (c k) (c (after k)) (v k) (v (after k)))
    (part_of (s.read (s.keys k)).own (s.read (s.keys (after k))).own (counter_of (count_of s.sizes) run opening))
base_opening_is s query weights rows ms run server g total k some b =
    let all : s.sizes.widths.columns ≤ s.sizes.widths.columns = omega arith in
    ap (λ (l : List ℕ). get_or l 0 0)
    (base_is s query weights rows ms run server g opening k some b ∙ ap (λ (d : Ending). words_of s.sizes d run (share_seat s ms server run k) opening) total)
    ∙ rw ((g.asks.hold.shared s.sizes.widths.columns all).next k b, g.asks.keys.seeds k b)

opened_base : (s : Setup) (query : Query) (weights : ℕ → ℕ → ℕ) (rows : List Row) (ms : List Message) (run server : ℕ)
    → IsCase s query weights rows ms run server → 0 < count_of s.sizes
    → let y = λ (k : ℕ). get_or (base s ms server run opening k) 0 0 in
    opened_of s ms run ≡ plus (plus (plus (y 0) (y 1)) (y 2)) (shift_of s ms server run opening 0)
opened_base s query weights rows ms run server g some =
    let x = λ (k : ℕ). get_or (message_of s ms run opening k).received 0 0 in
    let y = λ (k : ℕ). get_or (base s ms server run opening k) 0 0 in
    let same : eqb server server ≡ true = eq-eqb server server refl in
    let own : minus (x server) (y server) ≡ shift_of s ms server run opening 0 = rw same in
    shift_three server g.three x y
    (λ k b apart. let no : eqb k server ≡ false = grind arith in
    ap (λ (l : List ℕ). get_or l 0 0) (got_other s query weights rows ms run server g opening k some b apart (client_apart server)) ∙ rw no)
    ∙ ap (λ (d : ℕ). plus (plus (plus (y 0) (y 1)) (y 2)) d) own

bases_open : (s : Setup) (query : Query) (weights : ℕ → ℕ → ℕ) (rows : List Row) (ms : List Message) (run server : ℕ)
    → IsCase s query weights rows ms run server → s.ending ≡ total_ending s.sizes → 0 < count_of s.sizes
    → let y = λ (k : ℕ). get_or (base s ms server run opening k) 0 0 in
    plus (plus (y 0) (y 1)) (y 2)
    ≡ chain_sum s.sizes.shape.aggregate
    (listed s.sizes.rows (shifted_chain (row_bit query (weights run) rows) (shift_of s ms server run) (count_of s.sizes - 1)))
    (map (λ (row : Row). word_of row.value) rows)
bases_open s query weights rows ms run server g total h =
    let a = g.asks in
    let last = count_of s.sizes - 1 in
    let value = s.sizes.widths.columns in
    let c = λ (k : ℕ). share s ms server run (chain_step last) k in
    let v = λ (k : ℕ). (s.pieces k).first value in
    let pad = λ (k : ℕ). pad_of (s.read (s.keys k)).own (counter_of (count_of s.sizes) run opening) in
    let within : last < count_of s.sizes = omega arith in
    let all : value ≤ value = omega arith in
    let shared = a.hold.shared value all in
    let values = codes_are_values s.sizes.widths rows in
    let long : length (flat_map (code_at s.sizes.widths value) rows) ≡ s.sizes.rows = ap length values ∙ length-map rows (λ (row : Row). word_of row.value) ∙ sym a.long in
    let three_values : IsThree s.sizes.rows (v 0) (v 1) (v 2) = record { first = shared.long.first ∙ long; second = shared.long.second ∙ long; third = shared.long.third ∙ long } in
    let whole : sums3 (v 0) (v 1) (v 2) ≡ map (λ (row : Row). word_of row.value) rows = shared.adds_up ∙ values in
    let at = λ (k : ℕ) (b : k < 3). base_opening_is s query weights rows ms run server g total k h b in
    rw (at 0 (omega arith), at 1 (omega arith), at 2 (omega arith))
    (shares_open s.sizes.shape.aggregate s.sizes.rows (c 0) (c 1) (c 2) (v 0) (v 1) (v 2) (pad 0) (pad 1) (pad 2)
    (three_chain s ms run server last g.two g.transcript within) three_values
    ∙ rw (chain_total s query weights rows ms run server g last within, whole))

pub shifted_open : ShiftedOpen
shifted_open s query weights rows ms run server two three asks total transcript one =
    let g : IsCase s query weights rows ms run server = record {
      two = two;
      three = three;
      asks = asks;
      transcript = transcript;
      one = one;
    } in
    let some : 0 < count_of s.sizes = omega (arith, asks.suits.some, count_is s query asks.shape) in
    opened_base s query weights rows ms run server g some
    ∙ rw (bases_open s query weights rows ms run server g total some, count_is s query asks.shape, asks.long, aggregate_is s query asks.shape)
