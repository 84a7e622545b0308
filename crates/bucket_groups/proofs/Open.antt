-- What a query by buckets opens where nothing was altered.
use Rattle.std.proofs.Common.{◌≡◌, ◌∙◌, refl, sym, ap, ℕ, ℤ, ◌+◌, ◌*◌, ◌-◌, ◌%◌, ◌^◌, ◌<◌, ◌≤◌, false, cond, eqb, List, [], length, get_or, map, filter, arith}
use Rattle.std.specs.List.{flat_map}
use Rattle.std.proofs.lemmas.List.{ext_get_or, get_or-map, length-map}
use Rattle.list_facts.specs.Listed.{listed}
use Rattle.list_facts.proofs.Listed.{length-listed, get_or-listed, listed_is}
use Rattle.prg_chacha.specs.Prg.{pad_of}
use Rattle.ring128.specs.Ring.{plus, times, dot_of, sums3}
use Rattle.ring128.specs.Laws.{IsThree}
use Rattle.replicated_share.specs.Share.{AreShares}
use Rattle.zero_share.specs.Zero.{part_of}
use Rattle.share_product.specs.Product.{local_rows_of, inner_of}
use Rattle.share_product.proofs.Products.{rows_add_up}
use Rattle.wire_line.specs.declared.message.Message.{Message}
use Rattle.wire_line.specs.Messages.{IsHonest, message_at}
use Rattle.wire_line.specs.Carried.{honest_at}
use Rattle.table_schema.specs.declared.rows.Row.{Row}
use Rattle.table_schema.specs.declared.shapes.Aggregate.{Aggregate}
use Rattle.table_schema.specs.declared.shapes.Aggregate.TheVariants.{Count, Sum}
use Rattle.onehot_column.specs.Code.{width_of, code_at}
use Rattle.ring128.specs.Signed.{word_of}
use Rattle.query_plan.specs.declared.query.Query.{Query}
use Rattle.query_plan.specs.Views.{key_from}
use Rattle.transcript.specs.Setup.{Setup, Ending, count_of}
use Rattle.transcript.specs.Steps.{Step, further, opening, IsStep, place_of, chain_step, step_before, after}
use Rattle.transcript.specs.Formulas.{words_of}
use Rattle.transcript.specs.Transcript.{IsTranscript, seat_of, opened_at}
use Rattle.transcript.specs.Plain.{passes, answer_of, plain}
use Rattle.transcript.specs.Laws.{Asks}
use Rattle.transcript.specs.Shifts.{no_row}
use Rattle.transcript.proofs.Seats.{same_end}
use Rattle.transcript.proofs.Shares.{message_of, there, fits_at}
use Rattle.transcript.proofs.Shifted.{codes_are_values, length-codes, count_is, aggregate_is}
use Rattle.transcript.proofs.Honest.{products_shared, answers, key_from-ones}
use Rattle.transcript.proofs.Steps.{key_from-below, word_of-below}
use Rattle.bucket_groups.specs.Ending.{further_steps, places_of, value_words, bucket_words, bucket_ending}
use Rattle.bucket_groups.specs.Grouped.{is_in, grouped}
use Rattle.bucket_groups.specs.Laws.{GroupsOpen, GroupPairsOpen, BucketsSeeColumns}
use Rattle.bucket_groups.proofs.Buckets.{places_add_up, bucket_opens, value_with, dot_of_bucket}

-- the premises of the law
record IsCase (s : Setup) (query : Query) (weights : ℕ → ℕ → ℕ) (rows : List Row) (ms : List Message) (run column : ℕ) : Type 0 where
  two : run < 2
  there : column < s.sizes.widths.columns
  asks : Asks s query weights rows
  ending : s.ending ≡ bucket_ending s.sizes column
  transcript : IsTranscript s ms
  honest : IsHonest ms

-- server k read what the client sent
view_is : (s : Setup) (ms : List Message) (k : ℕ) → IsTranscript s ms → IsHonest ms → k < 3 → s.read (message_at ms k).received ≡ s.read (s.keys k)
view_is s ms k t honest b =
    let early : k < length ms = omega (arith, t.full) in
    ap s.read (honest_at ms k honest early ∙ (t.part.keys k b early).words)

-- what was received of server k in a step are its words
got_words : (s : Setup) (ms : List Message) (run : ℕ) (step : Step) (k : ℕ) → run < 2 → IsTranscript s ms → IsHonest ms → IsStep (count_of s.sizes) s.ending.further step → k < 3
    → (message_of s ms run step k).received ≡ words_of s.sizes s.ending run (seat_of s ms run k) step
got_words s ms run step k two t honest h b =
    honest_at ms (place_of (count_of s.sizes) s.ending.further run step k) honest (there s ms run step k two t h b) ∙ (fits_at s ms run step k two t h b).words

-- the key where a row passes, and the value of a row
abbrev key_at : Query → (ℕ → ℕ) → Row → ℕ
key_at query weights row = cond (passes query row) (key_from weights query.count) 0

abbrev value_at : Row → ℕ
value_at row = word_of row.value

-- what the servers share before the openings
abbrev held_first : Setup → List Message → ℕ → Aggregate → ℕ → List ℕ
held_first s ms run a k = (seat_of s ms run k).first (step_before (count_of s.sizes) (further_steps a))

abbrev held_second : Setup → List Message → ℕ → Aggregate → ℕ → List ℕ
held_second s ms run a k = (seat_of s ms run k).second (step_before (count_of s.sizes) (further_steps a))

some_predicate : (s : Setup) (query : Query) (weights : ℕ → ℕ → ℕ) (rows : List Row) (ms : List Message) (run column : ℕ)
    → IsCase s query weights rows ms run column → 0 < count_of s.sizes
some_predicate s query weights rows ms run column g = omega (arith, g.asks.suits.some, count_is s query g.asks.shape)

value_product : (s : Setup) (query : Query) (weights : ℕ → ℕ → ℕ) (rows : List Row) (ms : List Message) (run column : ℕ)
    → IsCase s query weights rows ms run column → s.sizes.shape.aggregate ≡ Sum
    → AreShares (held_first s ms run Sum) (held_second s ms run Sum) (map (value_with Sum (key_at query (weights run)) value_at) rows)
value_product s query weights rows ms run column g is_sum =
    let a = g.asks in
    let n = length rows in
    let value = s.sizes.widths.columns in
    let start = (32 + 2 * run) * 65536 in
    let more : s.ending.further ≡ 1 = ap (λ (d : Ending). d.further) g.ending ∙ ap further_steps is_sum in
    let is_step : IsStep (count_of s.sizes) s.ending.further (further 0) = (some_predicate s query weights rows ms run column g, omega arith) in
    let chain = chain_step (count_of s.sizes - 1) in
    let shared = products_shared s query weights rows ms run g.two a g.transcript g.honest in
    let c = λ (k : ℕ). (seat_of s ms run k).first chain in
    let view = λ (k : ℕ). s.read (s.keys k) in
    let all : value ≤ value = omega arith in
    let held = a.hold.shared value all in
    let v = λ (k : ℕ). (s.pieces k).first value in
    let long_c = shared.long in
    let length_c : length (map (key_at query (weights run)) rows) ≡ n = length-map rows _ in
    let three_c : IsThree n (c 0) (c 1) (c 2) = record { first = long_c.first ∙ length_c; second = long_c.second ∙ length_c; third = long_c.third ∙ length_c } in
    let values = codes_are_values s.sizes.widths rows in
    let length_v : length (flat_map (code_at s.sizes.widths value) rows) ≡ n = ap length values ∙ length-map rows value_at in
    let three_v : IsThree n (v 0) (v 1) (v 2) = record { first = held.long.first ∙ length_v; second = held.long.second ∙ length_v; third = held.long.third ∙ length_v } in
    let local = λ (k : ℕ). local_rows_of (c k) (c (after k)) (v k) (v (after k)) (view k).own (view (after k)).own start in
    let words : (k : ℕ) → k < 3 → (message_of s ms run (further 0) k).received ≡ local k = λ k b.
    got_words s ms run (further 0) k g.two g.transcript g.honest is_step b
    ∙ ap (λ (d : Ending). words_of s.sizes d run (seat_of s ms run k) (further 0)) g.ending
    ∙ same_end (value_words s.sizes run) (s.read (message_at ms k).received) (view k) (s.pieces k) (s.pieces k) (c k) (c k) ((seat_of s ms run k).second chain) (c (after k)) (view_is s ms k g.transcript g.honest b) refl refl (shared.next k b)
    ∙ rw (held.next k b, a.keys.seeds k b) in
    let sent : (k : ℕ) → k < 3 → (message_of s ms run (further 0) k).sent ≡ local k = λ k b.
    sym (honest_at ms (place_of (count_of s.sizes) s.ending.further run (further 0) k) g.honest (there s ms run (further 0) k g.two g.transcript is_step b)) ∙ words k b in
    let product = map (value_with Sum (key_at query (weights run)) value_at) rows in
    let length_p : length product ≡ n = length-map rows _ in
    let long : (k : ℕ) → k < 3 → length (c k) ≡ n → length (message_of s ms run (further 0) k).sent ≡ length product = λ k b e.
    ap length (sent k b) ∙ length-listed (length (c k)) _ ∙ e ∙ sym length_p in
    record {
      next = λ k b. let next : (k + 1) % 3 < 3 = omega arith in words ((k + 1) % 3) next ∙ sym (sent ((k + 1) % 3) next);
      long = record { first = long 0 (omega arith) three_c.first; second = long 1 (omega arith) three_c.second; third = long 2 (omega arith) three_c.third };
      adds_up =
          ap (λ (l : List ℕ). sums3 l (message_of s ms run (further 0) 1).sent (message_of s ms run (further 0) 2).sent) (sent 0 (omega arith))
          ∙ ap (λ (l : List ℕ). sums3 (local 0) l (message_of s ms run (further 0) 2).sent) (sent 1 (omega arith))
          ∙ ap (λ (l : List ℕ). sums3 (local 0) (local 1) l) (sent 2 (omega arith))
          ∙ rows_add_up n start (c 0) (c 1) (c 2) (v 0) (v 1) (v 2) (view 0).own (view 1).own (view 2).own three_c three_v
          ∙ sym (listed_is n _ 0 product length_p
          (λ i h.
          get_or-map (value_with Sum (key_at query (weights run)) value_at) rows i no_row 0 h
          ∙ ap (λ (x : ℕ). times x (value_at (get_or rows i no_row)))
          (sym (ap (λ (l : List ℕ). get_or l i 0) shared.adds_up ∙ get_or-map (key_at query (weights run)) rows i no_row 0 h))
          ∙ ap (λ (x : ℕ). times (get_or (sums3 (c 0) (c 1) (c 2)) i 0) x)
          (sym (ap (λ (l : List ℕ). get_or l i 0) (held.adds_up ∙ values) ∙ get_or-map value_at rows i no_row 0 h))));
    }

held_shared : (s : Setup) (query : Query) (weights : ℕ → ℕ → ℕ) (rows : List Row) (ms : List Message) (run column : ℕ)
    → IsCase s query weights rows ms run column → (a : Aggregate) → s.sizes.shape.aggregate ≡ a
    → AreShares (held_first s ms run a) (held_second s ms run a) (map (value_with a (key_at query (weights run)) value_at) rows)
held_shared s query weights rows ms run column g Count e = products_shared s query weights rows ms run g.two g.asks g.transcript g.honest
held_shared s query weights rows ms run column g Sum e = value_product s query weights rows ms run column g e

-- word b of the openings
opened_is : (s : Setup) (query : Query) (weights : ℕ → ℕ → ℕ) (rows : List Row) (ms : List Message) (run column : ℕ)
    → IsCase s query weights rows ms run column → (b : ℕ) → b < width_of s.sizes.widths column
    → opened_at s ms run b
    ≡ dot_of (map (value_with s.sizes.shape.aggregate (key_at query (weights run)) value_at) rows) (map (λ (row : Row). cond (is_in column b row) 1 0) rows)
opened_is s query weights rows ms run column g b within =
    let a = s.sizes.shape.aggregate in
    let w = width_of s.sizes.widths column in
    let n = s.sizes.rows in
    let k = g.asks in
    let shared = held_shared s query weights rows ms run column g a refl in
    let near : column ≤ s.sizes.widths.columns = omega (arith, g.there) in
    let no : eqb column s.sizes.widths.columns ≡ false = let there = g.there in grind arith in
    let held = k.hold.shared column near in
    let c = held_first s ms run a in
    let x = λ (k : ℕ). (s.pieces k).first column in
    let at = λ (k : ℕ). places_of n w b (x k) in
    let view = λ (k : ℕ). s.read (s.keys k) in
    let pad = λ (k : ℕ). pad_of (view k).own ((33 + 2 * run) * 65536 + b) in
    let whole = map (value_with a (key_at query (weights run)) value_at) rows in
    let length_c : length whole ≡ n = length-map rows _ ∙ sym k.long in
    let three_c : IsThree n (c 0) (c 1) (c 2) = record { first = shared.long.first ∙ length_c; second = shared.long.second ∙ length_c; third = shared.long.third ∙ length_c } in
    let length_x : length (flat_map (code_at s.sizes.widths column) rows) ≡ n * w = length-codes s.sizes.widths column rows ∙ ap (λ (m : ℕ). m * w) (sym k.long) in
    let three_x : IsThree (n * w) (x 0) (x 1) (x 2) = record { first = held.long.first ∙ length_x; second = held.long.second ∙ length_x; third = held.long.third ∙ length_x } in
    let three_at : IsThree n (at 0) (at 1) (at 2) = record { first = length-listed n _; second = length-listed n _; third = length-listed n _ } in
    let some = some_predicate s query weights rows ms run column g in
    let share = λ (k : ℕ). plus (inner_of (c k) (c (after k)) (at k) (at (after k))) ((pad k + (2 ^ 128 - 1) * pad (after k)) % 2 ^ 128) in
    let word : (k : ℕ) → k < 3 → get_or (message_of s ms run opening k).received b 0 ≡ share k = λ k h.
    ap (λ (l : List ℕ). get_or l b 0)
    (got_words s ms run opening k g.two g.transcript g.honest some h
    ∙ ap (λ (d : Ending). words_of s.sizes d run (seat_of s ms run k) opening) g.ending
    ∙ same_end (bucket_words s.sizes column run) (s.read (message_at ms k).received) (view k) (s.pieces k) (s.pieces k) (c k) (c k) (held_second s ms run a k) (c (after k)) (view_is s ms k g.transcript g.honest h) refl refl (shared.next k h))
    ∙ get_or-listed w b (λ b. plus (inner_of (c k) (c (after k)) (places_of n w b ((s.pieces k).first column)) (places_of n w b ((s.pieces k).second column))) (part_of (view k).own (view k).next ((33 + 2 * run) * 65536 + b))) 0 within
    ∙ rw (held.next k h, g.asks.keys.seeds k h) in
    ap (λ (m : ℕ). plus (plus m (get_or (message_of s ms run opening 1).received b 0)) (get_or (message_of s ms run opening 2).received b 0)) (word 0 (omega arith))
    ∙ ap (λ (m : ℕ). plus (plus (share 0) m) (get_or (message_of s ms run opening 2).received b 0)) (word 1 (omega arith))
    ∙ ap (λ (m : ℕ). plus (plus (share 0) (share 1)) m) (word 2 (omega arith))
    ∙ bucket_opens n (c 0) (c 1) (c 2) (at 0) (at 1) (at 2) (pad 0) (pad 1) (pad 2) three_c three_at
    ∙ ap (λ (l : List ℕ). dot_of l (sums3 (at 0) (at 1) (at 2))) shared.adds_up
    ∙ ap (λ (l : List ℕ). dot_of whole l)
    (places_add_up n w b (x 0) (x 1) (x 2) rows (code_at s.sizes.widths column) (λ row. get_or row.buckets column 0) no_row k.long three_x held.adds_up
    (λ row. rw no (length-listed _ _)) (λ row. rw no) within)

pub groups_open : GroupsOpen
groups_open s query weights rows ms run column two column_there asks ending transcript honest =
    let g : IsCase s query weights rows ms run column = record {
      two = two;
      there = column_there;
      asks = asks;
      ending = ending;
      transcript = transcript;
      honest = honest;
    } in
    let w = width_of s.sizes.widths column in
    let key = key_from (weights run) query.count in
    let a = s.sizes.shape.aggregate in
    let mine = λ (b : ℕ). filter (is_in column b) rows in
    sym (listed_is w (opened_at s ms run) 0 _ (length-map (grouped query column w rows) _ ∙ length-listed w _)
    (λ b h.
    get_or-map (λ (answer : ℤ). times key (word_of answer)) (grouped query column w rows) b (plain query []) 0 (let e = length-listed w (λ b. plain query (mine b)) in omega arith)
    ∙ ap (λ (answer : ℤ). times key (word_of answer)) (get_or-listed w b (λ b. plain query (mine b)) (plain query []) h)
    ∙ sym
    (opened_is s query weights rows ms run column g b h
    ∙ dot_of_bucket a (key_at query (weights run)) value_at (is_in column b) rows
    ∙ answers a (key_at query (weights run)) (passes query) key (key_from-below (weights run) query.count) (λ row. refl) (mine b)
    ∙ ap (λ (a : Aggregate). times key (word_of (answer_of a (filter (passes query) (mine b))))) (aggregate_is s query asks.shape))))

pub group_pairs_open : GroupPairsOpen
group_pairs_open s query weights rows ms column ones there asks ending t honest =
    let answers = grouped query column (width_of s.sizes.widths column) rows in
    let one = key_from-ones (weights 0) (query.count) ones in (
      groups_open s query weights rows ms 0 column (omega arith) there asks ending t honest
          ∙ ext_get_or 0 _ _ (length-map answers _ ∙ sym (length-map answers _))
          (λ i h. let b : i < length answers = omega (arith, length-map answers (λ (answer : ℤ). times (key_from (weights 0) query.count) (word_of answer))) in
          get_or-map _ answers i (plain query []) 0 b
          ∙ rw one (omega (arith, word_of-below (get_or answers i (plain query []))))
          ∙ sym (get_or-map word_of answers i (plain query []) 0 b)),
      groups_open s query weights rows ms 1 column (omega arith) there asks ending t honest,
    )

pub buckets_see_columns : BucketsSeeColumns
buckets_see_columns z column there = record {
  words = λ run e view p q first second same.
      let value = z.widths.columns in
      let here : value ≤ value = omega arith in
      let words = λ (xs ys : List ℕ). local_rows_of first second xs ys view.own view.next ((32 + 2 * run) * 65536) in
      ap (λ (l : List ℕ). words l (p.second value)) (same.first value here) ∙ ap (λ (l : List ℕ). words (q.first value) l) (same.second value here);
  last = λ run view p q first second same.
      let w = width_of z.widths column in
      let words = λ (xs ys : List ℕ). listed w (λ b. plus (inner_of first second (places_of z.rows w b xs) (places_of z.rows w b ys)) (part_of view.own view.next ((33 + 2 * run) * 65536 + b))) in
      ap (λ (l : List ℕ). words l (p.second column)) (same.first column there) ∙ ap (λ (l : List ℕ). words (q.first column) l) (same.second column there);
}
