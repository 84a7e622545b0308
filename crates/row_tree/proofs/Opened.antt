-- What the messages of a query over a tree open.
use Rattle.std.proofs.Common.{◌≡◌, ℕ, zero, suc, ◌+◌, ◌*◌, ◌-◌, ◌%◌, ◌^◌, ◌<◌, ◌≤◌, Bool, true, false, cond, eqb, ◌&&◌, List, [], ◌∷◌, ◌++◌, length, get_or, slice_index, map, take, drop, filter, refl, sym, ap, subst, ⊎_elim, ◌∙◌, arith, All, length-append, drop-cons}
use Rattle.std.specs.List.{flat_map, list_all, range_with_len}
use Rattle.std.proofs.lemmas.Bool.{cases_Bool}
use Rattle.std.proofs.lemmas.Nat.{mul-le}
use Rattle.list_facts.specs.Listed.{listed}
use Rattle.list_facts.proofs.Listed.{length-listed, get_or-listed, listed_is, listed_same}
use Rattle.ring128.specs.Ring.{plus, minus, times, dot_of, sums, sums3, total_of}
use Rattle.ring128.specs.Laws.{IsThree}
use Rattle.ring128.proofs.Laws.{inward, dot_of-sums, dot_of_comm, sums-listed, listed_add_up, get_or-sums3}
use Rattle.prg_chacha.specs.Prg.{pad_of}
use Rattle.scan_chunks.specs.Pieces.{row_of}
use Rattle.wire_line.specs.declared.message.Message.{Message}
use Rattle.wire_line.specs.Messages.{message_at, IsHonest}
use Rattle.wire_line.specs.Carried.{honest_at}
use Rattle.onehot_column.specs.Code.{one_hot}
use Rattle.table_schema.specs.declared.rows.Row.{Row}
use Rattle.query_plan.specs.declared.query.Query.{Query}
use Rattle.query_plan.specs.declared.query.Predicate.{Predicate}
use Rattle.prg_chacha.specs.declared.seed.Seed.{Seed}
use Rattle.std.proofs.lemmas.List.{get_or-take, get_or-drop}
use Rattle.transcript.specs.Plain.{passes, plain, answer_of}
use Rattle.transcript.specs.Shifts.{no_row}
use Rattle.transcript.proofs.Shifted.{column_there}
use Rattle.replicated_share.specs.Share.{AreShares}
use Rattle.onehot_column.specs.Code.{code_at, width_of}
use Rattle.ring128.specs.Signed.{word_of}
use Rattle.onehot_column.proofs.CodeLaws.{code_below, width_below}
use Rattle.query_plan.specs.KeyMessages.{Asked}
use Rattle.query_plan.specs.Seeds.{weights_of}
use Rattle.query_plan.specs.Query.{predicate_at}
use Rattle.query_plan.specs.Views.{AreKeys, View, IsTablePair, is_inside, weight_inside, key_from}
use Rattle.transcript.proofs.Sums.{bits_add_up, dot_of-code, row_of-flat_map, length-row_of}
use Rattle.transcript.proofs.Steps.{total_passing, key_from-below}
use Rattle.row_tree.specs.Cover.{cover_of, places_of}
use Rattle.row_tree.specs.Sums.{range_sum, sum_at, sum_rows}
use Rattle.server_rounds.specs.Groups.{by_server}
use Rattle.server_rounds.proofs.Messages.{three_same}
use Rattle.table_schema.specs.declared.shapes.Aggregate.{Aggregate}
use Rattle.server_rounds.specs.Rounds.{sum_word}
use Rattle.row_tree.specs.Laws.{AsksTrees, TreesOpen, rows_between}
use Rattle.row_tree.specs.Rounds.{IsTreeTranscript, Sides, sides_over, tree_counter, tree_opened}
use Rattle.row_tree.specs.Column.{Tree}
use Rattle.row_tree.proofs.Covers.{tiles}

zeros_dot : (xs : List ℕ) (a w : ℕ) → dot_of xs (map (λ (b : ℕ). 0) (range_with_len a w)) ≡ 0
zeros_dot [] a w = refl
zeros_dot (x ∷ xs) a zero = refl
zeros_dot (x ∷ xs) a (suc w) = omega (arith, zeros_dot xs (a + 1) w)

dot_of_plus : (ws : List ℕ) (w : ℕ) (f g : ℕ → ℕ) → dot_of ws (listed w (λ b. plus (f b) (g b))) ≡ plus (dot_of ws (listed w f)) (dot_of ws (listed w g))
dot_of_plus ws w f g =
    ap (λ l. dot_of ws l) (sym (sums-listed w f g))
    ∙ (dot_of_comm ws (sums (listed w f) (listed w g))
    ∙ (dot_of-sums (listed w f) (listed w g) ws (length-listed w f ∙ sym (length-listed w g))
    ∙ (ap (λ v. plus v (dot_of (listed w g) ws)) (dot_of_comm (listed w f) ws) ∙ ap (λ v. plus (dot_of ws (listed w f)) v) (dot_of_comm (listed w g) ws))))

-- what a table makes of the sum of some rows
pub dot_of_rows : (ws cells : List ℕ) (w : ℕ) (at : ℕ → ℕ) (from n : ℕ)
    → ((i : ℕ) → from ≤ i → i < from + n → dot_of ws (listed w (λ b. get_or cells (i * w + b) 0)) ≡ at i)
    → dot_of ws (sum_rows w cells (range_with_len from n)) ≡ total_of (map at (range_with_len from n))
dot_of_rows ws cells w at from zero each = zeros_dot ws 0 w
dot_of_rows ws cells w at from (suc n) each =
    dot_of_plus ws w (λ b. get_or cells (from * w + b) 0) (sum_at w cells (range_with_len (from + 1) n))
    ∙ (ap (λ v. plus v (dot_of ws (sum_rows w cells (range_with_len (from + 1) n)))) (each from (omega arith) (omega arith))
    ∙ ap (λ v. plus (at from) v) (dot_of_rows ws cells w at (from + 1) n (λ i a b. each i (omega arith) (omega arith))))

inside : (w count i b : ℕ) → i < count → b < w → i * w + b < count * w
inside w count i b h k =
    let up = mul-le (i + 1) w count w (omega arith) (omega arith) in
    let split : (i + 1) * w ≡ i * w + w = omega arith in
    omega (arith, up, split)

-- the sums of rows of three lists add up to those of their sum
sum_at3 : (w count : ℕ) (x y z : List ℕ) → IsThree (count * w) x y z → (b : ℕ) → b < w → (n from : ℕ) → from + n ≤ count
    → plus (plus (sum_at w x (range_with_len from n) b) (sum_at w y (range_with_len from n) b)) (sum_at w z (range_with_len from n) b)
    ≡ sum_at w (sums3 x y z) (range_with_len from n) b
sum_at3 w count x y z t b small zero from there = refl
sum_at3 w count x y z t b small (suc n) from there =
    let here = get_or-sums3 (count * w) (from * w + b) x y z t (inside w count from b (omega arith) small) in
    let rest = sum_at3 w count x y z t b small n (from + 1) (omega arith) in
    omega (arith, here, rest)

pub sum_rows3 : (w count : ℕ) (x y z : List ℕ) → IsThree (count * w) x y z → (from n : ℕ) → from + n ≤ count
    → sums3 (sum_rows w x (range_with_len from n)) (sum_rows w y (range_with_len from n)) (sum_rows w z (range_with_len from n))
    ≡ sum_rows w (sums3 x y z) (range_with_len from n)
sum_rows3 w count x y z t from n there =
    let places = range_with_len from n in
    let whole = sum_rows w (sums3 x y z) places in
    listed_add_up w (sum_at w x places) (sum_at w y places) (sum_at w z places) whole (length-listed w (sum_at w (sums3 x y z) places))
    (λ b small. sum_at3 w count x y z t b small n from there ∙ sym (get_or-listed w b (sum_at w (sums3 x y z) places) 0 small))

-- the numbers of the rows at some places
pub places_rows : {X : Type 0} (f : X → ℕ) (d : X) (xs : List X) (n from : ℕ) → from + n ≤ length xs
    → map (λ i. f (get_or xs i d)) (range_with_len from n) ≡ map f (take n (drop from xs))
places_rows f d xs zero from h = refl
places_rows {X = X} f d xs (suc n) from h =
    let split = drop-cons xs from d (omega arith) in
    let e : from + 1 ≡ suc from = omega arith in
    let x = f (get_or xs from d) in
    ap (λ (l : List ℕ). x ∷ l) (places_rows f d xs n (from + 1) (omega arith))
    ∙ (ap (λ k. x ∷ map f (take n (drop k xs))) e ∙ sym (ap (λ (l : List X). map f (take (suc n) l)) split))

long_rows : {X : Type 0} (f : X → List ℕ) (w : ℕ) → ((x : X) → length (f x) ≡ w) → (xs : List X) → length (flat_map f xs) ≡ length xs * w
long_rows f w long [] = omega arith
long_rows f w long (x ∷ xs) =
    let split : suc (length xs) * w ≡ w + length xs * w = omega arith in
    length-append (f x) (flat_map f xs) ∙ omega (arith, split, long x, long_rows f w long xs)

-- a row of a list of rows
row_cells : (w n i : ℕ) (cells : List ℕ) → length cells ≡ n * w → i < n → listed w (λ b. get_or cells (i * w + b) 0) ≡ row_of w i cells
row_cells w n i cells long h =
    sym (listed_is w (λ b. get_or cells (i * w + b) 0) 0 (row_of w i cells) (length-row_of w i n cells long h)
    (λ b k. get_or-take w (drop (i * w) cells) b 0 k ∙ get_or-drop (i * w) cells b 0))

-- the bucket of a row at the query's column
abbrev pub bucket_of : Query → Row → ℕ
bucket_of query row = slice_index row.buckets (predicate_at query 0).column

-- how many of the rows at the places from low to high - 1 pass
abbrev pub count_between : Query → List Row → ℕ → ℕ → ℕ
count_between query rows low high = length (filter (passes query) (rows_between rows low high))

-- a query with one predicate over the sums of rows whose cells these servers share
pub record AsksSums (s : Sides) (w low high : ℕ) (first second : ℕ → List ℕ) (bits : List ℕ) (query : Query) (weights : ℕ → ℕ → ℕ) (rows : List Row) : Type 0 where
  pub one : query.count ≡ 1
  pub width : w ≡ 2 ^ slice_index bits (predicate_at query 0).column
  pub keys : AreKeys bits (λ k. s.read (s.keys k)) query weights
  pub shared : AreShares first second (flat_map (λ (row : Row). one_hot w (bucket_of query row)) rows)
  pub inside : All (λ (row : Row). bucket_of query row < w) rows
  pub firsts : (k : ℕ) → k < 3 → s.first k ≡ range_sum w (first k) low high
  pub seconds : (k : ℕ) → k < 3 → s.second k ≡ range_sum w (second k) low high

-- the words of server k where nothing was altered
abbrev pub spread : Sides → ℕ → (ℕ → List ℕ) → ℕ → List ℕ → ℕ → ℕ
spread s w first run places k =
    let view = s.read (s.keys k) in
    plus (plus (dot_of (view.party0 run 0) (sum_rows w (first k) places)) (dot_of (view.party1 run 0) (sum_rows w (first ((k + 1) % 3)) places)))
    (minus (pad_of view.own (tree_counter run)) (pad_of (s.read (s.keys ((k + 1) % 3))).own (tree_counter run)))

word_is : (s : Sides) (w low high : ℕ) (first second : ℕ → List ℕ) (bits : List ℕ) (query : Query) (weights : ℕ → ℕ → ℕ) (rows : List Row) (ms : List Message) (run k : ℕ)
    → run < 2 → k < 3 → low ≤ high → AsksSums s w low high first second bits query weights rows → IsTreeTranscript s ms → IsHonest ms
    → get_or (message_at ms (3 + 3 * run + k)).received 0 0 ≡ spread s w first run (range_with_len low (high - low)) k
word_is s w low high first second bits query weights rows ms run k two three order asks t honest =
    let place = 3 + 3 * run + k in
    let inside : place < length ms = omega (arith, t.full) in
    let early : k < length ms = omega (arith, t.full) in
    let fits = t.part.openings run k two three inside in
    let keys : (message_at ms k).received ≡ s.keys k = honest_at ms k honest early ∙ (t.part.keys k three early).words in
    let view = s.read (s.keys k) in
    let c = tree_counter run in
    let places = range_with_len low (high - low) in
    let all = tiles (high - low) low high order (omega arith) in
    let x : s.first k ≡ sum_rows w (first k) places = asks.firsts k three ∙ ap (sum_rows w (first k)) all in
    let y : s.second k ≡ sum_rows w (first ((k + 1) % 3)) places =
    asks.seconds k three ∙ (ap (sum_rows w (second k)) all ∙ ap (λ (l : List ℕ). sum_rows w l places) (asks.shared.next k three)) in
    ap (λ (l : List ℕ). get_or l 0 0) (honest_at ms place honest inside ∙ fits.words)
    ∙ (ap (λ (l : List ℕ). sum_word (s.read l) run (s.first k) (s.second k) c) keys
    ∙ (ap (λ (l : List ℕ). sum_word view run l (s.second k) c) x
    ∙ (ap (λ (l : List ℕ). sum_word view run (sum_rows w (first k) places) l c) y
    ∙ ap (λ (v : Seed). plus (plus (dot_of (view.party0 run 0) (sum_rows w (first k) places)) (dot_of (view.party1 run 0) (sum_rows w (first ((k + 1) % 3)) places)))
    (minus (pad_of view.own c) (pad_of v c))) (asks.keys.seeds k three))))

-- with one predicate a row passes where it is inside
passes_one : (query : Query) (row : Row) → query.count ≡ 1 → passes query row ≡ is_inside (predicate_at query 0) (bucket_of query row)
passes_one query row one =
    let test : Predicate → Bool = λ (p : Predicate). is_inside p (get_or row.buckets p.column 0) in
    ap (λ (n : ℕ). list_all test (listed n (predicate_at query))) one ∙ last (test (predicate_at query 0))
  where
    last : (b : Bool) → b && true ≡ b
    last true = refl
    last false = refl

number : (p : Predicate) (weight bucket : ℕ) → weight_inside p weight bucket % 2 ^ 128 ≡ cond (is_inside p bucket) (times 1 weight) 0
number p weight bucket = ⊎_elim
    (λ (e : is_inside p bucket ≡ true). rw e (omega arith))
    (λ (e : is_inside p bucket ≡ false). rw e (omega arith))
    (cases_Bool (is_inside p bucket))

pub run_opens : (s : Sides) (w low high : ℕ) (first second : ℕ → List ℕ) (bits : List ℕ) (query : Query) (weights : ℕ → ℕ → ℕ) (rows : List Row) (ms : List Message) (run : ℕ)
    → run < 2 → low ≤ high → high ≤ length rows → AsksSums s w low high first second bits query weights rows → IsTreeTranscript s ms → IsHonest ms
    → tree_opened ms run ≡ times (key_from (weights run) 1) (count_between query rows low high)
run_opens s w low high first second bits query weights rows ms run two order there asks t honest =
    let p = predicate_at query 0 in
    let n = high - low in
    let places = range_with_len low n in
    let f : ℕ → ℕ = weight_inside p (weights run 0) in
    let code : Row → List ℕ = λ (row : Row). one_hot w (bucket_of query row) in
    let cells = flat_map code rows in
    let long : length cells ≡ length rows * w = long_rows code w (λ (row : Row). length-listed w (λ (x : ℕ). cond (eqb x (bucket_of query row)) 1 0)) rows in
    let g : Row → ℕ = λ (row : Row). f (bucket_of query row) % 2 ^ 128 in
    let key = times 1 (weights run 0) in
    let some : 0 < query.count = omega (arith, asks.one) in
    let pair = λ (k : ℕ) (h : k < 3). subst (λ (v : ℕ). IsTablePair v ((s.read (s.keys ((k + 1) % 3))).party0 run 0) ((s.read (s.keys k)).party1 run 0) f)
    (sym asks.width) (asks.keys.pairs run 0 k two some h) in
    let k0 : 0 < 3 = omega arith in
    let k1 : 1 < 3 = omega arith in
    let k2 : 2 < 3 = omega arith in
    let p0 = pair 0 k0 in
    let p1 = pair 1 k1 in
    let p2 = pair 2 k2 in
    let v0 = s.read (s.keys 0) in
    let v1 = s.read (s.keys 1) in
    let v2 = s.read (s.keys 2) in
    let c = tree_counter run in
    let x = sum_rows w (first 0) places in
    let y = sum_rows w (first 1) places in
    let z = sum_rows w (first 2) places in
    let three : IsThree (length rows * w) (first 0) (first 1) (first 2) =
    subst (λ (v : ℕ). IsThree v (first 0) (first 1) (first 2)) long asks.shared.long in
    let within : low + n ≤ length rows = omega (arith, order, there) in
    let word = λ (k : ℕ) (h : k < 3). word_is s w low high first second bits query weights rows ms run k two h order asks t honest in
    let sum = bits_add_up w (v0.party0 run 0) (v1.party0 run 0) (v2.party0 run 0) (v0.party1 run 0) (v1.party1 run 0) (v2.party1 run 0) x y z (listed w f)
    (pad_of v0.own c) (pad_of v1.own c) (pad_of v2.own c)
    (record { first = p2.long0; second = p0.long0; third = p1.long0 }) (record { first = p0.long1; second = p1.long1; third = p2.long1 })
    (record { first = length-listed w (sum_at w (first 0) places); second = length-listed w (sum_at w (first 1) places); third = length-listed w (sum_at w (first 2) places) })
    p2.adds_up p0.adds_up p1.adds_up in
    ap (λ (v : ℕ). plus (plus v (get_or (message_at ms (3 + 3 * run + 1)).received 0 0)) (get_or (message_at ms (3 + 3 * run + 2)).received 0 0)) (word 0 k0)
    ∙ (ap (λ (v : ℕ). plus (plus (spread s w first run places 0) v) (get_or (message_at ms (3 + 3 * run + 2)).received 0 0)) (word 1 k1)
    ∙ (ap (λ (v : ℕ). plus (plus (spread s w first run places 0) (spread s w first run places 1)) v) (word 2 k2)
    ∙ (sum
    ∙ (ap (λ (l : List ℕ). dot_of (listed w f) l) (sum_rows3 w (length rows) (first 0) (first 1) (first 2) three low n within ∙ ap (λ (l : List ℕ). sum_rows w l places) asks.shared.adds_up)
    ∙ (dot_of_rows (listed w f) cells w (λ (i : ℕ). g (get_or rows i no_row)) low n
    (λ i a b. let h : i < length rows = omega (arith, within) in
    ap (λ (l : List ℕ). dot_of (listed w f) l)
    (row_cells w (length rows) i cells long h
    ∙ row_of-flat_map code w (λ (row : Row). length-listed w (λ (q : ℕ). cond (eqb q (bucket_of query row)) 1 0)) rows i no_row h)
    ∙ dot_of-code f (bucket_of query (get_or rows i no_row)) w (asks.inside i no_row h))
    ∙ (ap total_of (places_rows g no_row rows n low within)
    ∙ total_passing g (passes query) key (omega arith)
    (λ (row : Row). number p (weights run 0) (bucket_of query row) ∙ ap (λ (b : Bool). cond b key 0) (sym (passes_one query row asks.one))) (rows_between rows low high)))))))

-- the codes of rows at a column, as the buckets say
codes_are : (asked : Asked) (rows : List Row) → (predicate_at asked.query 0).column < asked.widths.columns
    → let c = (predicate_at asked.query 0).column in
    flat_map (code_at asked.widths c) rows ≡ flat_map (λ (row : Row). one_hot (width_of asked.widths c) (bucket_of asked.query row)) rows
codes_are asked [] there = refl
codes_are asked (row ∷ rows) there =
    let c = (predicate_at asked.query 0).column in
    let one : code_at asked.widths c row ≡ one_hot (width_of asked.widths c) (bucket_of asked.query row) =
    code_below asked.widths row c there ∙ ap (λ (w : ℕ). one_hot w (bucket_of asked.query row)) (sym (width_below asked.widths c there)) in
    ap (λ (l : List ℕ). l ++ flat_map (code_at asked.widths c) rows) one
    ∙ ap (λ (l : List ℕ). one_hot (width_of asked.widths c) (bucket_of asked.query row) ++ l) (codes_are asked rows there)

shared_by : (t0 t1 t2 : Tree) (whole : List ℕ) → AreShares (λ (k : ℕ). (by_server t0 t1 t2 k).first) (λ (k : ℕ). (by_server t0 t1 t2 k).second) whole
    → AreShares (by_server t0.first t1.first t2.first) (by_server t0.second t1.second t2.second) whole
shared_by t0 t1 t2 whole s = record {
  next = λ k h. next k h;
  long = s.long;
  adds_up = s.adds_up;
}
  where
    next : (k : ℕ) → k < 3 → by_server t0.second t1.second t2.second k ≡ by_server t0.first t1.first t2.first ((k + 1) % 3)
    next k h = three_same (by_server t0.second t1.second t2.second) (λ (k : ℕ). by_server t0.first t1.first t2.first ((k + 1) % 3))
        (s.next 0 (omega arith)) (s.next 1 (omega arith)) (s.next 2 (omega arith)) k h

asks_sums : (asked : Asked) (rows : List Row) (t0 t1 t2 : Tree) (low high : ℕ) → AsksTrees asked rows (by_server t0 t1 t2)
    → AsksSums (sides_over asked t0 t1 t2 low high) (width_of asked.widths (predicate_at asked.query 0).column) low high
    (by_server t0.first t1.first t2.first) (by_server t0.second t1.second t2.second) asked.widths.bits asked.query (weights_of asked.seed) rows
asks_sums asked rows t0 t1 t2 low high asks = record {
  one = asks.one;
  width = wide;
  keys = asks.keys;
  shared = subst (AreShares (by_server t0.first t1.first t2.first) (by_server t0.second t1.second t2.second)) (codes_are asked rows there) shared;
  inside = λ i d h. rw wide ((asks.hold.held i d h).buckets c narrow);
  firsts = three_same (sides_over asked t0 t1 t2 low high).first (λ (k : ℕ). range_sum (width_of asked.widths c) (by_server t0.first t1.first t2.first k) low high)
      (at t0 (asks.hold.width 0 (omega arith)) t0.first) (at t1 (asks.hold.width 1 (omega arith)) t1.first) (at t2 (asks.hold.width 2 (omega arith)) t2.first);
  seconds = three_same (sides_over asked t0 t1 t2 low high).second (λ (k : ℕ). range_sum (width_of asked.widths c) (by_server t0.second t1.second t2.second k) low high)
      (at t0 (asks.hold.width 0 (omega arith)) t0.second) (at t1 (asks.hold.width 1 (omega arith)) t1.second) (at t2 (asks.hold.width 2 (omega arith)) t2.second);
}
  where
    c : ℕ
    c = (predicate_at asked.query 0).column

    there : c < asked.widths.columns
    there = column_there asked.widths.columns asked.widths.bits asked.query 0 asks.suits (omega (arith, asks.one))

    narrow : c < 6
    narrow = omega (arith, there, asked.widths.legal.1)

    wide : width_of asked.widths c ≡ 2 ^ get_or asked.widths.bits c 0
    wide = width_below asked.widths c there

    shared : AreShares (by_server t0.first t1.first t2.first) (by_server t0.second t1.second t2.second) (flat_map (code_at asked.widths c) rows)
    shared = shared_by t0 t1 t2 (flat_map (code_at asked.widths c) rows) asks.hold.shared

    at : (t : Tree) → t.width ≡ width_of asked.widths c → (cells : List ℕ) → range_sum t.width cells low high ≡ range_sum (width_of asked.widths c) cells low high
    at t e cells = ap (λ (w : ℕ). range_sum w cells low high) e

pub trees_open : TreesOpen
trees_open asked rows t0 t1 t2 low high ms order there asks t honest =
    let n = count_between asked.query rows low high in
    let first = by_server t0.first t1.first t2.first in
    let second = by_server t0.second t1.second t2.second in
    let w = width_of asked.widths (predicate_at asked.query 0).column in
    let over = asks_sums asked rows t0 t1 t2 low high asks in
    let run = λ (r : ℕ) (h : r < 2). run_opens (sides_over asked t0 t1 t2 low high) w low high first second asked.widths.bits asked.query (weights_of asked.seed) rows ms r
    h order there over t honest in
    let answer : word_of (plain asked.query (rows_between rows low high)) ≡ n % 2 ^ 128 =
    ap (λ (a : Aggregate). word_of (answer_of a (filter (passes asked.query) (rows_between rows low high)))) asks.count in
    let key = key_from (weights_of asked.seed 1) 1 in (
      run 0 (omega arith) ∙ (one_times n ∙ sym answer),
      run 1 (omega arith) ∙ (small_times key n ∙ ap (times key) (sym answer)),
    )
  where
    one_times : (n : ℕ) → times (times 1 1) n ≡ n % 2 ^ 128
    one_times n = omega arith

    small_times : (key n : ℕ) → times key n ≡ times key (n % 2 ^ 128)
    small_times key n = simp inward (omega arith)
