-- Sums that are made row by row.
use Rattle.std.proofs.Math.Seq.{take-append_seam, drop-append-add}
use Rattle.std.proofs.lemmas.List.{drop-append-le, take-append-le, length-drop, length-take, get_or-take, get_or-drop}
use Rattle.std.proofs.lemmas.Nat.{mul-le}
use Rattle.std.proofs.Common.{take, drop, ◌++◌, ◌≡◌, ◌∙◌, refl, sym, ap, ℕ, zero, suc, ◌+◌, ◌-◌, ◌*◌, ◌^◌, ◌<◌, ◌≤◌, List, [], ◌∷◌, length, get_or, All, arith}
use Rattle.std.specs.List.{AllZip}
use Rattle.list_facts.specs.Listed.{listed}
use Rattle.list_facts.proofs.Listed.{length-listed, get_or-listed, listed_is, listed_same}
use Rattle.ring128.specs.Ring.{plus, times, dot_of, sums, sums3}
use Rattle.ring128.proofs.Laws.{inward, length-sums}
use Rattle.share_product.specs.Product.{local_of, inner_of}
use Rattle.scan_chunks.specs.Pieces.{row_of, chunk_of}
use Rattle.scan_chunks.proofs.Chunks.{row_in_chunk, rows_in}
use Rattle.bucket_groups.specs.Ending.{places_of, sums_of, with_rows}

-- the local product of a pair with a pair of cells, by two products of which one factor each is the same for all cells
pub local_by_both : (f s x y : ℕ) → plus (times (plus f s) x) (times f y) ≡ local_of f s x y
local_by_both f s x y = simp inward (omega arith)

-- the sum of the first numbers
abbrev pub sum_to : (ℕ → ℕ) → ℕ → ℕ
sum_to f zero = 0
sum_to f (suc n) = plus (sum_to f n) (f n)

pub sum_to_more : (f : ℕ → ℕ) (n : ℕ) → sum_to f (n + 1) ≡ plus (sum_to f n) (f n)
sum_to_more f n = let e : n + 1 ≡ suc n = omega arith in ap (sum_to f) e

sum_to_front : (f : ℕ → ℕ) (n : ℕ) → sum_to f (suc n) ≡ plus (f 0) (sum_to (λ i. f (suc i)) n)
sum_to_front f zero = omega arith
sum_to_front f (suc n) = omega (arith, sum_to_front f n)

sum_to_same : (f g : ℕ → ℕ) (n : ℕ) → ((i : ℕ) → i < n → f i ≡ g i) → sum_to f n ≡ sum_to g n
sum_to_same f g zero e = refl
sum_to_same f g (suc n) e = rw (sum_to_same f g n (λ i h. e i (omega arith)), e n (omega arith))

sum_to-below : (f : ℕ → ℕ) (n : ℕ) → sum_to f n < 2 ^ 128
sum_to-below f zero = omega arith
sum_to-below f (suc n) = omega arith

dot_to : (n : ℕ) (xs ys : List ℕ) → length xs ≡ n → length ys ≡ n → dot_of xs ys ≡ sum_to (λ i. times (get_or xs i 0) (get_or ys i 0)) n
dot_to zero [] ys e f = refl
dot_to (suc n) [] ys e f = absurd (omega arith)
dot_to zero (x ∷ xs) ys e f = absurd (omega arith)
dot_to (suc n) (x ∷ xs) [] e f = absurd (omega arith)
dot_to (suc n) (x ∷ xs) (y ∷ ys) e f =
    ap (λ (m : ℕ). plus (times x y) m) (dot_to n xs ys (omega arith) (omega arith))
    ∙ sym (sum_to_front (λ i. times (get_or (x ∷ xs) i 0) (get_or (y ∷ ys) i 0)) n)

three_sums : (f g h : ℕ → ℕ) (n : ℕ) → sum_to (λ i. plus (plus (f i) (g i)) (h i)) n ≡ plus (plus (sum_to f n) (sum_to g n)) (sum_to h n)
three_sums f g h zero = omega arith
three_sums f g h (suc n) = omega (arith, three_sums f g h n)

-- the sum over the rows of the local products at bucket b
abbrev pub cell_sum : List ℕ → List ℕ → List ℕ → List ℕ → ℕ → ℕ → ℕ → ℕ
cell_sum a a' x y w b i =
    sum_to (λ i. local_of (get_or a i 0) (get_or a' i 0) (get_or (row_of w i x) b 0) (get_or (row_of w i y) b 0)) i

inner_to : (n : ℕ) (a a' b b' : List ℕ) → length a ≡ n → length a' ≡ n → length b ≡ n → length b' ≡ n
    → inner_of a a' b b' ≡ sum_to (λ i. local_of (get_or a i 0) (get_or a' i 0) (get_or b i 0) (get_or b' i 0)) n
inner_to n a a' b b' e f g h =
    rw (dot_to n a b e g, dot_to n a b' e h, dot_to n a' b f g)
    (sym (three_sums (λ i. times (get_or a i 0) (get_or b i 0)) (λ i. times (get_or a i 0) (get_or b' i 0)) (λ i. times (get_or a' i 0) (get_or b i 0)) n))

-- the same for the cells of a bucket
inner_is : (n w b : ℕ) (a a' x y : List ℕ) → length a ≡ n → length a' ≡ n → inner_of a a' (places_of n w b x) (places_of n w b y) ≡ cell_sum a a' x y w b n
inner_is n w b a a' x y e f =
    inner_to n a a' (places_of n w b x) (places_of n w b y) e f (length-listed n _) (length-listed n _)
    ∙ sum_to_same
    (λ i. local_of (get_or a i 0) (get_or a' i 0) (get_or (places_of n w b x) i 0) (get_or (places_of n w b y) i 0))
    (λ i. local_of (get_or a i 0) (get_or a' i 0) (get_or (row_of w i x) b 0) (get_or (row_of w i y) b 0)) n
    (λ i h. rw (get_or-listed n i (λ i. get_or (row_of w i x) b 0) 0 h, get_or-listed n i (λ i. get_or (row_of w i y) b 0) 0 h) refl)

pub all_rows : (n w : ℕ) (a a' x y : List ℕ) → length a ≡ n → length a' ≡ n → listed w (λ b. cell_sum a a' x y w b n) ≡ sums_of n w a a' x y
all_rows n w a a' x y e f =
    listed_same w _ _ (λ b _. sym (inner_is n w b a a' x y e f))

-- no rows yet
pub no_rows : (w : ℕ) (a a' x y zeros : List ℕ) → length zeros ≡ w → ((b : ℕ) → b < w → get_or zeros b 0 ≡ 0) → zeros ≡ listed w (λ b. cell_sum a a' x y w b 0)
no_rows w a a' x y zeros long none = listed_is w (λ b. cell_sum a a' x y w b 0) 0 zeros long none

-- the sums of some rows are numbers of the ring
pub sums_small : (w i : ℕ) (a a' x y sums : List ℕ) → sums ≡ listed w (λ b. cell_sum a a' x y w b i) → All (λ n. n < 2 ^ 128) sums
sums_small w i a a' x y sums e = λ k d h.
    let there : k < w = omega (arith, ap length e, length-listed w (λ b. cell_sum a a' x y w b i)) in
    let at : get_or sums k d ≡ cell_sum a a' x y w k i = ap (λ (l : List ℕ). get_or l k d) e ∙ get_or-listed w k (λ b. cell_sum a a' x y w b i) d there in
    let below = sum_to-below (λ i. local_of (get_or a i 0) (get_or a' i 0) (get_or (row_of w i x) k 0) (get_or (row_of w i y) k 0)) i in
    omega (arith, at, below)

-- sums to which those of the first i rows were added
abbrev pub added_to : List ℕ → List ℕ → List ℕ → List ℕ → List ℕ → ℕ → List ℕ
added_to old a a' x y i = let w = length old in listed w (λ b. plus (get_or old b 0) (cell_sum a a' x y w b i))

pub added_none : (old a a' x y : List ℕ) → All (λ n. n < 2 ^ 128) old → old ≡ added_to old a a' x y 0
added_none old a a' x y small =
    listed_is (length old) (λ b. plus (get_or old b 0) 0) 0 old refl (λ b h. let s = small b 0 h in omega (arith, s))

pub added_small : (old a a' x y sums : List ℕ) (i : ℕ) → sums ≡ added_to old a a' x y i → All (λ n. n < 2 ^ 128) sums
added_small old a a' x y sums i e = λ k d h.
    let w = length old in
    let f : ℕ → ℕ = λ b. plus (get_or old b 0) (cell_sum a a' x y w b i) in
    let there : k < w = omega (arith, ap length e, length-listed w f) in
    let at : get_or sums k d ≡ f k = ap (λ (l : List ℕ). get_or l k d) e ∙ get_or-listed w k f d there in
    omega (arith, at)

pub added_long : (old a a' x y sums : List ℕ) (i : ℕ) → sums ≡ added_to old a a' x y i → length sums ≡ length old
added_long old a a' x y sums i e = ap length e ∙ length-listed (length old) _

-- more is added at each bucket
at_buckets : (w : ℕ) (before : List ℕ) (g part h : ℕ → ℕ) → before ≡ listed w g → ((b : ℕ) → b < w → plus (g b) (part b) ≡ h b)
    → listed (length before) (λ b. plus (get_or before b 0) (part b)) ≡ listed w h
at_buckets w before g part h e same =
    ap (λ (n : ℕ). listed n (λ b. plus (get_or before b 0) (part b))) (ap length e ∙ length-listed w g)
    ∙ listed_same w _ _
    (λ b k. ap (λ (l : List ℕ). plus (get_or l b 0) (part b)) e ∙ ap (λ (m : ℕ). plus m (part b)) (get_or-listed w b g 0 k) ∙ same b k)

-- a row more
pub row_more : (i : ℕ) (old a a' x y before : List ℕ) (p q : ℕ) (near far : List ℕ) → before ≡ added_to old a a' x y i
    → p ≡ get_or a i 0 → q ≡ get_or a' i 0 → near ≡ row_of (length old) i x → far ≡ row_of (length old) i y
    → listed (length before) (λ b. plus (get_or before b 0) (local_of p q (get_or near b 0) (get_or far b 0))) ≡ added_to old a a' x y (i + 1)
row_more i old a a' x y before p q near far e0 e1 e2 e3 e4 =
    let w = length old in
    at_buckets w before (λ b. plus (get_or old b 0) (cell_sum a a' x y w b i)) (λ b. local_of p q (get_or near b 0) (get_or far b 0)) _ e0
    (λ b _.
    let more = sum_to_more (λ i. local_of (get_or a i 0) (get_or a' i 0) (get_or (row_of w i x) b 0) (get_or (row_of w i y) b 0)) i in
    rw (e1, e2, e3, e4) (omega (arith, more)))

-- some rows, and k more
sum_to_split : (f : ℕ → ℕ) (n k : ℕ) → plus (sum_to f n) (sum_to (λ i. f (n + i)) k) ≡ sum_to f (n + k)
sum_to_split f n zero =
    let none : sum_to (λ i. f (n + i)) 0 ≡ 0 = refl in
    let at : n + 0 ≡ n = omega arith in
    rw (none, at) (omega (arith, sum_to-below f n))
sum_to_split f n (suc k) = let e : n + suc k ≡ suc (n + k) = omega arith in rw e (omega (arith, sum_to_split f n k))

-- the rows from n on are these
pub record AreRows (n k w : ℕ) (a a' x y f s u v : List ℕ) : Type 0 where
  pub first : (i : ℕ) → i < k → get_or f i 0 ≡ get_or a (n + i) 0
  pub second : (i : ℕ) → i < k → get_or s i 0 ≡ get_or a' (n + i) 0
  pub near : (i : ℕ) → i < k → row_of w i u ≡ row_of w (n + i) x
  pub far : (i : ℕ) → i < k → row_of w i v ≡ row_of w (n + i) y

cells_more : (n k w b : ℕ) (a a' x y f s u v : List ℕ) → AreRows n k w a a' x y f s u v
    → plus (cell_sum a a' x y w b n) (cell_sum f s u v w b k) ≡ cell_sum a a' x y w b (n + k)
cells_more n k w b a a' x y f s u v rows =
    ap (λ (m : ℕ). plus (cell_sum a a' x y w b n) m)
    (sum_to_same (λ i. local_of (get_or f i 0) (get_or s i 0) (get_or (row_of w i u) b 0) (get_or (row_of w i v) b 0))
    (λ i. local_of (get_or a (n + i) 0) (get_or a' (n + i) 0) (get_or (row_of w (n + i) x) b 0) (get_or (row_of w (n + i) y) b 0)) k
    (λ i h. rw (rows.first i h, rows.second i h, rows.near i h, rows.far i h) refl))
    ∙ sum_to_split (λ i. local_of (get_or a i 0) (get_or a' i 0) (get_or (row_of w i x) b 0) (get_or (row_of w i y) b 0)) n k

-- the sums so far, with those of more rows
pub rows_added : (n k : ℕ) (old a a' x y before f s u v after : List ℕ) → before ≡ added_to old a a' x y n → length f ≡ k → length s ≡ k
    → AreRows n k (length old) a a' x y f s u v → after ≡ with_rows before f s u v → after ≡ added_to old a a' x y (n + k)
rows_added n k old a a' x y before f s u v after e ef es rows made =
    let w = length old in
    let long : length before ≡ w = added_long old a a' x y before n e in
    made
    ∙ at_buckets w before (λ b. plus (get_or old b 0) (cell_sum a a' x y w b n))
    (λ b. inner_of f s (places_of (length f) (length before) b u) (places_of (length f) (length before) b v))
    (λ b. plus (get_or old b 0) (cell_sum a a' x y w b (n + k))) e
    (λ b _.
    let part : inner_of f s (places_of (length f) (length before) b u) (places_of (length f) (length before) b v) ≡ cell_sum f s u v w b k =
    rw (long, ef) (inner_is k w b f s u v ef es) in
    omega (arith, part, cells_more n k w b a a' x y f s u v rows))

pub sums_added : (n k w : ℕ) (a a' x y before f s u v after : List ℕ) → before ≡ listed w (λ b. cell_sum a a' x y w b n) → length f ≡ k → length s ≡ k
    → AreRows n k w a a' x y f s u v → after ≡ with_rows before f s u v → after ≡ listed w (λ b. cell_sum a a' x y w b (n + k))
sums_added n k w a a' x y before f s u v after e ef es rows made =
    let long : length before ≡ w = ap length e ∙ length-listed w _ in
    made
    ∙ at_buckets w before (λ b. cell_sum a a' x y w b n)
    (λ b. inner_of f s (places_of (length f) (length before) b u) (places_of (length f) (length before) b v))
    (λ b. cell_sum a a' x y w b (n + k)) e
    (λ b _.
    let part : inner_of f s (places_of (length f) (length before) b u) (places_of (length f) (length before) b v) ≡ cell_sum f s u v w b k =
    rw (long, ef) (inner_is k w b f s u v ef es) in
    ap (λ (m : ℕ). plus (cell_sum a a' x y w b n) m) part ∙ cells_more n k w b a a' x y f s u v rows)

-- what was added of all rows
pub added_all : (old a a' x y : List ℕ) → length a' ≡ length a → added_to old a a' x y (length a) ≡ with_rows old a a' x y
added_all old a a' x y e =
    let w = length old in
    listed_same w _ _ (λ b _. ap (λ (m : ℕ). plus (get_or old b 0) m) (sym (inner_is (length a) w b a a' x y refl e)))

-- numbers of a part of a list
part_at : (n k i : ℕ) (xs : List ℕ) → i < k → get_or (take k (drop n xs)) i 0 ≡ get_or xs (n + i) 0
part_at n k i xs h = get_or-take k (drop n xs) i 0 h ∙ get_or-drop n xs i 0

-- a pair a row of a chunk
pub pairs_long : (c rows count : ℕ) (a : List ℕ) → length a ≡ rows → count ≡ rows_in rows c → length (take (64 * c + count - 64 * c) (drop (64 * c) a)) ≡ rows_in rows c
pairs_long c rows count a e is = omega (arith, length-take (64 * c + count - 64 * c) (drop (64 * c) a), length-drop (64 * c) a, e, is)

-- the rows of a chunk
pub chunk_rows : (c k w : ℕ) (a a' x y f s u v : List ℕ) → k ≤ 64 → f ≡ take k (drop (64 * c) a) → s ≡ take k (drop (64 * c) a')
    → u ≡ chunk_of w c x → v ≡ chunk_of w c y → AreRows (64 * c) k w a a' x y f s u v
chunk_rows c k w a a' x y f s u v few ef es eu ev = record {
  first = λ i h. ap (λ (l : List ℕ). get_or l i 0) ef ∙ part_at (64 * c) k i a h;
  second = λ i h. ap (λ (l : List ℕ). get_or l i 0) es ∙ part_at (64 * c) k i a' h;
  near = λ i h. ap (row_of w i) eu ∙ row_in_chunk w c i x (omega arith);
  far = λ i h. ap (row_of w i) ev ∙ row_in_chunk w c i y (omega arith);
}

-- a row of the first rows, and one of those after them
row_before : (w i m : ℕ) (xs us : List ℕ) → length xs ≡ m * w → i < m → row_of w i (xs ++ us) ≡ row_of w i xs
row_before w i m xs us e h =
    let room : (i + 1) * w ≤ m * w = mul-le (i + 1) w m w (omega arith) (omega arith) in
    let start : i * w ≤ length xs = omega (arith, room) in
    let fits : w ≤ length (drop (i * w) xs) = omega (arith, length-drop (i * w) xs, room) in
    ap (take w) (drop-append-le (i * w) xs us start) ∙ take-append-le w (drop (i * w) xs) us fits

row_after : (w i m : ℕ) (xs us : List ℕ) → length xs ≡ m * w → row_of w (m + i) (xs ++ us) ≡ row_of w i us
row_after w i m xs us e =
    let at : (m + i) * w ≡ length xs + i * w = omega arith in
    ap (λ (n : ℕ). take w (drop n (xs ++ us))) at ∙ ap (take w) (drop-append-add xs us (i * w))

-- the sums of the first rows don't change where cells are appended
pub cells_front : (n w : ℕ) (a a' x y u v before : List ℕ) → length x ≡ n * w → length y ≡ n * w → before ≡ listed w (λ b. cell_sum a a' x y w b n)
    → before ≡ listed w (λ b. cell_sum a a' (x ++ u) (y ++ v) w b n)
cells_front n w a a' x y u v before ex ey e =
    e
    ∙ listed_same w _ _
    (λ b _.
    sum_to_same (λ i. local_of (get_or a i 0) (get_or a' i 0) (get_or (row_of w i x) b 0) (get_or (row_of w i y) b 0))
    (λ i. local_of (get_or a i 0) (get_or a' i 0) (get_or (row_of w i (x ++ u)) b 0) (get_or (row_of w i (y ++ v)) b 0)) n
    (λ i h. rw (row_before w i n x u ex h, row_before w i n y v ey h) refl))

-- the rows of a shelf
pub shelf_rows : (n k w : ℕ) (a a' x y u v f s : List ℕ) → length x ≡ n * w → length y ≡ n * w → f ≡ take k (drop n a) → s ≡ take k (drop n a')
    → AreRows n k w a a' (x ++ u) (y ++ v) f s u v
shelf_rows n k w a a' x y u v f s ex ey ef es = record {
  first = λ i h. ap (λ (l : List ℕ). get_or l i 0) ef ∙ part_at n k i a h;
  second = λ i h. ap (λ (l : List ℕ). get_or l i 0) es ∙ part_at n k i a' h;
  near = λ i h. sym (row_after w i n x u ex);
  far = λ i h. sym (row_after w i n y v ey);
}

-- the shelves so far, and one more: of the rows only their pairs are taken
pub shelf_more : (from k w : ℕ) (a a' x y u v before f s after : List ℕ) → length x ≡ from * w → length y ≡ from * w
    → before ≡ listed w (λ b. cell_sum a a' x y w b from) → from + k ≤ length a → from + k ≤ length a'
    → f ≡ take (from + k - from) (drop from a) → s ≡ take (from + k - from) (drop from a') → after ≡ with_rows before f s u v
    → after ≡ listed w (λ b. cell_sum a a' (x ++ u) (y ++ v) w b (from + k))
shelf_more from k w a a' x y u v before f s after ex ey e ha ha' ef es made =
    let part : from + k - from ≡ k = omega arith in
    let f' : f ≡ take k (drop from a) = ef ∙ ap (λ (m : ℕ). take m (drop from a)) part in
    let s' : s ≡ take k (drop from a') = es ∙ ap (λ (m : ℕ). take m (drop from a')) part in
    let lf : length f ≡ k = ap length f' ∙ omega (arith, length-take k (drop from a), length-drop from a) in
    let ls : length s ≡ k = ap length s' ∙ omega (arith, length-take k (drop from a'), length-drop from a') in
    sums_added from k w a a' (x ++ u) (y ++ v) before f s u v after (cells_front from w a a' x y u v before ex ey e) lf ls
    (shelf_rows from k w a a' x y u v f s ex ey f' s') made

-- each shelf as it was
pub zip_same : {A : Type 0} (Q : A → A → Type 0) → ((x : A) → Q x x) → (xs : List A) → AllZip Q xs xs
zip_same Q same [] = tt
zip_same Q same (x ∷ xs) = (same x, zip_same Q same xs)

-- a vector that was changed in place
pub put_back : (len : ℕ) (now before : List ℕ) → len ≡ length before → length now ≡ length before → take len (now ++ drop (length now) before) ≡ now
put_back len now before e f = let at : len ≡ length now = omega arith in rw at (take-append_seam now (drop (length now) before))

-- two lists that were added to a vector in place
pub added_twice : (len : ℕ) (r0 r1 r2 items d1 s1 t1 d2 s2 t2 : List ℕ) → items ≡ r0 → len ≡ length items → length r1 ≡ length r0 → length r2 ≡ length r0
    → d1 ≡ items → s1 ≡ r1 → t1 ≡ sums d1 s1 → d2 ≡ take len (t1 ++ drop (length t1) items) → s2 ≡ r2 → t2 ≡ sums d2 s2
    → take len (t2 ++ drop (length t2) (take len (t1 ++ drop (length t1) items))) ≡ sums3 r0 r1 r2
added_twice len r0 r1 r2 items d1 s1 t1 d2 s2 t2 ei el l1 l2 ed es et ed2 es2 et2 =
    let first : t1 ≡ sums r0 r1 = et ∙ rw (ed, es, ei) in
    let long1 : length t1 ≡ length r0 = ap length first ∙ length-sums r0 r1 (sym l1) in
    let back1 : take len (t1 ++ drop (length t1) items) ≡ t1 = put_back len t1 items el (long1 ∙ sym (ap length ei)) in
    let second : t2 ≡ sums (sums r0 r1) r2 = et2 ∙ ap (λ (l : List ℕ). sums l s2) (ed2 ∙ back1 ∙ first) ∙ ap (λ (l : List ℕ). sums (sums r0 r1) l) es2 in
    let mid : length (sums r0 r1) ≡ length r2 = length-sums r0 r1 (sym l1) ∙ sym l2 in
    let long2 : length t2 ≡ length r0 = ap length second ∙ length-sums (sums r0 r1) r2 mid ∙ length-sums r0 r1 (sym l1) in
    let whole : length (take len (t1 ++ drop (length t1) items)) ≡ length r0 = ap length back1 ∙ long1 in
    put_back len t2 (take len (t1 ++ drop (length t1) items)) (el ∙ ap length ei ∙ sym whole) (long2 ∙ sym whole) ∙ second
