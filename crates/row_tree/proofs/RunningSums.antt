-- Running sums, and the sums of rows from them.
use Rattle.std.proofs.Common.{◌≡◌, ℕ, zero, suc, ◌+◌, ◌*◌, ◌-◌, ◌%◌, ◌^◌, ◌<◌, ◌≤◌, Bool, true, false, cond, ltb, List, [], ◌∷◌, ◌++◌, length, get_or, map, refl, sym, ap, subst, ⊎_elim, ◌∙◌, arith, length-append, append-nil, append_assoc, take, Result, Ok, Err, OnErr, OnOk}
use Rattle.std.specs.Result.{is_ok}
use Rattle.std.specs.List.{range_with_len}
use Rattle.std.proofs.lemmas.List.{get_or_append_left}
use Rattle.std.proofs.Math.Seq.{get_or-append_seam, take-append_seam}
use Rattle.std.proofs.lemmas.Bool.{cases_Bool, ltb-true, ltb-false, lt-ltb, le-ltb}
use Rattle.std.proofs.lemmas.Nat.{mul-le}
use Rattle.list_facts.specs.Listed.{listed}
use Rattle.list_facts.proofs.Listed.{length-listed, get_or-listed, listed_more, listed_same}
use Rattle.ring128.specs.Ring.{plus, minus, total_of}
use Rattle.std.proofs.lemmas.List.{length-take, take_all}
use Rattle.std.proofs.Math.Pow.{pow_mono}
use Rattle.scan_chunks.specs.Pieces.{chunk_of, chunks_of}
use Rattle.scan_chunks.proofs.Chunks.{all_chunks, chunk_more}
use Rattle.scan_chunks.specs.declared.visit.Visit.{Visit}
use Rattle.scan_chunks.specs.Scan.{VisitsPart}
use Rattle.row_tree.specs.Running.{GrownFrom, before_of, cell_in, cells_in, last_of}
use Rattle.row_tree.specs.Sums.{sum_at, sum_rows}

last_same : (w : ℕ) (sums : List ℕ) (y i : ℕ) → 0 < w → i < length sums + 1 → last_of w (sums ++ y ∷ []) i ≡ last_of w sums i
last_same w sums y i some h = ⊎_elim
    (λ (e : ltb i w ≡ true). rw e refl)
    (λ (e : ltb i w ≡ false). rw e (get_or_append_left sums (y ∷ []) 0 (i - w) (omega (arith, ltb-false i w e))))
    (cases_Bool (ltb i w))

taken_off : (x y : ℕ) → x < 2 ^ 128 → minus (plus x y) y ≡ x
taken_off x y h = omega arith

-- one running sum more
pub cells_more : (w : ℕ) (sums : List ℕ) (x : ℕ) → 0 < w → x < 2 ^ 128
    → cells_in w (sums ++ plus x (last_of w sums (length sums)) ∷ []) ≡ cells_in w sums ++ x ∷ []
cells_more w sums x some small =
    let n = length sums in
    let y = plus x (last_of w sums n) in
    let all = sums ++ y ∷ [] in
    let long : length all ≡ n + 1 = length-append sums (y ∷ []) in
    let old : listed n (cell_in w all) ≡ listed n (cell_in w sums) =
    listed_same n (cell_in w all) (cell_in w sums)
    (λ i h. ap (λ v. minus v (last_of w all i)) (get_or_append_left sums (y ∷ []) 0 i h)
    ∙ ap (λ v. minus (get_or sums i 0) v) (last_same w sums y i some (omega arith))) in
    let new : cell_in w all n ≡ x =
    ap (λ v. minus v (last_of w all n)) (get_or-append_seam sums y [] 0)
    ∙ (ap (λ v. minus y v) (last_same w sums y n some (omega arith)) ∙ taken_off x (last_of w sums n) small) in
    ap (λ k. listed k (cell_in w all)) long
    ∙ (sym (listed_more n (cell_in w all)) ∙ (ap (λ (l : List ℕ). l ++ cell_in w all n ∷ []) old ∙ ap (λ v. cells_in w sums ++ v ∷ []) new))

-- a cell is what the running sum grew by
cell_at : (w rows : ℕ) (sums : List ℕ) (i b : ℕ) → length sums ≡ rows * w → i < rows → b < w
    → get_or (cells_in w sums) (i * w + b) 0 ≡ minus (before_of w sums (suc i) b) (before_of w sums i b)
cell_at w rows sums i b long there small =
    get_or-listed (length sums) (i * w + b) (cell_in w sums) 0 inside ∙ ap (λ v. minus (get_or sums (i * w + b) 0) v) (last i)
  where
    inside : i * w + b < length sums
    inside =
        let up = mul-le (i + 1) w rows w (omega arith) (omega arith) in
        let split : (i + 1) * w ≡ i * w + w = omega arith in
        omega (arith, up, split, long)

    last : (k : ℕ) → last_of w sums (k * w + b) ≡ before_of w sums k b
    last zero = let e : ltb (0 * w + b) w ≡ true = lt-ltb (0 * w + b) w (omega arith) in rw e refl
    last (suc k) =
        let split : suc k * w ≡ k * w + w = omega arith in
        let e : ltb (suc k * w + b) w ≡ false = le-ltb (suc k * w + b) w (omega (arith, split)) in
        let less : suc k * w + b - w ≡ k * w + b = omega (arith, split) in
        rw (e, less) refl

steps_add : (p q r : ℕ) → plus (minus q p) (minus r q) ≡ minus r p
steps_add p q r = omega arith

none_more : (p : ℕ) → 0 ≡ minus p p
none_more p = omega arith

-- the sum of the rows from a place on is what the running sums grew by
pub between : (w rows : ℕ) (sums : List ℕ) (n from b : ℕ) → length sums ≡ rows * w → from + n ≤ rows → b < w
    → sum_at w (cells_in w sums) (range_with_len from n) b ≡ minus (before_of w sums (from + n) b) (before_of w sums from b)
between w rows sums zero from b long there small =
    let e : from + 0 ≡ from = omega arith in rw e (none_more (before_of w sums from b))
between w rows sums (suc n) from b long there small =
    let e : from + suc n ≡ from + 1 + n = omega arith in
    let f : from + 1 ≡ suc from = omega arith in
    let rest = between w rows sums n (from + 1) b long (omega arith) small in
    let here = cell_at w rows sums from b long (omega arith) small in
    let last = before_of w sums (from + 1 + n) b in
    let tail = sum_at w (cells_in w sums) (range_with_len (from + 1) n) b in
    ap (λ v. plus v tail) here
    ∙ (ap (λ v. plus (minus (before_of w sums (suc from) b) (before_of w sums from b)) v) (rest ∙ ap (λ k. minus last (before_of w sums k b)) f)
    ∙ (steps_add (before_of w sums from b) (before_of w sums (suc from) b) last ∙ ap (λ k. minus (before_of w sums k b) (before_of w sums from b)) (sym e)))

pub rows_between : (w rows : ℕ) (sums : List ℕ) (from n : ℕ) → length sums ≡ rows * w → from + n ≤ rows
    → listed w (λ b. minus (before_of w sums (from + n) b) (before_of w sums from b)) ≡ sum_rows w (cells_in w sums) (range_with_len from n)
rows_between w rows sums from n long there =
    listed_same w (λ b. minus (before_of w sums (from + n) b) (before_of w sums from b)) (sum_at w (cells_in w sums) (range_with_len from n))
    (λ b small. sym (between w rows sums n from b long there small))

-- in a loop over the cells
pub run_more : (w : ℕ) (old now : List ℕ) (cells : List ℕ) (k x : ℕ) → 0 < w → x < 2 ^ 128 → cells_in w now ≡ cells_in w old ++ take k cells
    → take (k + 1) cells ≡ take k cells ++ x ∷ []
    → cells_in w (now ++ plus x (last_of w now (length now)) ∷ []) ≡ cells_in w old ++ take (k + 1) cells
run_more w old now cells k x some small so_far more =
    cells_more w now x some small
    ∙ (ap (λ (l : List ℕ). l ++ x ∷ []) so_far
    ∙ (append_assoc (cells_in w old) (take k cells) (x ∷ []) ∙ ap (λ (l : List ℕ). cells_in w old ++ l) (sym more)))

-- a list that grew further
pub grown_more : (old now new more : List ℕ) → GrownFrom old now → new ≡ now ++ more → GrownFrom old new
grown_more old now new more g e = (g.0 ++ more, e ∙ (ap (λ (l : List ℕ). l ++ more) g.1 ∙ append_assoc old g.0 more))

pub grown_none : (old : List ℕ) → GrownFrom old old
grown_none old = ([], sym (append-nil old))

-- and what is left of it where the old length is cut off
pub grown_cut : (old new : List ℕ) → GrownFrom old new → take (length old) new ≡ old
grown_cut old new g = ap (take (length old)) g.1 ∙ take-append_seam old g.0

-- the rows of two lists of rows, in words
pub rows_more : (m n w a b c : ℕ) → c ≡ a + b → a ≡ m * w → b ≡ n * w → c ≡ (m + n) * w
rows_more m n w a b c e f g = let split : (m + n) * w ≡ m * w + n * w = omega arith in omega (arith, e, f, g, split)

pub visited_all : (old new wanted : List Visit) → new ≡ old ++ wanted → VisitsPart old new wanted
visited_all old new wanted e = (length wanted, e ∙ ap (λ l. old ++ l) (sym (take_all (length wanted) wanted (omega arith))))

-- a node that is there is not high, and its places are there
pub low_node : (index height rows : ℕ) → (index + 1) * 2 ^ height ≤ rows → rows ≤ 65536 → height < 17
low_node index height rows there few = ⊎_elim
    (λ (yes : ltb height 17 ≡ true). ltb-true height 17 yes)
    (λ (e : ltb height 17 ≡ false).
    let big : 2 ^ 17 ≤ 2 ^ height = pow_mono {i = 17} {j = height} (ltb-false height 17 e) in
    let split : (index + 1) * 2 ^ height ≡ index * 2 ^ height + 2 ^ height = omega arith in
    absurd (omega (arith, big, split, there, few)))
    (cases_Bool (ltb height 17))

pub on_err : {T E : Type 0} (r : Result T E) (P : Type 0) → P → OnErr r P
on_err (Ok x) P p = tt
on_err (Err e) P p = p

-- two lists that were appended, one after the other
pub grown_both : (old now new : List ℕ) → GrownFrom old now → GrownFrom now new → GrownFrom old new
grown_both old now new g h = grown_more old now new h.0 g h.1

-- there is room for the next chunk
pub chunk_fits : (w rows c room : ℕ) (old now cells chunk : List ℕ) → length cells ≡ rows * w → length old + rows * w ≤ room
    → cells_in w now ≡ cells_in w old ++ take (64 * w * c) cells → chunk ≡ chunk_of w c cells → length now + length chunk ≤ room
chunk_fits w rows c room old now cells chunk all fits so_far is =
    let a = ap length so_far in
    let b = length-append (cells_in w old) (take (64 * w * c) cells) in
    let more = ap length (chunk_more w c cells) in
    let d = length-append (take (64 * w * c) cells) (chunk_of w c cells) in
    let e = length-take (64 * w * (c + 1)) cells in
    omega (arith, a, b, more, d, e, all, fits, ap length is, length-listed (length now) (cell_in w now), length-listed (length old) (cell_in w old))

-- the cells of one chunk more
pub chunk_added : (w c : ℕ) (old now new cells chunk : List ℕ) → cells_in w now ≡ cells_in w old ++ take (64 * w * c) cells → chunk ≡ chunk_of w c cells
    → cells_in w new ≡ cells_in w now ++ chunk → cells_in w new ≡ cells_in w old ++ take (64 * w * (c + 1)) cells
chunk_added w c old now new cells chunk so_far is more =
    more ∙ (ap (λ (l : List ℕ). l ++ chunk) so_far
    ∙ (append_assoc (cells_in w old) (take (64 * w * c) cells) chunk
    ∙ (ap (λ (l : List ℕ). cells_in w old ++ (take (64 * w * c) cells ++ l)) is ∙ ap (λ (l : List ℕ). cells_in w old ++ l) (sym (chunk_more w c cells)))))

-- no chunk yet, and all of them
pub none_added : (w : ℕ) (old cells : List ℕ) → cells_in w old ≡ cells_in w old ++ take (64 * w * 0) cells
none_added w old cells = let none : 64 * w * 0 ≡ 0 = omega arith in rw none (sym (append-nil (cells_in w old)))

pub all_added : (w rows c : ℕ) (old new cells : List ℕ) → length cells ≡ rows * w → c ≡ chunks_of rows → cells_in w new ≡ cells_in w old ++ take (64 * w * c) cells
    → cells_in w new ≡ cells_in w old ++ cells
all_added w rows c old new cells all end so_far =
    so_far ∙ ap (λ (l : List ℕ). cells_in w old ++ l) (ap (λ (n : ℕ). take (64 * w * n) cells) end ∙ all_chunks w rows cells all)

-- how long the sums are, from how many cells they have
pub sums_long : (w : ℕ) (old new cells : List ℕ) → cells_in w new ≡ cells_in w old ++ cells → length new ≡ length old + length cells
sums_long w old new cells e =
    omega (arith, ap length e, length-append (cells_in w old) cells, length-listed (length new) (cell_in w new), length-listed (length old) (cell_in w old))

-- how long the sums are where rows were appended
pub long_after : {T E : Type 0} (r : Result T E) (w : ℕ) (old new cells : List ℕ) → is_ok r ≡ true → OnOk r (cells_in w new ≡ cells_in w old ++ cells)
    → length new ≡ length old + length cells
long_after (Ok x) w old new cells good e = sums_long w old new cells e
long_after (Err m) w old new cells good e = absurd cc
