-- The rows of a chunk.
use Rattle.std.proofs.Common.{◌≡◌, ◌∙◌, refl, sym, ap, ℕ, zero, suc, ◌+◌, ◌-◌, ◌*◌, ◌<◌, ◌≤◌, min, List, [], ◌∷◌, ◌++◌, length, take, drop, arith, ⊎_elim}
use Rattle.std.proofs.lemmas.List.{drop-take, length-take, length-drop, take_all, take_min}
use Rattle.std.proofs.lemmas.Nat.{mul-le}
use Rattle.std.proofs.lemmas.Bool.{cases_order}
use Rattle.std.proofs.Math.Seq.{drop-nil, take-add}
use Rattle.list_facts.specs.Listed.{listed}
use Rattle.list_facts.proofs.Listed.{listed_same, listed-append}
use Rattle.ring128.specs.Ring.{plus, dot_of}
use Rattle.scan_chunks.specs.Pieces.{row_of, chunk_of, chunks_of}
use Rattle.scan_chunks.specs.Scan.{row_number}

drop_drop : (m n : ℕ) (xs : List ℕ) → drop n (drop m xs) ≡ drop (m + n) xs
drop_drop zero n xs = let e : 0 + n ≡ n = omega arith in rw e refl
drop_drop (suc m) n [] = drop-nil n ∙ sym (drop-nil (suc m + n))
drop_drop (suc m) n (x ∷ xs) = let e : suc m + n ≡ suc (m + n) = omega arith in rw e (drop_drop m n xs)

take_less : (n m : ℕ) (xs : List ℕ) → n ≤ m → take n (take m xs) ≡ take n xs
take_less zero m xs h = refl
take_less (suc n) zero xs h = absurd (omega arith)
take_less (suc n) (suc m) [] h = refl
take_less (suc n) (suc m) (x ∷ xs) h = ap (λ (l : List ℕ). x ∷ l) (take_less n m xs (omega arith))

-- how many rows a chunk has
abbrev pub rows_in : ℕ → ℕ → ℕ
rows_in rows c = min 64 (rows - 64 * c)

pub chunk_long : (w c rows : ℕ) (xs : List ℕ) → length xs ≡ rows * w → c < chunks_of rows → length (chunk_of w c xs) ≡ rows_in rows c * w
chunk_long w c rows xs e h = ⊎_elim whole_same (λ at. ⊎_elim cut whole at) (cases_order rows (64 * c + 64))
  where
    long : length (chunk_of w c xs) ≡ min (64 * w) (rows * w - 64 * w * c)
    long = omega (arith, length-take (64 * w) (drop (64 * w * c) xs), length-drop (64 * w * c) xs, e)

    start : 64 * w * c ≡ 64 * c * w
    start = omega arith

    whole : 64 * c + 64 < rows → length (chunk_of w c xs) ≡ rows_in rows c * w
    whole lt =
        let more : (64 * c + 64) * w ≤ rows * w = mul-le (64 * c + 64) w rows w (omega arith) (omega arith) in
        let all : rows_in rows c ≡ 64 = omega arith in
        rw all (omega (arith, long, start, more))

    whole_same : rows ≡ 64 * c + 64 → length (chunk_of w c xs) ≡ rows_in rows c * w
    whole_same same =
        let more : (64 * c + 64) * w ≤ rows * w = mul-le (64 * c + 64) w rows w (omega arith) (omega arith) in
        let all : rows_in rows c ≡ 64 = omega arith in
        rw all (omega (arith, long, start, more))

    cut : rows < 64 * c + 64 → length (chunk_of w c xs) ≡ rows_in rows c * w
    cut lt =
        let some : rows ≡ 64 * c + (rows - 64 * c) = omega arith in
        let split : rows * w ≡ 64 * c * w + (rows - 64 * c) * w = ap (λ (n : ℕ). n * w) some ∙ omega arith in
        let few : (rows - 64 * c) * w ≤ 64 * w = mul-le (rows - 64 * c) w 64 w (omega arith) (omega arith) in
        let part : rows_in rows c ≡ rows - 64 * c = omega arith in
        rw part (omega (arith, long, start, split, few))

-- a row of a chunk is a row of the column
pub row_in_chunk : (w c i : ℕ) (xs : List ℕ) → i < 64 → row_of w i (chunk_of w c xs) ≡ row_of w (64 * c + i) xs
row_in_chunk w c i xs h =
    let room : i * w + w ≤ 64 * w = let m : (i + 1) * w ≤ 64 * w = mul-le (i + 1) w 64 w (omega arith) (omega arith) in omega (arith, m) in
    let split : 64 * w ≡ i * w + (64 * w - i * w) = omega (arith, room) in
    let fits : w ≤ 64 * w - i * w = omega (arith, room) in
    let at : 64 * w * c + i * w ≡ (64 * c + i) * w = omega arith in
    ap (λ (n : ℕ). take w (drop (i * w) (take n (drop (64 * w * c) xs)))) split
    ∙ ap (take w) (drop-take (i * w) (64 * w - i * w) (drop (64 * w * c) xs))
    ∙ take_less w (64 * w - i * w) (drop (i * w) (drop (64 * w * c) xs)) fits
    ∙ ap (take w) (drop_drop (64 * w * c) (i * w) xs)
    ∙ ap (λ (n : ℕ). take w (drop n xs)) at

-- the chunks so far and one more
pub chunk_more : (w c : ℕ) (xs : List ℕ) → take (64 * w * (c + 1)) xs ≡ take (64 * w * c) xs ++ chunk_of w c xs
chunk_more w c xs = let n : 64 * w * (c + 1) ≡ 64 * w * c + 64 * w = omega arith in rw n (take-add (64 * w * c) (64 * w) xs)

pub all_chunks : (w rows : ℕ) (xs : List ℕ) → length xs ≡ rows * w → take (64 * w * chunks_of rows) xs ≡ xs
all_chunks w rows xs e =
    let many : rows ≤ 64 * chunks_of rows = omega arith in
    let enough : rows * w ≤ 64 * chunks_of rows * w = mul-le rows w (64 * chunks_of rows) w many (omega arith) in
    take_all (64 * w * chunks_of rows) xs (omega (arith, enough, e))

-- the numbers of the chunks so far and of one more
pub scanned_more : (t0 t1 : List ℕ) (w c rows : ℕ) (first second : List ℕ) → c < chunks_of rows
    → listed (min (64 * c) rows) (row_number t0 t1 w first second) ++ listed (rows_in rows c) (row_number t0 t1 w (chunk_of w c first) (chunk_of w c second))
    ≡ listed (min (64 * (c + 1)) rows) (row_number t0 t1 w first second)
scanned_more t0 t1 w c rows first second h =
    let so_far : min (64 * c) rows ≡ 64 * c = omega arith in
    let next : min (64 * (c + 1)) rows ≡ 64 * c + rows_in rows c = omega arith in
    rw (so_far, next, listed-append (64 * c) (rows_in rows c) (row_number t0 t1 w first second))
    (ap (λ (l : List ℕ). listed (64 * c) (row_number t0 t1 w first second) ++ l)
    (listed_same (rows_in rows c) _ _ (λ i lt. let few : i < 64 = omega arith in
    ap (λ (xs : List ℕ). plus (dot_of t0 xs) (dot_of t1 (row_of w i (chunk_of w c second)))) (row_in_chunk w c i first few)
    ∙ ap (λ (xs : List ℕ). plus (dot_of t0 (row_of w (64 * c + i) first)) (dot_of t1 xs)) (row_in_chunk w c i second few))))

-- a chunk by how many rows it has
pub chunk_by_rows : (w c rows : ℕ) (xs : List ℕ) → length xs ≡ rows * w → c < chunks_of rows
    → take (rows_in rows c * w) (drop (64 * c * w) xs) ≡ chunk_of w c xs
chunk_by_rows w c rows xs e h =
    let at : 64 * c * w ≡ 64 * w * c = omega arith in
    let rest = drop (64 * w * c) xs in
    let count : rows_in rows c * w ≡ min (64 * w) (length rest) = sym (chunk_long w c rows xs e h) ∙ length-take (64 * w) rest in
    rw (at, count) (take_min (64 * w) rest)
