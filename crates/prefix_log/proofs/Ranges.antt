-- Rows of one width, one after another.
use Rattle.std.proofs.Common.{◌≡◌, ◌∙◌, refl, sym, ap, ℕ, zero, suc, ◌+◌, ◌-◌, ◌*◌, ◌<◌, ◌≤◌, List, [], ◌∷◌, ◌++◌, length, get_or, take, drop, take-add, drop-drop, arith}
use Rattle.std.specs.List.{flat_map, range_with_len}
use Rattle.std.proofs.lemmas.List.{length-append, length-take, length-drop, get_or-take, get_or-drop}
use Rattle.std.proofs.lemmas.Nat.{mul-le}
use Rattle.list_facts.proofs.Listed.{listed_is}
use Rattle.prefix_log.specs.RowLists.{row_cells}

-- a list, and some of what follows it
pub take_past : {A : Type 0} (xs ys : List A) (n m : ℕ) → n ≡ length xs + m → take n (xs ++ ys) ≡ xs ++ take m ys
take_past [] ys n m e = let same : n ≡ m = omega arith in ap (λ (i : ℕ). take i ys) same
take_past (x ∷ xs) ys zero m e = absurd (omega arith)
take_past {A} (x ∷ xs) ys (suc n) m e = ap (λ (l : List A). x ∷ l) (take_past xs ys n m (omega arith))

pub drop_past : {A : Type 0} (xs ys : List A) (n m : ℕ) → n ≡ length xs + m → drop n (xs ++ ys) ≡ drop m ys
drop_past [] ys n m e = let same : n ≡ m = omega arith in ap (λ (i : ℕ). drop i ys) same
drop_past (x ∷ xs) ys zero m e = absurd (omega arith)
drop_past (x ∷ xs) ys (suc n) m e = drop_past xs ys n m (omega arith)

-- rows that are the same one by one are the same together
pub rows_same : (f g : ℕ → List ℕ) (a b n : ℕ) → ((i : ℕ) → i < n → f (a + i) ≡ g (b + i)) → flat_map f (range_with_len a n) ≡ flat_map g (range_with_len b n)
rows_same f g a b zero same = refl
rows_same f g a b (suc n) same =
    let none : a + 0 ≡ a = omega arith in
    let also : b + 0 ≡ b = omega arith in
    let head : f a ≡ g b = ap f (sym none) ∙ same 0 (omega arith) ∙ ap g also in
    ap (λ (l : List ℕ). l ++ flat_map f (range_with_len (a + 1) n)) head
    ∙ ap (λ (l : List ℕ). g b ++ l) (rows_same f g (a + 1) (b + 1) n (λ i lt.
    let left : a + 1 + i ≡ a + suc i = omega arith in
    let right : b + suc i ≡ b + 1 + i = omega arith in
    ap f left ∙ same (suc i) (omega arith) ∙ ap g right))

module _ (f : ℕ → List ℕ) (w : ℕ) (wide : (i : ℕ) → length (f i) ≡ w) where
  pub rows_count : (a n : ℕ) → length (flat_map f (range_with_len a n)) ≡ n * w
  rows_count a zero = omega arith
  rows_count a (suc n) =
      let more : (n + 1) * w ≡ w + n * w = omega arith in
      omega (arith, length-append (f a) (flat_map f (range_with_len (a + 1) n)), wide a, rows_count (a + 1) n, more)

  pub rows_taken : (a m n : ℕ) → m ≤ n → take (m * w) (flat_map f (range_with_len a n)) ≡ flat_map f (range_with_len a m)
  rows_taken a zero n le = let none : 0 * w ≡ 0 = omega arith in ap (λ (i : ℕ). take i (flat_map f (range_with_len a n))) none
  rows_taken a (suc m) zero le = absurd (omega arith)
  rows_taken a (suc m) (suc n) le =
      let more : suc m * w ≡ w + m * w = omega arith in
      take_past (f a) (flat_map f (range_with_len (a + 1) n)) (suc m * w) (m * w) (omega (arith, wide a, more))
      ∙ ap (λ (l : List ℕ). f a ++ l) (rows_taken (a + 1) m n (omega arith))

  pub rows_dropped : (a m n : ℕ) → m ≤ n → drop (m * w) (flat_map f (range_with_len a n)) ≡ flat_map f (range_with_len (a + m) (n - m))
  rows_dropped a zero n le =
      let none : 0 * w ≡ 0 = omega arith in
      let start : a ≡ a + 0 = omega arith in
      let rest : n ≡ n - 0 = omega arith in
      ap (λ (i : ℕ). drop i (flat_map f (range_with_len a n))) none ∙ ap (λ (i : ℕ). flat_map f (range_with_len i n)) start ∙ ap (λ (i : ℕ). flat_map f (range_with_len (a + 0) i)) rest
  rows_dropped a (suc m) zero le = absurd (omega arith)
  rows_dropped a (suc m) (suc n) le =
      let more : suc m * w ≡ w + m * w = omega arith in
      let start : a + 1 + m ≡ a + suc m = omega arith in
      let rest : n - m ≡ suc n - suc m = omega arith in
      drop_past (f a) (flat_map f (range_with_len (a + 1) n)) (suc m * w) (m * w) (omega (arith, wide a, more))
      ∙ rows_dropped (a + 1) m n (omega arith) ∙ ap (λ (i : ℕ). flat_map f (range_with_len i (n - m))) start ∙ ap (λ (i : ℕ). flat_map f (range_with_len (a + suc m) i)) rest

-- a row that is there
row_is : (w a : ℕ) (cells : List ℕ) → (a + 1) * w ≤ length cells → row_cells w cells a ≡ take w (drop (a * w) cells)
row_is w a cells long =
    let more : (a + 1) * w ≡ a * w + w = omega arith in
    sym (listed_is w (λ (i : ℕ). get_or cells (a * w + i) 0) 0 (take w (drop (a * w) cells)) (omega (arith, more, length-take w (drop (a * w) cells), length-drop (a * w) cells))
    (λ i lt. get_or-take w (drop (a * w) cells) i 0 lt ∙ get_or-drop (a * w) cells i 0))

-- rows that are there are the cells, from one row on
rows_from : (w a n : ℕ) (cells : List ℕ) → (a + n) * w ≤ length cells → flat_map (row_cells w cells) (range_with_len a n) ≡ take (n * w) (drop (a * w) cells)
rows_from w a zero cells long = let none : 0 ≡ 0 * w = omega arith in ap (λ (i : ℕ). take i (drop (a * w) cells)) none
rows_from w a (suc n) cells long =
    let here : (a + 1) * w ≤ (a + suc n) * w = mul-le (a + 1) w (a + suc n) w (omega arith) (omega arith) in
    let there : a + 1 + n ≡ a + suc n = omega arith in
    let next : a * w + w ≡ (a + 1) * w = omega arith in
    let more : w + n * w ≡ suc n * w = omega arith in
    ap (λ (l : List ℕ). l ++ flat_map (row_cells w cells) (range_with_len (a + 1) n)) (row_is w a cells (omega arith))
    ∙ ap (λ (l : List ℕ). take w (drop (a * w) cells) ++ l) (rows_from w (a + 1) n cells (let e = ap (λ (i : ℕ). i * w) there in omega arith)
    ∙ ap (λ (i : ℕ). take (n * w) (drop i cells)) (sym next) ∙ ap (take (n * w)) (sym (drop-drop w (a * w) cells)))
    ∙ sym (take-add w (n * w) (drop (a * w) cells)) ∙ ap (λ (i : ℕ). take i (drop (a * w) cells)) more

-- the first rows, where they are there, are the first cells
pub rows_there : (w n : ℕ) (cells : List ℕ) → n * w ≤ length cells → flat_map (row_cells w cells) (range_with_len 0 n) ≡ take (n * w) cells
rows_there w n cells long =
    let none : 0 * w ≡ 0 = omega arith in
    let all : 0 + n ≡ n = omega arith in
    rows_from w 0 n cells (let e = ap (λ (i : ℕ). i * w) all in omega arith) ∙ ap (λ (i : ℕ). take (n * w) (drop i cells)) none
