-- Laws of the code of a row.
use Rattle.std.proofs.Common.{◌≡◌, ◌≢◌, ℕ, zero, suc, ◌+◌, ◌-◌, ◌^◌, ◌%◌, ◌<◌, ◌≤◌, ◌==◌, Bool, true, false, cond, List, [], ◌∷◌, ◌++◌, length, get_or, take, drop, refl, sym, ap, ◌∙◌, All, append_assoc, eq-eqb, nat_lt, arith}
use Rattle.std.proofs.Math.Seq.{take-append_seam, drop-append_seam}
use Rattle.std.proofs.lemmas.Bool.{ne_eqb, eqb-true, eqb-false, ltb-true, ltb-false}
use Rattle.std.proofs.lemmas.Grind.{flat_map-append}
use Rattle.std.proofs.lemmas.List.{append-nil, get_or_past, length-append, drop_more}
use Rattle.std.proofs.lemmas.List.Elements.{All-nil, All-cons, All-append, All-map}
use Rattle.std.proofs.lemmas.List.Sums.{sum_by-append}
use Rattle.std.specs.Prelude.{ℤ, pos, negsuc, sum_by}
use Rattle.std.specs.Int.{from_bool}
use Rattle.std.specs.List.{flat_map, range_with_len}
use Rattle.list_facts.proofs.Listed.{length-listed, listed_more}
use Rattle.replicated_share.specs.Share.{share_of}
use Rattle.replicated_share.proofs.Sharing.{split_shares, parts_share}
use Rattle.table_schema.specs.Widths.{code_length, column_bits}
use Rattle.table_schema.specs.declared.rows.Row.{Row}
use Rattle.table_schema.specs.declared.widths.Widths.{Widths}
use Rattle.table_schema.proofs.WidthLaws.{code_more}
use Rattle.onehot_column.specs.Code.{one_hot, width_of, code_at, code_of, start_of, cells_at}
use Rattle.ring128.specs.Signed.{word_of}
use Rattle.onehot_column.specs.Laws.{CodeParts, PiecesShare, ValueIsLast}

-- ---- one column after the other

range_end : (a n : ℕ) → range_with_len a (n + 1) ≡ range_with_len a n ++ (a + n) ∷ []
range_end a zero = ap (λ (m : ℕ). m ∷ []) (omega arith)
range_end a (suc n) =
    let e : suc n + 1 ≡ suc (n + 1) = omega arith in
    let last : a + 1 + n ≡ a + suc n = omega arith in
    ap (range_with_len a) e ∙ ap (λ (xs : List ℕ). a ∷ xs) (range_end (a + 1) n ∙ ap (λ (m : ℕ). range_with_len (a + 1) n ++ m ∷ []) last)

range_more : (n : ℕ) → range_with_len 0 (n + 1) ≡ range_with_len 0 n ++ n ∷ []
range_more n = range_end 0 n ∙ ap (λ (m : ℕ). range_with_len 0 n ++ m ∷ []) (omega arith)

-- the codes of the first columns
abbrev pub codes : Widths → Row → ℕ → List ℕ
codes w row n = flat_map (λ column. code_at w column row) (range_with_len 0 n)

pub codes_more : (w : Widths) (row : Row) (n : ℕ) → codes w row n ++ code_at w n row ≡ codes w row (n + 1)
codes_more w row n =
    let f = λ (column : ℕ). code_at w column row in
    sym (ap (flat_map f) (range_more n) ∙ flat_map-append f (range_with_len 0 n) (n ∷ []) ∙ ap (λ (xs : List ℕ). codes w row n ++ xs) (append-nil (code_at w n row)))

pub start_more : (w : Widths) (n : ℕ) → start_of w (n + 1) ≡ start_of w n + width_of w n
start_more w n = ap (sum_by (width_of w)) (range_more n) ∙ sum_by-append (width_of w) (range_with_len 0 n) (n ∷ []) ∙ omega arith

pub length-code_at : (w : Widths) (row : Row) (column : ℕ) → length (code_at w column row) ≡ width_of w column
length-code_at w row column = by (column == w.columns)
  where
    by : (t : Bool) → length (cond t (word_of row.value ∷ []) (one_hot (2 ^ get_or w.bits column 0) (get_or row.buckets column 0))) ≡ cond t 1 (2 ^ get_or w.bits column 0)
    by true = refl
    by false = length-listed _ _

pub length-codes : (w : Widths) (row : Row) (n : ℕ) → length (codes w row n) ≡ start_of w n
length-codes w row zero = refl
length-codes w row (suc n) =
    let e : suc n ≡ n + 1 = omega arith in
    let more = sym (ap length (codes_more w row n)) ∙ length-append (codes w row n) (code_at w n row) in
    let sum : length (codes w row (n + 1)) ≡ start_of w (n + 1) = omega (arith, more, length-codes w row n, length-code_at w row n, start_more w n) in
    ap (λ (m : ℕ). length (codes w row m)) e ∙ sum ∙ ap (start_of w) (sym e)

-- ---- how wide a column is

pub width_below : (w : Widths) (column : ℕ) → column < w.columns → width_of w column ≡ 2 ^ get_or w.bits column 0
width_below w column h = let ne : column ≢ w.columns = omega arith in ap (λ (t : Bool). cond t 1 (2 ^ get_or w.bits column 0)) (ne_eqb column w.columns ne)

pub code_below : (w : Widths) (row : Row) (column : ℕ) → column < w.columns → code_at w column row ≡ one_hot (2 ^ get_or w.bits column 0) (get_or row.buckets column 0)
code_below w row column h =
    let ne : column ≢ w.columns = omega arith in
    ap (λ (t : Bool). cond t (word_of row.value ∷ []) (one_hot (2 ^ get_or w.bits column 0) (get_or row.buckets column 0))) (ne_eqb column w.columns ne)

pub width_last : (w : Widths) → width_of w w.columns ≡ 1
width_last w = ap (λ (t : Bool). cond t 1 (2 ^ get_or w.bits w.columns 0)) (eq-eqb w.columns w.columns refl)

pub code_last : (w : Widths) (row : Row) → code_at w w.columns row ≡ word_of row.value ∷ []
code_last w row = ap (λ (t : Bool). cond t (word_of row.value ∷ []) (one_hot (2 ^ get_or w.bits w.columns 0) (get_or row.buckets w.columns 0))) (eq-eqb w.columns w.columns refl)

pub start_below : (w : Widths) (m n : ℕ) → m ≤ n → start_of w m ≤ start_of w n
start_below w m zero h = let e : m ≡ 0 = omega arith in rw e (omega arith)
start_below w m (suc n) h = by (λ le. start_below w m n le) (m == suc n) refl
  where
    e : suc n ≡ n + 1
    e = omega arith

    by : (m ≤ n → start_of w m ≤ start_of w n) → (t : Bool) → (m == suc n) ≡ t → start_of w m ≤ start_of w (suc n)
    by so_far true same = let i = ap (start_of w) (eqb-true m (suc n) same) in omega (arith, i)
    by so_far false other =
        let ne = eqb-false m (suc n) other in
        let le : m ≤ n = omega (arith, ne) in
        let next = ap (start_of w) e in
        omega (arith, next, so_far le, start_more w n)

-- a column of a table has bits, so it is one of the six entries
has_bits : (w : Widths) (column : ℕ) → column < w.columns → column < length w.bits
has_bits w column h = by (nat_lt column (length w.bits)) refl
  where
    some : 0 < get_or w.bits column 0
    some = (w.legal.2 column h).0

    by : (t : Bool) → nat_lt column (length w.bits) ≡ t → column < length w.bits
    by true below = ltb-true column (length w.bits) below
    by false past = let none : get_or w.bits column 0 ≡ 0 = get_or_past w.bits column 0 (ltb-false column (length w.bits) past) in absurd (omega (arith, some, none))

-- what stands before a column, as a sum of powers
pub starts : (w : Widths) (n : ℕ) → n ≤ w.columns → code_length (take n w.bits) ≡ start_of w n + 1
starts w zero h = refl
starts w (suc n) h =
    let e : suc n ≡ n + 1 = omega arith in
    let below : n < w.columns = omega arith in
    let sum : code_length (take (n + 1) w.bits) ≡ start_of w (n + 1) + 1 =
    omega (arith, starts w n (omega arith), code_more w.bits n (has_bits w n below), start_more w n, width_below w n below) in
    ap (λ (m : ℕ). code_length (take m w.bits)) e ∙ sum ∙ ap (λ (m : ℕ). start_of w m + 1) (sym e)

pub whole_length : (w : Widths) → code_length (column_bits w) ≡ start_of w (w.columns + 1)
whole_length w = omega (arith, starts w w.columns (omega arith), start_more w w.columns, width_last w)

-- ---- parts

-- the codes of the first columns, cut at one of them
codes_around : (w : Widths) (row : Row) (column n : ℕ) → column < n → (rest : List ℕ) × (codes w row n ≡ codes w row column ++ (code_at w column row ++ rest))
codes_around w row column zero h = absurd (omega arith)
codes_around w row column (suc n) h = by (λ below. codes_around w row column n below) (column == n) refl
  where
    e : suc n ≡ n + 1
    e = omega arith

    more : codes w row (suc n) ≡ codes w row n ++ code_at w n row
    more = ap (codes w row) e ∙ sym (codes_more w row n)

    by : (column < n → (rest : List ℕ) × (codes w row n ≡ codes w row column ++ (code_at w column row ++ rest)))
        → (t : Bool) → (column == n) ≡ t → (rest : List ℕ) × (codes w row (suc n) ≡ codes w row column ++ (code_at w column row ++ rest))
    by before true same = let i : n ≡ column = sym (eqb-true column n same) in
        ([], more ∙ rw i (ap (λ (xs : List ℕ). codes w row column ++ xs) (sym (append-nil (code_at w column row)))))
    by before false other =
        let ne = eqb-false column n other in
        let below : column < n = omega (arith, ne) in
        let so_far = before below in (
          so_far.0 ++ code_at w n row,
          more ∙ ap (λ (xs : List ℕ). xs ++ code_at w n row) so_far.1
              ∙ append_assoc (codes w row column) (code_at w column row ++ so_far.0) (code_at w n row)
              ∙ ap (λ (xs : List ℕ). codes w row column ++ xs) (append_assoc (code_at w column row) so_far.0 (code_at w n row)),
        )

pub code_parts : CodeParts
code_parts w row column h =
    let at = codes_around w row column (w.columns + 1) (omega arith) in
    let rest = code_at w column row ++ at.0 in
    ap (cells_at w column) at.1
    ∙ rw (← length-codes w row column, drop-append_seam (codes w row column) rest, ← length-code_at w row column) (take-append_seam (code_at w column row) at.0)

word_small : (z : ℤ) → word_of z < 2 ^ 128
word_small (pos n) = omega arith
word_small (negsuc n) = omega arith

code_at_small : (w : Widths) (row : Row) (column : ℕ) → All (λ v. v < 2 ^ 128) (code_at w column row)
code_at_small w row column = by (column == w.columns)
  where
    bit : (t : Bool) → cond t 1 0 < 2 ^ 128
    bit true = omega arith
    bit false = omega arith

    by : (t : Bool) → All (λ v. v < 2 ^ 128) (cond t (word_of row.value ∷ []) (one_hot (2 ^ get_or w.bits column 0) (get_or row.buckets column 0)))
    by true = All-cons (λ v. v < 2 ^ 128) (word_of row.value) [] (word_small row.value) (All-nil (λ v. v < 2 ^ 128))
    by false =
        let place = get_or row.buckets column 0 in
        All-map (λ v. v < 2 ^ 128) (λ x. cond (x == place) 1 0) (range_with_len 0 (2 ^ get_or w.bits column 0)) (λ k d _. bit (get_or (range_with_len 0 (2 ^ get_or w.bits column 0)) k d == place))

pub code_small : (w : Widths) (row : Row) → All (λ v. v < 2 ^ 128) (code_of w row)
code_small w row = each (range_with_len 0 (w.columns + 1))
  where
    each : (columns : List ℕ) → All (λ v. v < 2 ^ 128) (flat_map (λ column. code_at w column row) columns)
    each [] = All-nil (λ v. v < 2 ^ 128)
    each (c ∷ cs) = All-append (λ v. v < 2 ^ 128) (code_at w c row) (flat_map (λ column. code_at w column row) cs) (code_at_small w row c) (each cs)

pub pieces_share : PiecesShare
pieces_share w row seed column h =
    let part = parts_share (λ k. share_of k seed (code_of w row)) (λ k. share_of ((k + 1) % 3) seed (code_of w row)) (code_of w row)
    (start_of w column) (width_of w column) (split_shares seed (code_of w row) (code_small w row)) in
    rw (code_parts w row column h) at part

-- what is left after all but the last number
last_left : (cells : List ℕ) (n : ℕ) → length cells ≡ n + 1 → take 1 (drop n cells) ≡ get_or cells n 0 ∷ []
last_left cells n e =
    let h : n < length cells = omega arith in
    ap (take 1) (drop_more cells n 0 h) ∙ refl

pub value_is_last : ValueIsLast
value_is_last w cells e =
    let long : length cells ≡ start_of w w.columns + 1 = e ∙ starts w w.columns (omega arith) in
    let n : length cells - 1 ≡ start_of w w.columns = omega arith in
    rw (width_last w, n) (last_left cells (start_of w w.columns) long)

-- ---- the code, number by number

-- one number more of a column
pub hot_more : (place n b : ℕ) (xs ys : List ℕ) → ys ≡ xs ++ one_hot n place → b ≡ from_bool (n == place) → ys ++ b ∷ [] ≡ xs ++ one_hot (n + 1) place
hot_more place n b xs ys e bit =
    ap (λ (l : List ℕ). l ++ b ∷ []) e ∙ append_assoc xs (one_hot n place) (b ∷ [])
    ∙ ap (λ (l : List ℕ). xs ++ l) (ap (λ (v : ℕ). one_hot n place ++ v ∷ []) (bit ∙ is_bit (n == place)) ∙ listed_more n (λ x. cond (x == place) 1 0))
  where
    is_bit : (t : Bool) → from_bool t ≡ cond t 1 0
    is_bit true = refl
    is_bit false = refl

-- one column more of a code
pub column_more : (w : Widths) (row : Row) (n size : ℕ) (xs ys : List ℕ) → n < w.columns → size ≡ 2 ^ get_or w.bits n 0
    → xs ≡ codes w row n → ys ≡ xs ++ one_hot size (get_or row.buckets n 0) → ys ≡ codes w row (n + 1)
column_more w row n size xs ys h e so_far pushed =
    pushed ∙ rw (so_far, e) (ap (λ (l : List ℕ). codes w row n ++ l) (sym (code_below w row n h)) ∙ codes_more w row n)

-- the value at the end
pub value_more : (w : Widths) (row : Row) (word : ℕ) (xs ys : List ℕ) → word ≡ word_of row.value → xs ≡ codes w row w.columns → ys ≡ xs ++ word ∷ [] → ys ≡ code_of w row
value_more w row word xs ys e so_far pushed =
    pushed ∙ rw (so_far, e) (ap (λ (l : List ℕ). codes w row w.columns ++ l) (sym (code_last w row)) ∙ codes_more w row w.columns)

pub length-code_of : (w : Widths) (row : Row) → length (code_of w row) ≡ code_length (column_bits w)
length-code_of w row = length-codes w row (w.columns + 1) ∙ sym (whole_length w)
