-- Scans of shelves whose rows, one after another, are those of one.
use Rattle.std.proofs.Common.{◌≡◌, ◌∙◌, refl, sym, ap, ℕ, zero, suc, ◌+◌, ◌*◌, ◌<◌, ◌≤◌, List, [], ◌∷◌, ◌++◌, length, take, drop, All, map, arith}
use Rattle.std.specs.List.{flat_map, range_with_len}
use Rattle.std.proofs.Math.Seq.{drop-append-add}
use Rattle.std.proofs.lemmas.List.{drop-append-le, take-append-le, length-drop}
use Rattle.std.proofs.lemmas.Nat.{mul-le}
use Rattle.list_facts.specs.Count.{total}
use Rattle.list_facts.specs.Listed.{listed}
use Rattle.list_facts.proofs.Listed.{listed_same, listed-append}
use Rattle.scan_chunks.specs.Pieces.{row_of, chunks_of}
use Rattle.scan_chunks.specs.Shelf.{Held}
use Rattle.scan_chunks.specs.Scan.{row_number, scan_of, visits_of}
use Rattle.scan_chunks.specs.Laws.{AreParts, GoOn}
use Rattle.scan_chunks.specs.declared.visit.Visit.{Visit}

-- a row of the first rows, and one of those after them
row_before : (w i m : ℕ) (xs us : List ℕ) → length xs ≡ m * w → i < m → row_of w i (xs ++ us) ≡ row_of w i xs
row_before w i m xs us e h =
    let room : (i + 1) * w ≤ m * w = mul-le (i + 1) w m w (omega arith) (omega arith) in
    let start : i * w ≤ length xs = omega (arith, room) in
    let fits : w ≤ length (drop (i * w) xs) = omega (arith, length-drop (i * w) xs, room) in
    ap (take w) (drop-append-le (i * w) xs us start) ∙ take-append-le w (drop (i * w) xs) us fits

row_after : (w i m : ℕ) (xs us : List ℕ) → length xs ≡ m * w → row_of w (m + i) (xs ++ us) ≡ row_of w i us
row_after w i m xs us e =
    let at : (m + i) * w ≡ length xs + i * w = omega arith in
    ap (λ (n : ℕ). take w (drop n (xs ++ us))) at ∙ ap (take w) (drop-append-add xs us (i * w))

-- the numbers of some rows, and of those after them
numbers-append : (z o : List ℕ) (w m n : ℕ) (xs ys us vs : List ℕ) → length xs ≡ m * w → length ys ≡ m * w
    → listed (m + n) (row_number z o w (xs ++ us) (ys ++ vs)) ≡ listed m (row_number z o w xs ys) ++ listed n (row_number z o w us vs)
numbers-append z o w m n xs ys us vs e f =
    let front : listed m (row_number z o w (xs ++ us) (ys ++ vs)) ≡ listed m (row_number z o w xs ys) =
    listed_same m (row_number z o w (xs ++ us) (ys ++ vs)) (row_number z o w xs ys)
    (λ i h. rw (row_before w i m xs us e h, row_before w i m ys vs f h)) in
    let back : listed n (λ i. row_number z o w (xs ++ us) (ys ++ vs) (m + i)) ≡ listed n (row_number z o w us vs) =
    listed_same n (λ i. row_number z o w (xs ++ us) (ys ++ vs) (m + i)) (row_number z o w us vs)
    (λ i h. rw (row_after w i m xs us e, row_after w i m ys vs f)) in
    listed-append m n (row_number z o w (xs ++ us) (ys ++ vs)) ∙ rw (front, back)

all_tail : {A : Type 0} (P : A → Type 0) (x : A) (xs : List A) → All P (x ∷ xs) → All P xs
all_tail P x xs all = λ k d h. all (suc k) d (omega arith)

-- the numbers of the parts
pub parts_numbers : (column : ℕ) (z o : List ℕ) (w : ℕ) (parts : List Held)
    → All (λ (h : Held). h.width column ≡ w) parts
    → All (λ (h : Held). length (h.pieces.first column) ≡ h.rows * h.width column) parts
    → All (λ (h : Held). length (h.pieces.second column) ≡ h.rows * h.width column) parts
    → flat_map (λ (h : Held). scan_of h column z o) parts
    ≡ listed (total (λ (h : Held). h.rows) parts) (row_number z o w (flat_map (λ (h : Held). h.pieces.first column) parts) (flat_map (λ (h : Held). h.pieces.second column) parts))
parts_numbers column z o w [] wide long also = refl
parts_numbers column z o w (p ∷ ps) wide long also =
    let width : p.width column ≡ w = wide 0 p (omega arith) in
    let first : length (p.pieces.first column) ≡ p.rows * w = long 0 p (omega arith) ∙ ap (λ (n : ℕ). p.rows * n) width in
    let second : length (p.pieces.second column) ≡ p.rows * w = also 0 p (omega arith) ∙ ap (λ (n : ℕ). p.rows * n) width in
    let rest = parts_numbers column z o w ps
    (all_tail (λ (h : Held). h.width column ≡ w) p ps wide)
    (all_tail (λ (h : Held). length (h.pieces.first column) ≡ h.rows * h.width column) p ps long)
    (all_tail (λ (h : Held). length (h.pieces.second column) ≡ h.rows * h.width column) p ps also) in
    rw (rest, width)
    (sym (numbers-append z o w p.rows (total (λ (h : Held). h.rows) ps) (p.pieces.first column) (p.pieces.second column)
    (flat_map (λ (h : Held). h.pieces.first column) ps) (flat_map (λ (h : Held). h.pieces.second column) ps) first second))

pub parts_scan : (column : ℕ) (z o : List ℕ) (parts : List Held) (whole : Held) → AreParts column parts whole
    → flat_map (λ (h : Held). scan_of h column z o) parts ≡ scan_of whole column z o
parts_scan column z o parts whole are = rw (are.count, are.firsts, are.seconds) (parts_numbers column z o (whole.width column) parts are.wide are.long are.also)

-- visits from a chunk number on
abbrev visits_from : ℕ → ℕ → ℕ → List Visit
visits_from column start n = map (λ (c : ℕ). record { column = column; chunk = start + c }) (range_with_len 0 n)

visits-append : (column start m n : ℕ) → visits_from column start (m + n) ≡ visits_from column start m ++ visits_from column (start + m) n
visits-append column start m n =
    let f : ℕ → Visit = λ c. record { column = column; chunk = start + c } in
    listed-append m n f
    ∙ ap (λ (l : List Visit). listed m f ++ l) (listed_same n (λ i. f (m + i)) (λ c. record { column = column; chunk = start + m + c })
    (λ i h. let at : start + (m + i) ≡ start + m + i = omega arith in ap (λ (k : ℕ). record { column = column; chunk = k }) at))

-- the chunks of some rows, and of those after them
chunks-add : (rows more : ℕ) → (0 < more → rows ≡ 64 * chunks_of rows) → chunks_of (rows + more) ≡ chunks_of rows + chunks_of more
chunks-add rows zero whole = omega arith
chunks-add rows (suc n) whole = let e : rows ≡ 64 * chunks_of rows = whole (omega arith) in omega arith

pub parts_visits : (column start : ℕ) (parts : List Held) → GoOn start parts
    → flat_map (λ (h : Held). visits_of h column) parts ≡ visits_from column start (chunks_of (total (λ (h : Held). h.rows) parts))
parts_visits column start [] on = refl
parts_visits column start (p ∷ ps) on =
    let more = total (λ (h : Held). h.rows) ps in
    rw (on.0, parts_visits column (start + chunks_of p.rows) ps on.2, chunks-add p.rows more on.1)
    (sym (visits-append column start (chunks_of p.rows) (chunks_of more)))

pub parts_visited : (column : ℕ) (parts : List Held) (whole : Held) → whole.rows ≡ total (λ (h : Held). h.rows) parts → GoOn whole.start parts
    → flat_map (λ (h : Held). visits_of h column) parts ≡ visits_of whole column
parts_visited column parts whole rows on = rw rows (parts_visits column whole.start parts on)
