-- Shelves of a server, one after another.
use Rattle.std.proofs.Common.{◌≡◌, ◌∙◌, refl, sym, ap, subst, ℕ, zero, suc, ◌+◌, ◌*◌, ◌<◌, ◌≤◌, List, [], ◌∷◌, ◌++◌, length, take, drop, map, All, get_or, slice_set, arith, length-append}
use Rattle.std.specs.List.{AllZip, flat_map}
use Rattle.std.proofs.Math.Seq.{take-append_seam}
use Rattle.std.proofs.lemmas.List.{get_or-map, length-map, take_all}
use Rattle.scan_chunks.proofs.Shelves.{flat_map_more}
use Rattle.std.proofs.lemmas.Slice.Zip.{AllZip-long}
use Rattle.std.proofs.lemmas.List.Elements.{All-map, All-tail}
use Rattle.list_facts.specs.Count.{total}
use Rattle.list_facts.specs.Listed.{listed}
use Rattle.scan_chunks.specs.Shelf.{Held, IsShelf}
use Rattle.scan_chunks.specs.Scan.{row_number, scan_of}
use Rattle.scan_chunks.specs.Laws.{AreParts}
use Rattle.scan_chunks.proofs.Parts.{parts_scan}
use Rattle.table_schema.specs.declared.widths.Widths.{Widths}
use Rattle.onehot_column.specs.Code.{width_of}
use Rattle.server_rounds.specs.Shelves.{AreShelves, pieces_of}

-- what holds of each shelf's rows holds of each shelf
pub all_items : {A B : Type 0} (P : B → Type 0) (f : A → B) (xs : List A) → All P (map f xs) → All (λ x. P (f x)) xs
all_items P f xs all = λ k d h. subst P (get_or-map f xs k d (f d) h) (all k (f d) (omega (arith, length-map xs f)))

-- each shelf holds what it held
pub zip_held : {S : Type 0} (held : S → Held) (xs ys : List S) → AllZip (λ s t. held t ≡ held s) xs ys → map held ys ≡ map held xs
zip_held held [] [] z = refl
zip_held held [] (y ∷ ys) z = absurd z
zip_held held (x ∷ xs) [] z = absurd z
zip_held held (x ∷ xs) (y ∷ ys) z = rw (z.0, zip_held held xs ys z.1)

-- a shelf is replaced by one that holds the same
pub set_held : {S : Type 0} (held : S → Held) (xs : List S) (i : ℕ) (d y : S) → i < length xs → held y ≡ held (get_or xs i d)
    → map held (slice_set xs i y) ≡ map held xs
set_held held [] i d y h e = refl
set_held held (x ∷ xs) zero d y h e = ap (λ (k : Held). k ∷ map held xs) e
set_held held (x ∷ xs) (suc i) d y h e = ap (λ (l : List Held). held x ∷ l) (set_held held xs i d y (omega arith) e)

pub total-map : {A B : Type 0} (f : B → ℕ) (v : A → B) (xs : List A) → total f (map v xs) ≡ total (λ x. f (v x)) xs
total-map f v [] = refl
total-map f v (x ∷ xs) = ap (λ (n : ℕ). f (v x) + n) (total-map f v xs)

-- all rows of a server, as those of one shelf
abbrev pub whole_of : Widths → ℕ → List Held → Held
whole_of widths rows hs = record { rows = rows; start = 0; columns = widths.columns; width = width_of widths; pieces = pieces_of hs }

pub are_parts : (widths : Widths) (rows : ℕ) (hs : List Held) (column : ℕ) → column ≤ widths.columns → AreShelves widths rows hs → All IsShelf hs
    → AreParts column hs (whole_of widths rows hs)
are_parts widths rows hs column b are shelves = record {
  count = sym are.count;
  wide = are.wide column b;
  long = λ k d h. (shelves k d h).first column (omega (arith, are.columns k d h));
  also = λ k d h. (shelves k d h).second column (omega (arith, are.columns k d h));
  firsts = refl;
  seconds = refl;
}

flat_map-held : {S : Type 0} (held : S → Held) (f : Held → List ℕ) (xs : List S) → flat_map (λ s. f (held s)) xs ≡ flat_map f (map held xs)
flat_map-held held f [] = refl
flat_map-held held f (x ∷ xs) = ap (λ (l : List ℕ). f (held x) ++ l) (flat_map-held held f xs)

-- the numbers of the shelves' rows, one shelf's after another's
pub scanned_together : {S : Type 0} (held : S → Held) (widths : Widths) (rows : ℕ) (xs : List S) (column : ℕ) (zeros ones : List ℕ) → column ≤ widths.columns
    → AreShelves widths rows (map held xs) → All (λ s. IsShelf (held s)) xs
    → flat_map (λ s. scan_of (held s) column zeros ones) xs
    ≡ listed rows (row_number zeros ones (width_of widths column) ((pieces_of (map held xs)).first column) ((pieces_of (map held xs)).second column))
scanned_together held widths rows xs column zeros ones b are shelves =
    flat_map-held held (λ (h : Held). scan_of h column zeros ones) xs
    ∙ parts_scan column zeros ones (map held xs) (whole_of widths rows (map held xs)) (are_parts widths rows (map held xs) column b are (All-map IsShelf held xs shelves))

-- rows are counted shelf by shelf
pub total_more : {A : Type 0} (f : A → ℕ) (xs : List A) (i : ℕ) (d : A) → i < length xs → total f (take i xs) + f (get_or xs i d) ≡ total f (take (i + 1) xs)
total_more f [] i d h = absurd (omega arith)
total_more f (x ∷ xs) zero d h = omega arith
total_more f (x ∷ xs) (suc i) d h = let e : suc i + 1 ≡ suc (i + 1) = omega arith in rw e (omega (arith, total_more f xs i d (omega arith)))

pub total_below : {A : Type 0} (f : A → ℕ) (xs : List A) (i : ℕ) → total f (take i xs) ≤ total f xs
total_below f [] zero = omega arith
total_below f [] (suc i) = omega arith
total_below f (x ∷ xs) zero = omega arith
total_below f (x ∷ xs) (suc i) = omega (arith, total_below f xs i)

-- `width` cells a row
pub cells_long : (column w : ℕ) (hs : List Held) → All (λ (h : Held). h.width column ≡ w) hs → All (λ (h : Held). length (h.pieces.first column) ≡ h.rows * h.width column) hs
    → length (flat_map (λ (h : Held). h.pieces.first column) hs) ≡ total (λ (h : Held). h.rows) hs * w
cells_long column w [] wide long = omega arith
cells_long column w (h ∷ hs) wide long =
    let here : length (h.pieces.first column) ≡ h.rows * w = long 0 h (omega arith) ∙ ap (λ (n : ℕ). h.rows * n) (wide 0 h (omega arith)) in
    let rest = cells_long column w hs (All-tail (λ (h : Held). h.width column ≡ w) h hs wide) (All-tail (λ (h : Held). length (h.pieces.first column) ≡ h.rows * h.width column) h hs long) in
    let more : (h.rows + total (λ (h : Held). h.rows) hs) * w ≡ h.rows * w + total (λ (h : Held). h.rows) hs * w = omega arith in
    omega (arith, length-append (h.pieces.first column) (flat_map (λ (h : Held). h.pieces.first column) hs), here, rest, more)

-- what a shelf holds that is as it was
pub held_at : {S : Type 0} (held : S → Held) (old now : List S) (i : ℕ) (d : S) → map held now ≡ map held old → i < length now → held (get_or now i d) ≡ held (get_or old i d)
held_at held old now i d e h =
    let k : i < length old = omega (arith, length-map now held, length-map old held, ap length e) in
    sym (get_or-map held now i d (held d) h) ∙ ap (λ (l : List Held). get_or l i (held d)) e ∙ get_or-map held old i d (held d) k

-- shelves that were lent, and hold what they held
pub lent_held : {S : Type 0} (held : S → Held) (len : ℕ) (old lent new : List S) → len ≡ length old → lent ≡ old → AllZip (λ s t. held t ≡ held s) lent new
    → map held (take len (new ++ drop (length new) old)) ≡ map held old
lent_held held len old lent new size same z =
    let long : length new ≡ length lent = AllZip-long (λ s t. held t ≡ held s) lent new z in
    let at : len ≡ length new = omega (arith, ap length same) in
    ap (map held) (ap (λ (n : ℕ). take n (new ++ drop (length new) old)) at ∙ take-append_seam new (drop (length new) old))
    ∙ zip_held held lent new z ∙ ap (map held) same

-- a shelf at its place holds what it held there
pub shelf_at : {S : Type 0} (held : S → Held) (old now : List S) (i : ℕ) (d : S) → map held now ≡ map held old → i < length old → d ≡ get_or now i d
    → held d ≡ held (get_or old i d)
shelf_at held old now i d e h is =
    ap held is ∙ held_at held old now i d e (omega (arith, length-map now held, length-map old held, ap length e))

-- a shelf at its place is replaced by one that holds the same
pub set_at : {S : Type 0} (held : S → Held) (old now : List S) (i : ℕ) (d y : S) → map held now ≡ map held old → i < length old → held y ≡ held d → d ≡ get_or now i d
    → map held (slice_set now i y) ≡ map held old
set_at held old now i d y e h same is =
    set_held held now i d y (omega (arith, length-map now held, length-map old held, ap length e)) (same ∙ ap held is) ∙ e

-- one shelf's list more
pub lists_more : {S : Type 0} (held : S → Held) (f : Held → List ℕ) (old : List S) (i : ℕ) (d : S) → i < length old → held d ≡ held (get_or old i d)
    → flat_map f (take i (map held old)) ++ f (held d) ≡ flat_map f (take (i + 1) (map held old))
lists_more held f old i d h is =
    let at : held d ≡ get_or (map held old) i (held d) = is ∙ sym (get_or-map held old i d (held d) h) in
    ap (λ (x : Held). flat_map f (take i (map held old)) ++ f x) at ∙ flat_map_more f (map held old) i (held d) (omega (arith, length-map old held))

-- the lists of all shelves
pub lists_all : {S : Type 0} (held : S → Held) (f : Held → List ℕ) (old : List S) (i : ℕ) → length old ≤ i → flat_map f (take i (map held old)) ≡ flat_map f (map held old)
lists_all held f old i h = ap (flat_map f) (take_all i (map held old) (omega (arith, length-map old held)))

-- the cells of a server's rows
pub cells_together : {S : Type 0} (held : S → Held) (widths : Widths) (rows : ℕ) (xs : List S) (column : ℕ) → column ≤ widths.columns
    → AreShelves widths rows (map held xs) → All (λ s. IsShelf (held s)) xs
    → length ((pieces_of (map held xs)).first column) ≡ rows * width_of widths column
cells_together held widths rows xs column b are shelves =
    let parts = are_parts widths rows (map held xs) column b are (All-map IsShelf held xs shelves) in
    cells_long column (width_of widths column) (map held xs) parts.wide parts.long ∙ ap (λ (n : ℕ). n * width_of widths column) are.count

-- rows that were counted in a list that is lent
pub counted : {S : Type 0} (held : S → Held) (xs lent : List S) (n : ℕ) → n ≡ total (λ s. (held s).rows) lent → lent ≡ xs → n ≡ total (λ (h : Held). h.rows) (map held xs)
counted held xs lent n e same = e ∙ ap (total (λ s. (held s).rows)) same ∙ sym (total-map (λ (h : Held). h.rows) held xs)

-- the lists of the shelves
pub lists_held : {S : Type 0} (held : S → Held) (f : Held → List ℕ) (lent xs : List S) → lent ≡ xs → flat_map (λ s. f (held s)) lent ≡ flat_map f (map held xs)
lists_held held f lent xs same = ap (flat_map (λ s. f (held s))) same ∙ flat_map-held held f xs
