-- Sums of local products, part by part.
use Rattle.std.proofs.Common.{length-append, ◌≡◌, ◌∙◌, sym, ap, ℕ, ◌+◌, ◌-◌, ◌*◌, ◌<◌, ◌≤◌, min, List, ◌++◌, length, take, drop, get_or, arith}
use Rattle.std.specs.List.{flat_map}
use Rattle.std.proofs.lemmas.List.{length-take}
use Rattle.std.proofs.Math.Seq.{take-add}
use Rattle.list_facts.specs.Count.{total}
use Rattle.ring128.specs.Ring.{plus}
use Rattle.share_product.specs.Product.{inner_of}
use Rattle.share_product.proofs.Products.{inners_join}
use Rattle.scan_chunks.specs.Shelf.{Held}
use Rattle.scan_chunks.specs.Pieces.{chunk_of, chunks_of}
use Rattle.scan_chunks.proofs.Chunks.{rows_in, chunk_more, chunk_by_rows}
use Rattle.scan_chunks.proofs.Shelves.{item_left, flat_map_more}
use Rattle.server_rounds.proofs.Together.{total_more, total_below}

-- the first rows, and some more: of the factors only these are taken
pub rows_more : (n count : ℕ) (f s x y u v : List ℕ) (sum part : ℕ) → n ≤ length f → n ≤ length s → length x ≡ n → length y ≡ n
    → sum ≡ inner_of (take n f) (take n s) x y → part ≡ inner_of (take count (drop n f)) (take count (drop n s)) u v
    → plus sum part ≡ inner_of (take (n + count) f) (take (n + count) s) (x ++ u) (y ++ v)
rows_more n count f s x y u v sum part hf hs ex ey e0 e1 =
    rw (e0, e1, take-add n count f, take-add n count s)
    (sym (inners_join n (take n f) (take n s) x y (take count (drop n f)) (take count (drop n s)) u v
    (omega (arith, length-take n f)) (omega (arith, length-take n s)) ex ey))

-- the chunks so far, and one more
pub chunk_added : (c rows : ℕ) (f s x y : List ℕ) (sum part : ℕ) → length f ≡ rows → length s ≡ rows → length x ≡ rows → length y ≡ rows
    → sum ≡ inner_of (take (64 * c) f) (take (64 * c) s) (take (64 * c) x) (take (64 * c) y)
    → part ≡ inner_of (chunk_of 1 c f) (chunk_of 1 c s) (chunk_of 1 c x) (chunk_of 1 c y)
    → plus sum part ≡ inner_of (take (64 * (c + 1)) f) (take (64 * (c + 1)) s) (take (64 * (c + 1)) x) (take (64 * (c + 1)) y)
chunk_added c rows f s x y sum part ef es ex ey e0 e1 =
    rw (e0, e1, chunk_more 1 c f, chunk_more 1 c s, chunk_more 1 c x, chunk_more 1 c y)
    (sym (inners_join (min (64 * c) rows) (take (64 * c) f) (take (64 * c) s) (take (64 * c) x) (take (64 * c) y) (chunk_of 1 c f) (chunk_of 1 c s) (chunk_of 1 c x) (chunk_of 1 c y)
    (length-take (64 * c) f ∙ ap (min (64 * c)) ef) (length-take (64 * c) s ∙ ap (min (64 * c)) es)
    (length-take (64 * c) x ∙ ap (min (64 * c)) ex) (length-take (64 * c) y ∙ ap (min (64 * c)) ey)))

-- the pairs of a chunk's rows
pub pairs_of_chunk : (c rows count : ℕ) (f : List ℕ) → length f ≡ rows → c < chunks_of rows → count ≡ rows_in rows c
    → take (64 * c + count - 64 * c) (drop (64 * c) f) ≡ chunk_of 1 c f
pairs_of_chunk c rows count f e h is =
    let n : 64 * c + count - 64 * c ≡ rows_in rows c * 1 = omega arith in
    let at : 64 * c ≡ 64 * c * 1 = omega arith in
    ap (λ (k : ℕ). take k (drop (64 * c) f)) n ∙ ap (λ (k : ℕ). take (rows_in rows c * 1) (drop k f)) at
    ∙ chunk_by_rows 1 c rows f (omega (arith, e)) h

-- the rows of a shelf, after those of the shelves before it, are there
pub rows_within : {S : Type 0} (held : S → Held) (old now : List S) (i n : ℕ) (d : S) → drop i now ≡ drop i old → i < length old
    → n ≡ total (λ s. (held s).rows) (take i old) → n + (held (get_or now i d)).rows ≤ total (λ s. (held s).rows) old
rows_within held old now i n d rest h is =
    let at : (held (get_or now i d)).rows ≡ (held (get_or old i d)).rows = ap (λ s. (held s).rows) (item_left old now i d rest) in
    omega (arith, total_more (λ s. (held s).rows) old i d h, total_below (λ s. (held s).rows) old (i + 1))

-- the lists of some shelves are as long as their rows, and so are those of one more
pub lists_long : {S : Type 0} (f : S → List ℕ) (old : List S) (i n k : ℕ) (d : S) → i < length old → length (flat_map f (take i old)) ≡ n → length (f (get_or old i d)) ≡ k
    → length (flat_map f (take (i + 1) old)) ≡ n + k
lists_long f old i n k d h e0 e1 =
    ap length (sym (flat_map_more f old i d h)) ∙ omega (arith, length-append (flat_map f (take i old)) (f (get_or old i d)), e0, e1)

-- the shelves so far, and one more
pub shelf_added : {S : Type 0} (held : S → Held) (old now : List S) (i from count value : ℕ) (d : S) (f s : List ℕ) (sum part : ℕ)
    → i < length old → drop i now ≡ drop i old → from ≤ length f → from ≤ length s
    → length (flat_map (λ s. (held s).pieces.first value) (take i old)) ≡ from → length (flat_map (λ s. (held s).pieces.second value) (take i old)) ≡ from
    → sum ≡ inner_of (take from f) (take from s) (flat_map (λ s. (held s).pieces.first value) (take i old)) (flat_map (λ s. (held s).pieces.second value) (take i old))
    → part ≡ inner_of (take (from + count - from) (drop from f)) (take (from + count - from) (drop from s))
    ((held (get_or now i d)).pieces.first value) ((held (get_or now i d)).pieces.second value)
    → plus sum part ≡ inner_of (take (from + count) f) (take (from + count) s)
    (flat_map (λ s. (held s).pieces.first value) (take (i + 1) old)) (flat_map (λ s. (held s).pieces.second value) (take (i + 1) old))
shelf_added held old now i from count value d f s sum part h rest hf hs ex ey e0 e1 =
    let n : from + count - from ≡ count = omega arith in
    rows_more from count f s _ _ ((held (get_or old i d)).pieces.first value) ((held (get_or old i d)).pieces.second value) sum part hf hs ex ey e0
    (rw (n, item_left old now i d rest) at e1)
    ∙ rw (flat_map_more (λ s. (held s).pieces.first value) old i d h, flat_map_more (λ s. (held s).pieces.second value) old i d h)
