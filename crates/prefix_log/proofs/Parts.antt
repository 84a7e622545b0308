-- Parts of a shelf, one after another.
use Rattle.std.proofs.Common.{◌≡◌, ◌∙◌, refl, sym, ap, subst, ℕ, zero, suc, ◌+◌, ◌-◌, ◌*◌, ◌/◌, ◌<◌, ◌≤◌, List, [], ◌∷◌, ◌++◌, All, length, map, take, drop, cond, ltb, Bool, true, false, arith}
use Rattle.std.specs.List.{flat_map}
use Rattle.std.proofs.lemmas.Bool.{ltb-true, ltb-false}
use Rattle.std.proofs.lemmas.List.Elements.{All-append}
use Rattle.std.proofs.lemmas.List.{flat_map_more, length-take, length-drop, take_all}
use Rattle.std.proofs.lemmas.Nat.{mul-le}
use Rattle.std.proofs.Math.Seq.{take-add}
use Rattle.list_facts.specs.Count.{total}
use Rattle.list_facts.proofs.Count.{total-append}
use Rattle.scan_chunks.specs.Pieces.{chunks_of}
use Rattle.scan_chunks.specs.Shelf.{Held, IsShelf}
use Rattle.scan_chunks.specs.Laws.{AreParts, GoOn}
use Rattle.prefix_log.specs.Rows.{IsEven, IsPart, cells_between, rows_before}

-- a shelf of whole chunks
abbrev pub Whole : Held → Type 0
Whole h = h.rows ≡ 64 * chunks_of h.rows

one : {A : Type 0} (P : A → Type 0) (x : A) → P x → All P (x ∷ [])
one P x p zero d h = p
one P x p (suc n) d h = absurd (omega arith)

more : {A : Type 0} (P : A → Type 0) (xs : List A) (x : A) → All P xs → P x → All P (xs ++ x ∷ [])
more P xs x all p = All-append P xs (x ∷ []) all (one P x p)

go_on_more : (s : ℕ) (hs : List Held) (h : Held) → GoOn s hs → (0 < h.rows → All Whole hs) → h.start ≡ s + total (λ (k : Held). chunks_of k.rows) hs → GoOn s (hs ++ h ∷ [])
go_on_more s [] h on full start = (omega arith, λ lt. absurd (omega arith), tt)
go_on_more s (x ∷ xs) h on full start = (on.0, whole, go_on_more (s + chunks_of x.rows) xs h on.2 (λ lt n d b. full lt (suc n) d (omega arith)) (omega arith))
  where
    whole : 0 < total (λ (k : Held). k.rows) (xs ++ h ∷ []) → x.rows ≡ 64 * chunks_of x.rows
    whole lt = by (total (λ (k : Held). k.rows) xs) refl
      where
        by : (n : ℕ) → total (λ (k : Held). k.rows) xs ≡ n → x.rows ≡ 64 * chunks_of x.rows
        by zero e = full (omega (arith, total-append (λ (k : Held). k.rows) xs (h ∷ []))) 0 x (omega arith)
        by (suc n) e = on.1 (omega arith)

-- the parts that hold the chunks of a whole one below a number
pub record PartsBelow (chunks workers low : ℕ) (whole : Held) (hs : List Held) : Type 0 where
  pub on : GoOn whole.start hs
  pub rows : total (λ (h : Held). h.rows) hs ≡ rows_before whole.rows low
  pub count : total (λ (h : Held). chunks_of h.rows) hs ≡ low
  pub full : 64 * low < whole.rows → All Whole hs
  pub columns : All (λ (h : Held). h.columns ≡ whole.columns) hs
  pub even : All (IsEven chunks workers) hs
  pub wide : (column : ℕ) → column ≤ whole.columns → All (λ (h : Held). h.width column ≡ whole.width column) hs
  pub long : (column : ℕ) → column ≤ whole.columns → All (λ (h : Held). length (h.pieces.first column) ≡ h.rows * h.width column) hs
  pub also : (column : ℕ) → column ≤ whole.columns → All (λ (h : Held). length (h.pieces.second column) ≡ h.rows * h.width column) hs
  pub firsts : (column : ℕ) → column ≤ whole.columns → flat_map (λ (h : Held). h.pieces.first column) hs ≡ take (rows_before whole.rows low * whole.width column) (whole.pieces.first column)
  pub seconds : (column : ℕ) → column ≤ whole.columns → flat_map (λ (h : Held). h.pieces.second column) hs ≡ take (rows_before whole.rows low * whole.width column) (whole.pieces.second column)

pub no_parts : (chunks workers : ℕ) (whole : Held) → PartsBelow chunks workers 0 whole []
no_parts chunks workers whole = record {
  on = tt;
  rows = omega arith;
  count = refl;
  full = λ lt n d h. absurd (omega arith);
  columns = λ n d h. absurd (omega arith);
  even = λ n d h. absurd (omega arith);
  wide = λ column le n d h. absurd (omega arith);
  long = λ column le n d h. absurd (omega arith);
  also = λ column le n d h. absurd (omega arith);
  firsts = λ column le. none (whole.width column) (whole.pieces.first column);
  seconds = λ column le. none (whole.width column) (whole.pieces.second column);
}
  where
    none : (w : ℕ) (xs : List ℕ) → [] ≡ take (rows_before whole.rows 0 * w) xs
    none w xs = let z : rows_before whole.rows 0 * w ≡ 0 = let r : rows_before whole.rows 0 ≡ 0 = omega arith in rw r (omega arith) in rw z refl

-- the cells up to one row, and from there up to another
cells_join : (w a b : ℕ) (xs : List ℕ) → a ≤ b → take (a * w) xs ++ cells_between w a b xs ≡ take (b * w) xs
cells_join w a b xs le =
    let e : b * w ≡ a * w + (b - a) * w = (let s : b ≡ a + (b - a) = omega arith in ap (λ (m : ℕ). m * w) s ∙ omega arith) in
    sym (ap (λ (m : ℕ). take m xs) e ∙ take-add (a * w) ((b - a) * w) xs)

-- how long a part's cells are
cells_count : (w a b r : ℕ) (xs : List ℕ) → a ≤ b → b ≤ r → length xs ≡ r * w → length (cells_between w a b xs) ≡ (b - a) * w
cells_count w a b r xs le le' e =
    let fits : (a + (b - a)) * w ≤ r * w = mul-le (a + (b - a)) w r w (omega arith) (omega arith) in
    omega (arith, length-take ((b - a) * w) (drop (a * w) xs), length-drop (a * w) xs)

-- a part has its chunks
part_chunks : (low high : ℕ) (whole part : Held) → low ≤ high → high ≤ chunks_of whole.rows → IsPart low high whole part → chunks_of part.rows ≡ high - low
part_chunks low high whole part order there is = let r = is.rows in omega arith

-- one part more
pub part_more : (chunks workers low high : ℕ) (whole part : Held) (hs : List Held) → IsShelf whole → low ≤ high → high ≤ chunks_of whole.rows → chunks / workers ≤ high - low → high - low ≤ chunks / workers + 1
    → PartsBelow chunks workers low whole hs → IsPart low high whole part → PartsBelow chunks workers high whole (hs ++ part ∷ [])
part_more chunks workers low high whole part hs shelf order there least most so_far is =
    let size = part_chunks low high whole part order there is in
    let r = is.rows in
    record {
      on = go_on_more whole.start hs part so_far.on (λ lt. so_far.full (omega arith)) (omega (arith, is.start, so_far.count));
      rows = omega (arith, total-append (λ (h : Held). h.rows) hs (part ∷ []), so_far.rows);
      count = omega (arith, total-append (λ (h : Held). chunks_of h.rows) hs (part ∷ []), so_far.count, size);
      full = λ lt. more Whole hs part (so_far.full (omega arith)) (omega arith);
      columns = more (λ (h : Held). h.columns ≡ whole.columns) hs part so_far.columns is.columns;
      even = more (IsEven chunks workers) hs part so_far.even (record { least = omega arith; most = omega arith });
      wide = λ column le. more (λ (h : Held). h.width column ≡ whole.width column) hs part (so_far.wide column le) (is.width column le);
      long = λ column le. more (λ (h : Held). length (h.pieces.first column) ≡ h.rows * h.width column) hs part (so_far.long column le)
          (ap length (is.first column le) ∙ cells_count (whole.width column) (rows_before whole.rows low) (rows_before whole.rows high) whole.rows (whole.pieces.first column) (omega arith) (omega arith) (shelf.first column le)
          ∙ ap (λ (m : ℕ). m * whole.width column) (sym r) ∙ ap (λ (m : ℕ). part.rows * m) (sym (is.width column le)));
      also = λ column le. more (λ (h : Held). length (h.pieces.second column) ≡ h.rows * h.width column) hs part (so_far.also column le)
          (ap length (is.second column le) ∙ cells_count (whole.width column) (rows_before whole.rows low) (rows_before whole.rows high) whole.rows (whole.pieces.second column) (omega arith) (omega arith) (shelf.second column le)
          ∙ ap (λ (m : ℕ). m * whole.width column) (sym r) ∙ ap (λ (m : ℕ). part.rows * m) (sym (is.width column le)));
      firsts = λ column le. sym (flat_map_more (λ (h : Held). h.pieces.first column) [] hs part)
          ∙ ap (λ (l : List ℕ). l ++ part.pieces.first column) (so_far.firsts column le) ∙ ap (λ (l : List ℕ). take (rows_before whole.rows low * whole.width column) (whole.pieces.first column) ++ l) (is.first column le)
          ∙ cells_join (whole.width column) (rows_before whole.rows low) (rows_before whole.rows high) (whole.pieces.first column) (omega arith);
      seconds = λ column le. sym (flat_map_more (λ (h : Held). h.pieces.second column) [] hs part)
          ∙ ap (λ (l : List ℕ). l ++ part.pieces.second column) (so_far.seconds column le) ∙ ap (λ (l : List ℕ). take (rows_before whole.rows low * whole.width column) (whole.pieces.second column) ++ l) (is.second column le)
          ∙ cells_join (whole.width column) (rows_before whole.rows low) (rows_before whole.rows high) (whole.pieces.second column) (omega arith);
    }

-- and all of them
pub all_parts : (chunks workers low column : ℕ) (whole : Held) (hs : List Held) → IsShelf whole → low ≡ chunks_of whole.rows → column ≤ whole.columns → PartsBelow chunks workers low whole hs → AreParts column hs whole
all_parts chunks workers low column whole hs shelf e le p =
    let r : rows_before whole.rows low ≡ whole.rows = omega arith in
    record {
      count = sym (p.rows ∙ r);
      wide = p.wide column le;
      long = p.long column le;
      also = p.also column le;
      firsts = sym (p.firsts column le ∙ ap (λ (m : ℕ). take (m * whole.width column) (whole.pieces.first column)) r ∙ take_all (whole.rows * whole.width column) (whole.pieces.first column) (omega (arith, shelf.first column le)));
      seconds = sym (p.seconds column le ∙ ap (λ (m : ℕ). take (m * whole.width column) (whole.pieces.second column)) r ∙ take_all (whole.rows * whole.width column) (whole.pieces.second column) (omega (arith, shelf.second column le)));
    }

-- ---- shares of the chunks

-- what is left to share after `worker` workers
abbrev pub left_after : ℕ → ℕ → ℕ → ℕ → ℕ
left_after count least longer worker = (count - worker) * least + (longer - worker)

pub shared_more : (count least longer worker low extra chunks : ℕ) → worker < count → low + left_after count least longer worker ≡ chunks → extra ≡ cond (ltb worker longer) 1 0
    → low + least + extra + left_after count least longer (worker + 1) ≡ chunks
shared_more count least longer worker low extra chunks lt so_far is = by (ltb worker longer) refl
  where
    next : (count - worker) * least ≡ (count - (worker + 1)) * least + least
    next = (let s : count - worker ≡ count - (worker + 1) + 1 = omega arith in ap (λ (m : ℕ). m * least) s) ∙ omega arith

    by : (b : Bool) → ltb worker longer ≡ b → low + least + extra + left_after count least longer (worker + 1) ≡ chunks
    by true e = let x : extra ≡ 1 = is ∙ ap (λ (b : Bool). cond b 1 0) e in let l : worker < longer = ltb-true worker longer e in omega (arith, next)
    by false e = let x : extra ≡ 0 = is ∙ ap (λ (b : Bool). cond b 1 0) e in let l : longer ≤ worker = ltb-false worker longer e in omega (arith, next)

-- the last worker has its share, and nothing is left
pub shared_all : (count least longer worker low chunks : ℕ) → count ≤ worker → longer ≤ count → low + left_after count least longer worker ≡ chunks → low ≡ chunks
shared_all count least longer worker low chunks le few is =
    let none : (count - worker) * least ≡ 0 = (let z : count - worker ≡ 0 = omega arith in ap (λ (m : ℕ). m * least) z ∙ omega arith) in
    omega (arith, none)

map_last : {S : Type 0} (held : S → Held) (part : S) (xs : List S) → map held (xs ++ part ∷ []) ≡ map held xs ++ held part ∷ []
map_last held part [] = refl
map_last held part (x ∷ xs) = ap (λ (l : List Held). held x ∷ l) (map_last held part xs)

-- a part that was pushed
pub part_pushed : {S : Type 0} (held : S → Held) (chunks workers low high : ℕ) (whole : Held) (old new : List S) (part : S) → new ≡ old ++ part ∷ [] → IsShelf whole → low ≤ high → high ≤ chunks_of whole.rows
    → chunks / workers ≤ high - low → high - low ≤ chunks / workers + 1
    → PartsBelow chunks workers low whole (map held old) → IsPart low high whole (held part) → PartsBelow chunks workers high whole (map held new)
part_pushed held chunks workers low high whole old new part pushed shelf order there least most so_far is =
    subst (PartsBelow chunks workers high whole) (sym (ap (map held) pushed ∙ map_last held part old))
    (part_more chunks workers low high whole (held part) (map held old) shelf order there least most so_far is)

pub all_pushed : {S : Type 0} (P : S → Type 0) (old new : List S) (x : S) → new ≡ old ++ x ∷ [] → All P old → P x → All P new
all_pushed P old new x pushed all here = subst (All P) (sym pushed) (more P old x all here)
