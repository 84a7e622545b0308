-- Words that are written shelf by shelf, and those of two stretches.
use Rattle.std.proofs.Common.{◌≡◌, ◌∙◌, refl, sym, ap, subst, ℕ, ◌+◌, ◌<◌, ◌≤◌, List, [], ◌∷◌, ◌++◌, length, take, drop, map, All, Result, Ok, Err, IfOk, OnErr, OnOk, length-append, length-drop, take-append-drop, arith}
use Rattle.std.proofs.lemmas.List.{length-take}
use Rattle.std.proofs.lemmas.List.Elements.{All-take, All-drop}
use Rattle.std.specs.List.{AllZip}
use Rattle.std.specs.Result.{IsErr, IsOk}
use Rattle.std.proofs.lemmas.Grind.{flat_map-append}
use Rattle.list_facts.proofs.Count.{total-append}
use Rattle.list_facts.proofs.Listed.{length-listed}
use Rattle.query_plan.specs.KeyMessages.{KeysRead}
use Rattle.ring128.specs.declared.memory.Memory.{Memory}
use Rattle.scan_chunks.specs.Scan.{row_number, scan_of, visits_of, VisitsPart}
use Rattle.scan_chunks.specs.Shelf.{Held}
use Rattle.scan_chunks.specs.declared.tables.Tables.{Tables}
use Rattle.scan_chunks.specs.declared.visit.Visit.{Visit}
use Rattle.scan_chunks.proofs.Shelves.{part_none, part_whole, zip_weaker}
use Rattle.onehot_column.specs.Code.{width_of}
use Rattle.query_plan.specs.KeyMessages.{view_from}
use Rattle.ring128.proofs.Laws.{length-sums}
use Rattle.scan_chunks.specs.Shelf.{IsShelf}
use Rattle.std.proofs.Math.Seq.{take-append_seam}
use Rattle.transcript.specs.Setup.{Sizes, column_of, count_of}
use Rattle.transcript.specs.Steps.{bits, counter_of}
use Rattle.zero_share.specs.Zero.{parts_of}
use Rattle.server_rounds.specs.AtOnce.{CanScan}
use Rattle.server_rounds.specs.Shelves.{AreShelves, pieces_of}
use Rattle.server_rounds.specs.Stretches.{rows_in, scans_of, AreCut, AreTables, BothFill, CanFill, CanScanTo, Fills, GivesBits, WritesTo}
use Rattle.server_rounds.specs.declared.keys.ThreeKeys.{ThreeKeys}
use Rattle.server_rounds.specs.declared.stretches.ThreeTables.{ThreeTables}
use Rattle.scan_chunks.specs.Halves.{AreReady}
use Rattle.server_rounds.specs.Visits.{visits_at}
use Rattle.server_rounds.specs.Zeros.{zeroed}
use Rattle.server_rounds.proofs.Parts.{bits_are_words, numbers_are}
use Rattle.server_rounds.proofs.Together.{all_items, lent_held, scanned_together, total-map, total_below}
use Rattle.server_rounds.proofs.Visiting.{column_begun, column_seen, lent_as_left, none_begun}
use Rattle.server_rounds.proofs.Zeroed.{zeroed-append}

-- a number for each row
pub scans_long : {S : Type 0} (held : S → Held) (column : ℕ) (tables : Tables) (xs : List S) → length (scans_of held column tables xs) ≡ rows_in held xs
scans_long held column tables [] = refl
scans_long held column tables (x ∷ xs) =
    let row = row_number tables.zero tables.one ((held x).width column) ((held x).pieces.first column) ((held x).pieces.second column) in
    omega (arith, length-append (scan_of (held x) column tables.zero tables.one) (scans_of held column tables xs), length-listed (held x).rows row, scans_long held column tables xs)

zip_self : {A : Type 0} (Q : A → A → Type 0) → ((x : A) → Q x x) → (xs : List A) → AllZip Q xs xs
zip_self Q same [] = tt
zip_self Q same (x ∷ xs) = (same x, zip_self Q same xs)

pub zip_both : {A : Type 0} (Q : A → A → Type 0) (xs ys us vs : List A) → AllZip Q xs ys → AllZip Q us vs → AllZip Q (xs ++ us) (ys ++ vs)
zip_both Q [] [] us vs z w = w
zip_both Q [] (y ∷ ys) us vs z w = absurd z
zip_both Q (x ∷ xs) [] us vs z w = absurd z
zip_both Q (x ∷ xs) (y ∷ ys) us vs z w = (z.0, zip_both Q xs ys us vs z.1 w)

-- whatever a call came to, the visits are the first ones
pub any_part : {S T : Type 0} (held : S → Held) (visited : S → List Visit) (column : ℕ) (words : List ℕ) (old new : List S) (to : T → List ℕ) (r : Result T Memory)
    → WritesTo held visited column words old new to r → AllZip (λ s t. VisitsPart (visited s) (visited t) (visits_of (held s) column)) old new
any_part held visited column words old new to (Ok x) w =
    zip_weaker (λ s t. visited t ≡ visited s ++ visits_of (held s) column) (λ s t. VisitsPart (visited s) (visited t) (visits_of (held s) column))
    (λ s t e. part_whole (visited s) (visited t) (visits_of (held s) column) e) old new w.visits
any_part held visited column words old new to (Err e) w = w.part

-- out of memory, after whatever a call came to
pub write_stopped : {S T U : Type 0} (held : S → Held) (visited : S → List Visit) (column : ℕ) (words wanted : List ℕ) (old new : List S) (to : T → List ℕ) (at : U → List ℕ)
    (r : Result T Memory) (q : Result U Memory) → IsErr q → WritesTo held visited column words old new to r → WritesTo held visited column wanted old new at q
write_stopped held visited column words wanted old new to at r (Ok x) e w = absurd cc
write_stopped held visited column words wanted old new to at r (Err m) e w = record { same = w.same; written = tt; visits = tt; part = any_part held visited column words old new to r w }

-- words that were written over, after a call that had memory
pub write_changed : {S T U : Type 0} (held : S → Held) (visited : S → List Visit) (column : ℕ) (words wanted : List ℕ) (old new : List S) (to : T → List ℕ) (at : U → List ℕ)
    (r : Result T Memory) (y : U) → IsOk r → WritesTo held visited column words old new to r → at y ≡ wanted → WritesTo held visited column wanted old new at (Ok y)
write_changed held visited column words wanted old new to at (Ok x) y e w is = record { same = w.same; written = is; visits = w.visits; part = tt }
write_changed held visited column words wanted old new to at (Err m) y e w is = absurd cc

-- what was written by a call that had memory
pub written_ok : {S T : Type 0} (held : S → Held) (visited : S → List Visit) (column : ℕ) (words : List ℕ) (old new : List S) (x : List ℕ) (r : Result T Memory)
    → IsOk r → WritesTo held visited column words old new (λ t. x) r → x ≡ words
written_ok held visited column words old new x (Ok t) e w = w.written
written_ok held visited column words old new x (Err m) e w = absurd cc

-- two stretches, of which the second one's counters go on
pub write_both : {S T U V : Type 0} (held : S → Held) (visited : S → List Visit) (column : ℕ) (tables : Tables) (keys : KeysRead) (start later : ℕ) (old new old' new' : List S)
    (x y : List ℕ) (a : Result T Memory) (b : Result U Memory) (r : Result V Memory) → later ≡ start + rows_in held old
    → WritesTo held visited column (zeroed keys start (scans_of held column tables old)) old new (λ t. x) a
    → WritesTo held visited column (zeroed keys later (scans_of held column tables old')) old' new' (λ t. y) b
    → OnOk r (IsOk a × IsOk b)
    → WritesTo held visited column (zeroed keys start (scans_of held column tables (old ++ old'))) (old ++ old') (new ++ new') (λ t. x ++ y) r
write_both held visited column tables keys start later old new old' new' x y a b (Err m) e v w both = record {
  same = zip_both (λ s t. held t ≡ held s) old new old' new' v.same w.same;
  written = tt;
  visits = tt;
  part =
      zip_both (λ s t. VisitsPart (visited s) (visited t) (visits_of (held s) column)) old new old' new'
      (any_part held visited column _ old new _ a v) (any_part held visited column _ old' new' _ b w);
}
write_both held visited column tables keys start later old new old' new' x y (Ok s) (Ok t) (Ok u) e v w both = record {
  same = zip_both (λ s t. held t ≡ held s) old new old' new' v.same w.same;
  written =
      let at : later ≡ start + length (scans_of held column tables old) = e ∙ ap (λ (n : ℕ). start + n) (sym (scans_long held column tables old)) in
      rw (v.written, w.written, at)
      (sym (ap (zeroed keys start) (flat_map-append (λ s. scan_of (held s) column tables.zero tables.one) old old') ∙ zeroed-append keys start (scans_of held column tables old) (scans_of held column tables old')));
  visits = zip_both (λ s t. visited t ≡ visited s ++ visits_of (held s) column) old new old' new' v.visits w.visits;
  part = tt;
}
write_both held visited column tables keys start later old new old' new' x y (Err m) b (Ok u) e v w both = absurd cc
write_both held visited column tables keys start later old new old' new' x y (Ok s) (Err m) (Ok u) e v w both = absurd cc

-- some of the shelves have no more rows than all
pub rows_below : {S : Type 0} (held : S → Held) (n : ℕ) (xs : List S) → rows_in held xs ≤ 65536 → rows_in held (take n xs) ≤ 65536
rows_below held n xs h = omega (arith, total_below (λ s. (held s).rows) xs n)

-- the rows of the first shelves and of the others
pub rows_parted : {S : Type 0} (held : S → Held) (n : ℕ) (xs : List S) → rows_in held xs ≡ rows_in held (take n xs) + rows_in held (drop n xs)
rows_parted held n xs = ap (rows_in held) (sym (take-append-drop n xs)) ∙ total-append (λ s. (held s).rows) (take n xs) (drop n xs)

-- all visits, as the first ones
pub seen_begun : {S : Type 0} (held : S → Held) (visited : S → List Visit) (columns : List ℕ) (old new : List S)
    → AllZip (λ s t. visited t ≡ visited s ++ visits_at (held s) columns) old new
    → AllZip (λ s t. VisitsPart (visited s) (visited t) (visits_at (held s) columns)) old new
seen_begun held visited columns old new z =
    zip_weaker (λ s t. visited t ≡ visited s ++ visits_at (held s) columns) (λ s t. VisitsPart (visited s) (visited t) (visits_at (held s) columns))
    (λ s t e. part_whole (visited s) (visited t) (visits_at (held s) columns) e) old new z

-- a list that was lent and is as long as it was
pub lent_back : (len : ℕ) (items words : List ℕ) → len ≡ length items → length words ≡ length items → take len (words ++ drop (length words) items) ≡ words
lent_back len items words size long =
    let at : len ≡ length words = size ∙ sym long in
    ap (λ (n : ℕ). take n (words ++ drop (length words) items)) at ∙ take-append_seam words (drop (length words) items)

length-zeroed : (keys : KeysRead) (start : ℕ) (numbers : List ℕ) → length (zeroed keys start numbers) ≡ length numbers
length-zeroed keys start numbers = length-sums numbers (parts_of keys.own keys.next start (length numbers)) (sym (length-listed (length numbers) _))

-- the words of a list that was lent
pub write_lent : {S T U : Type 0} (held : S → Held) (visited : S → List Visit) (column : ℕ) (tables : Tables) (keys : KeysRead) (start len : ℕ) (old new : List S)
    (items words : List ℕ) (at : U → List ℕ) (x : T) (y : U) → len ≡ length items → length items ≡ rows_in held old
    → at y ≡ take len (words ++ drop (length words) items)
    → WritesTo {T = T} held visited column (zeroed keys start (scans_of held column tables old)) old new (λ t. words) (Ok x)
    → WritesTo {T = U} held visited column (zeroed keys start (scans_of held column tables old)) old new at (Ok y)
write_lent held visited column tables keys start len old new items words at x y size long is w =
    let whole : length words ≡ length items =
    ap length w.written ∙ length-zeroed keys start (scans_of held column tables old) ∙ scans_long held column tables old ∙ sym long in
    record { same = w.same; written = is ∙ lent_back len items words size whole ∙ w.written; visits = w.visits; part = tt }

-- a server's shelves and tables
pub can_scan_to : {S : Type 0} (held : S → Held) (z : Sizes) (keys : KeysRead) (run j column : ℕ) (tables : Tables) (xs lent : List S) (to : List ℕ)
    → column ≡ column_of z j → column < z.widths.columns → CanScan held z keys run j xs → AreTables (view_from keys) run j tables → lent ≡ xs → length to ≡ z.rows
    → CanScanTo held column tables lent to
can_scan_to held z keys run j column tables xs lent to at there can are same long =
    subst (λ (l : List _). CanScanTo held column tables l to) (sym same)
    (record {
      ready = record {
        there = λ k d h. omega (arith, all_items (λ (x : Held). x.columns ≡ z.widths.columns) held xs can.rows.columns k d h, there);
        zeros = λ k d h.
            ap length are.zero ∙ can.tables.party0 run j can.there ∙ ap (width_of z.widths) (sym at)
            ∙ sym (all_items (λ (x : Held). x.width column ≡ width_of z.widths column) held xs (can.rows.wide column (omega (arith, there))) k d h);
        ones = λ k d h.
            ap length are.one ∙ can.tables.party1 run j can.there ∙ ap (width_of z.widths) (sym at)
            ∙ sym (all_items (λ (x : Held). x.width column ≡ width_of z.widths column) held xs (can.rows.wide column (omega (arith, there))) k d h);
      };
      long = long ∙ sym can.rows.count ∙ total-map (λ (h : Held). h.rows) held xs;
    })

-- a call that did nothing for want of memory
pub none_given : {S T : Type 0} (held : S → Held) (visited : S → List Visit) (z : Sizes) (keys : KeysRead) (run j : ℕ) (xs : List S) (words : T → List ℕ) (q : Result T Memory)
    → IsErr q → GivesBits held visited z keys run j xs xs words q
none_given held visited z keys run j xs words (Ok x) e = absurd cc
none_given held visited z keys run j xs words (Err m) e = record { same = refl; written = tt; visits = none_begun held visited (column_of z j ∷ []) xs }

-- a call that stopped
pub stopped_given : {S T U : Type 0} (held : S → Held) (visited : S → List Visit) (z : Sizes) (keys : KeysRead) (run j column len : ℕ) (words : List ℕ) (xs lent new : List S)
    (to : T → List ℕ) (at : U → List ℕ) (r : Result T Memory) (q : Result U Memory) → IsErr q → len ≡ length xs → lent ≡ xs → column ≡ column_of z j
    → WritesTo held visited column words lent new to r → GivesBits held visited z keys run j xs (take len (new ++ drop (length new) xs)) at q
stopped_given held visited z keys run j column len words xs lent new to at r (Ok x) e size same is w = absurd cc
stopped_given held visited z keys run j column len words xs lent new to at r (Err m) e size same is w = record {
  same = lent_held held len xs lent new size same w.same;
  written = tt;
  visits =
      rw (← is)
      (lent_as_left (λ s t. VisitsPart (visited s) (visited t) (visits_at (held s) (column ∷ []))) len xs lent new size same
      (column_begun held visited column lent new (any_part held visited column words lent new to r w)));
}

-- a call that had memory
pub bits_given : {S T : Type 0} (held : S → Held) (visited : S → List Visit) (z : Sizes) (keys : KeysRead) (run j column start len : ℕ) (tables : Tables) (xs lent new : List S)
    (to : T → List ℕ) (x : T) → len ≡ length xs → lent ≡ xs → column ≡ column_of z j → column < z.widths.columns → start ≡ counter_of (count_of z) run (bits j)
    → AreTables (view_from keys) run j tables → AreShelves z.widths z.rows (map held xs) → All (λ s. IsShelf (held s)) xs
    → WritesTo held visited column (zeroed keys start (scans_of held column tables lent)) lent new to (Ok x)
    → GivesBits held visited z keys run j xs (take len (new ++ drop (length new) xs)) to (Ok x)
bits_given held visited z keys run j column start len tables xs lent new to x size same is there from are shelves each w = record {
  same = lent_held held len xs lent new size same w.same;
  written =
      bits_are_words z run (view_from keys) (pieces_of (map held xs)) j keys.own keys.next start (scans_of held column tables lent) (to x) w.written
      (ap (scans_of held column tables) same ∙ scanned_together held z.widths z.rows xs column tables.zero tables.one (omega (arith, there)) shelves each
      ∙ numbers_are z run (view_from keys) (pieces_of (map held xs)) j tables.zero tables.one column is are.zero are.one)
      refl refl from;
  visits =
      rw (← is)
      (lent_as_left (λ s t. visited t ≡ visited s ++ visits_at (held s) (column ∷ [])) len xs lent new size same
      (column_seen held visited column lent new w.visits));
}

-- the words of two stretches at the three servers
pub fills_both : {S T U V : Type 0} (held : S → Held) (visited : S → List Visit) (column : ℕ) (tables : ThreeTables) (keys : ThreeKeys) (start later : ℕ)
    (z z' o o' t t' : List S) (x y w : List ℕ) (rz rz' ro ro' rt rt' : List S) (rx ry rw' : List ℕ) (a : Result T Memory) (b : Result U Memory) (r : Result V Memory)
    → later ≡ start + length x → CanFill held column tables start z o t x y w → (x' y' w' : List ℕ)
    → Fills held visited column tables keys start z z' o o' t t' (λ _. x') (λ _. y') (λ _. w') a
    → Fills held visited column tables keys later rz rz' ro ro' rt rt' (λ _. rx) (λ _. ry) (λ _. rw') b
    → OnOk r (IsOk a × IsOk b)
    → BothFill held visited column tables keys start z z' o o' t t' x' y' w' rz rz' ro ro' rt rt' rx ry rw' r
fills_both held visited column tables keys start later z z' o o' t t' x y w rz rz' ro ro' rt rt' rx ry rw' a b r e can x' y' w' front back done =
    let e1 : later ≡ start + rows_in held o = omega (arith, e, can.at1.long, can.long1) in
    let e2 : later ≡ start + rows_in held t = omega (arith, e, can.at2.long, can.long2) in
    let e0 : later ≡ start + rows_in held z = omega (arith, e, can.at0.long) in
    record {
      at0 = write_both held visited column tables.zero keys.zero start later z z' rz rz' x' rx a b r e0 front.at0 back.at0 done;
      at1 = write_both held visited column tables.one keys.one start later o o' ro ro' y' ry a b r e1 front.at1 back.at1 done;
      at2 = write_both held visited column tables.two keys.two start later t t' rt rt' w' rw' a b r e2 front.at2 back.at2 done;
    }

-- the first shelves, and the first places
ready_parts : {S : Type 0} (held : S → Held) (column near : ℕ) (zeros ones : List ℕ) (xs : List S) → AreReady held column zeros ones xs
    → AreReady held column zeros ones (take near xs) × AreReady held column zeros ones (drop near xs)
ready_parts held column near zeros ones xs are = (
  record {
    there = All-take (λ s. column ≤ (held s).columns) near xs are.there;
    zeros = All-take (λ s. length zeros ≡ (held s).width column) near xs are.zeros;
    ones = All-take (λ s. length ones ≡ (held s).width column) near xs are.ones;
  },
  record {
    there = All-drop (λ s. column ≤ (held s).columns) near xs are.there;
    zeros = All-drop (λ s. length zeros ≡ (held s).width column) near xs are.zeros;
    ones = All-drop (λ s. length ones ≡ (held s).width column) near xs are.ones;
  },
)

pub scan_front : {S : Type 0} (held : S → Held) (column near cut : ℕ) (tables : Tables) (xs : List S) (to : List ℕ) → rows_in held (take near xs) ≡ cut
    → CanScanTo held column tables xs to → CanScanTo held column tables (take near xs) (take cut to)
scan_front held column near cut tables xs to e can = record {
  ready = (ready_parts held column near tables.zero tables.one xs can.ready).0;
  long = omega (arith, length-take cut to, can.long, rows_parted held near xs, e);
}

pub scan_back : {S : Type 0} (held : S → Held) (column near cut : ℕ) (tables : Tables) (xs : List S) (to : List ℕ) → rows_in held (take near xs) ≡ cut
    → CanScanTo held column tables xs to → CanScanTo held column tables (drop near xs) (drop cut to)
scan_back held column near cut tables xs to e can = record {
  ready = (ready_parts held column near tables.zero tables.one xs can.ready).1;
  long = omega (arith, length-drop cut to, can.long, rows_parted held near xs, e);
}

pub fill_front : {S : Type 0} (held : S → Held) (column near cut : ℕ) (tables : ThreeTables) (start : ℕ) (zero one two : List S) (x y w : List ℕ)
    → AreCut held near cut zero one two → CanFill held column tables start zero one two x y w
    → CanFill held column tables start (take near zero) (take near one) (take near two) (take cut x) (take cut y) (take cut w)
fill_front held column near cut tables start zero one two x y w are can = record {
  at0 = scan_front held column near cut tables.zero zero x are.rows0 can.at0;
  at1 = scan_front held column near cut tables.one one y are.rows1 can.at1;
  at2 = scan_front held column near cut tables.two two w are.rows2 can.at2;
  long1 = omega (arith, length-take cut x, length-take cut y, can.long1);
  long2 = omega (arith, length-take cut x, length-take cut w, can.long2);
  few = omega (arith, length-take cut x, can.few);
  counters = omega (arith, length-take cut x, can.counters);
}

pub fill_back : {S : Type 0} (held : S → Held) (column near cut : ℕ) (tables : ThreeTables) (start : ℕ) (zero one two : List S) (x y w : List ℕ)
    → AreCut held near cut zero one two → CanFill held column tables start zero one two x y w
    → CanFill held column tables (start + length (take cut x)) (drop near zero) (drop near one) (drop near two) (drop cut x) (drop cut y) (drop cut w)
fill_back held column near cut tables start zero one two x y w are can = record {
  at0 = scan_back held column near cut tables.zero zero x are.rows0 can.at0;
  at1 = scan_back held column near cut tables.one one y are.rows1 can.at1;
  at2 = scan_back held column near cut tables.two two w are.rows2 can.at2;
  long1 = omega (arith, length-drop cut x, length-drop cut y, can.long1);
  long2 = omega (arith, length-drop cut x, length-drop cut w, can.long2);
  few = omega (arith, length-drop cut x, can.few);
  counters = omega (arith, length-take cut x, length-drop cut x, can.counters);
}

pub cut_within : {S : Type 0} (held : S → Held) (column near cut : ℕ) (tables : ThreeTables) (start : ℕ) (zero one two : List S) (x y w : List ℕ)
    → AreCut held near cut zero one two → CanFill held column tables start zero one two x y w → cut ≤ length x
cut_within held column near cut tables start zero one two x y w are can = omega (arith, are.rows0, can.at0.long, rows_parted held near zero)

-- a scan whose numbers are kept
pub scan_kept : {S : Type 0} (held : S → Held) (visited : S → List Visit) (column : ℕ) (tables : Tables) (old new : List S) (r : Result (List ℕ) Memory)
    → AllZip (λ s t. held t ≡ held s) old new → IfOk r (λ w. w ≡ scans_of held column tables old)
    → OnOk r (AllZip (λ s t. visited t ≡ visited s ++ visits_of (held s) column) old new)
    → OnErr r (AllZip (λ s t. VisitsPart (visited s) (visited t) (visits_of (held s) column)) old new)
    → WritesTo held visited column (scans_of held column tables old) old new (λ w. w) r
scan_kept held visited column tables old new r same written visits part = record { same = same; written = written; visits = visits; part = part }

-- a scan that had memory, and its numbers with their parts of zero
pub scan_zeroed : {S U : Type 0} (held : S → Held) (visited : S → List Visit) (column : ℕ) (tables : Tables) (keys : KeysRead) (start : ℕ) (old new : List S) (numbers : List ℕ)
    (r : Result (List ℕ) Memory) (at : U → List ℕ) (y : U) → r ≡ Ok numbers → WritesTo held visited column (scans_of held column tables old) old new (λ w. w) r
    → at y ≡ zeroed keys start numbers → WritesTo held visited column (zeroed keys start (scans_of held column tables old)) old new at (Ok y)
scan_zeroed held visited column tables keys start old new numbers r at y e k is =
    let P : Result (List ℕ) Memory → Type 0 = λ q. WritesTo held visited column (scans_of held column tables old) old new (λ (w : List ℕ). w) q in
    let done : WritesTo {T = List ℕ} held visited column (scans_of held column tables old) old new (λ w. w) (Ok numbers) = subst P e k in
    record { same = done.same; written = is ∙ ap (zeroed keys start) done.written; visits = done.visits; part = tt }

-- as many numbers as the server has rows
pub scan_whole : {S : Type 0} (held : S → Held) (z : Sizes) (column : ℕ) (tables : Tables) (xs lent : List S) → AreShelves z.widths z.rows (map held xs) → lent ≡ xs
    → length (scans_of held column tables lent) ≡ z.rows
scan_whole held z column tables xs lent are same =
    scans_long held column tables lent ∙ ap (rows_in held) same ∙ sym (total-map (λ (h : Held). h.rows) held xs) ∙ are.count

-- the numbers of a scan are as many as there are rows
pub kept_long : {S : Type 0} (held : S → Held) (column : ℕ) (tables : Tables) (old : List S) (numbers : List ℕ) (r : Result (List ℕ) Memory)
    → r ≡ Ok numbers → IfOk r (λ w. w ≡ scans_of held column tables old) → length numbers ≡ rows_in held old
kept_long held column tables old numbers r e written =
    let P : Result (List ℕ) Memory → Type 0 = λ q. IfOk q (λ (w : List ℕ). w ≡ scans_of held column tables old) in
    let same : numbers ≡ scans_of held column tables old = subst P e written in
    ap length same ∙ scans_long held column tables old

-- nothing was done for want of memory
pub none_written : {S T : Type 0} (held : S → Held) (visited : S → List Visit) (column : ℕ) (words : List ℕ) (xs : List S) (to : T → List ℕ) (q : Result T Memory)
    → IsErr q → WritesTo held visited column words xs xs to q
none_written held visited column words xs to (Ok x) e = absurd cc
none_written held visited column words xs to (Err m) e = record {
  same = zip_self (λ s t. held t ≡ held s) (λ s. refl) xs;
  written = tt;
  visits = tt;
  part = zip_self (λ s t. VisitsPart (visited s) (visited t) (visits_of (held s) column)) (λ s. part_none (visited s) (visits_of (held s) column)) xs;
}

-- other lists with a place for each row
pub fill_other : {S : Type 0} (held : S → Held) (column : ℕ) (tables : ThreeTables) (start : ℕ) (zero one two : List S) (x y w x' y' w' : List ℕ) (n : ℕ)
    → CanFill held column tables start zero one two x y w → rows_in held zero ≡ n → length x' ≡ n → length y' ≡ n → length w' ≡ n
    → CanFill held column tables start zero one two x' y' w'
fill_other held column tables start zero one two x y w x' y' w' n can count ex ey ew = record {
  at0 = record { ready = can.at0.ready; long = omega (arith, ex, count) };
  at1 = record { ready = can.at1.ready; long = omega (arith, ey, count, can.at0.long, can.at1.long, can.long1) };
  at2 = record { ready = can.at2.ready; long = omega (arith, ew, count, can.at0.long, can.at2.long, can.long2) };
  long1 = omega (arith, ex, ey);
  long2 = omega (arith, ex, ew);
  few = omega (arith, ex, count, can.at0.long, can.few);
  counters = omega (arith, ex, count, can.at0.long, can.counters);
}
