-- Visits of a server's shelves.
use Rattle.std.proofs.Common.{◌≡◌, ◌∙◌, sym, ap, subst, ℕ, List, [], ◌∷◌, ◌++◌, length, map, take, drop, get_or, slice_set, ◌+◌, ◌-◌, ◌<◌, ◌≤◌, append-nil, append_assoc, take-append-drop, arith, Result, Ok, Err}
use Rattle.std.specs.List.{AllZip}
use Rattle.std.specs.Result.{IsErr}
use Rattle.std.proofs.Math.Seq.{take-append_seam}
use Rattle.std.proofs.lemmas.List.{length-map, take_all}
use Rattle.std.proofs.lemmas.Grind.{flat_map-append}
use Rattle.std.proofs.lemmas.Slice.Zip.{AllZip-long}
use Rattle.list_facts.specs.Listed.{listed}
use Rattle.list_facts.proofs.Listed.{listed-append, listed_more}
use Rattle.ring128.specs.declared.memory.Memory.{Memory}
use Rattle.scan_chunks.specs.Shelf.{Held}
use Rattle.scan_chunks.specs.Scan.{visits_of, VisitsPart}
use Rattle.scan_chunks.specs.declared.visit.Visit.{Visit}
use Rattle.scan_chunks.proofs.Shelves.{AreScanned, IsScanned, item_left, part_none, part_whole, zip_more, zip_set, zip_weaker}
use Rattle.server_rounds.specs.declared.servers.Servers.{Servers}
use Rattle.server_rounds.specs.Visits.{visits_at, AllVisited, AreVisited}

-- shelves that were lent are as the call left them
pub lent_as_left : {S : Type 0} (Q : S → S → Type 0) (len : ℕ) (old lent new : List S) → len ≡ length old → lent ≡ old → AllZip Q lent new
    → AllZip Q old (take len (new ++ drop (length new) old))
lent_as_left Q len old lent new size same z =
    let long : length new ≡ length lent = AllZip-long Q lent new z in
    let at : len ≡ length new = omega (arith, ap length same) in
    let left : take len (new ++ drop (length new) old) ≡ new = ap (λ (n : ℕ). take n (new ++ drop (length new) old)) at ∙ take-append_seam new (drop (length new) old) in
    subst (λ (l : List _). AllZip Q l (take len (new ++ drop (length new) old))) same (subst (λ (l : List _). AllZip Q lent l) (sym left) z)

one_column : (h : Held) (column : ℕ) → visits_of h column ≡ visits_at h (column ∷ [])
one_column h column = sym (append-nil (visits_of h column))

-- a column was visited, or its first chunks
pub column_seen : {S : Type 0} (held : S → Held) (visited : S → List Visit) (column : ℕ) (old new : List S)
    → AllZip (λ s t. visited t ≡ visited s ++ visits_of (held s) column) old new → AllZip (λ s t. visited t ≡ visited s ++ visits_at (held s) (column ∷ [])) old new
column_seen held visited column old new z =
    zip_weaker (λ s t. visited t ≡ visited s ++ visits_of (held s) column) (λ s t. visited t ≡ visited s ++ visits_at (held s) (column ∷ []))
    (λ s t e. e ∙ ap (λ (l : List Visit). visited s ++ l) (one_column (held s) column)) old new z

pub column_begun : {S : Type 0} (held : S → Held) (visited : S → List Visit) (column : ℕ) (old new : List S)
    → AllZip (λ s t. VisitsPart (visited s) (visited t) (visits_of (held s) column)) old new
    → AllZip (λ s t. VisitsPart (visited s) (visited t) (visits_at (held s) (column ∷ []))) old new
column_begun held visited column old new z =
    zip_weaker (λ s t. VisitsPart (visited s) (visited t) (visits_of (held s) column)) (λ s t. VisitsPart (visited s) (visited t) (visits_at (held s) (column ∷ [])))
    (λ s t p. (p.0, p.1 ∙ ap (λ (l : List Visit). visited s ++ take p.0 l) (one_column (held s) column))) old new z

zip_self : {A : Type 0} (Q : A → A → Type 0) → ((x : A) → Q x x) → (xs : List A) → AllZip Q xs xs
zip_self Q same [] = tt
zip_self Q same (x ∷ xs) = (same x, zip_self Q same xs)

-- nothing was visited
pub none_seen : {S : Type 0} (held : S → Held) (visited : S → List Visit) (xs : List S) → AllZip (λ s t. visited t ≡ visited s ++ visits_at (held s) []) xs xs
none_seen held visited xs = zip_self (λ s t. visited t ≡ visited s ++ visits_at (held s) []) (λ s. sym (append-nil (visited s))) xs

pub none_begun : {S : Type 0} (held : S → Held) (visited : S → List Visit) (columns : List ℕ) (xs : List S)
    → AllZip (λ s t. VisitsPart (visited s) (visited t) (visits_at (held s) columns)) xs xs
none_begun held visited columns xs =
    zip_self (λ s t. VisitsPart (visited s) (visited t) (visits_at (held s) columns)) (λ s. part_none (visited s) (visits_at (held s) columns)) xs

-- out of memory after the first of the visits
pub visited_stopped : {S T : Type 0} (held : S → Held) (visited : S → List Visit) (columns : List ℕ) (old new : List S) (r : Result T Memory) → IsErr r
    → AllZip (λ s t. VisitsPart (visited s) (visited t) (visits_at (held s) columns)) old new → AreVisited held visited columns old new r
visited_stopped held visited columns old new (Ok x) e z = absurd cc
visited_stopped held visited columns old new (Err m) e z = z

-- the shelves between two calls hold what they held before
zip_through : {S : Type 0} (held : S → Held) (P Q R : S → S → Type 0) → ((s m t : S) → held m ≡ held s → P s m → Q m t → R s t) → (old mid new : List S)
    → map held mid ≡ map held old → AllZip P old mid → AllZip Q mid new → AllZip R old new
zip_through held P Q R both [] [] [] e z w = tt
zip_through held P Q R both [] [] (t ∷ new) e z w = absurd w
zip_through held P Q R both [] (m ∷ mid) new e z w = absurd z
zip_through held P Q R both (s ∷ old) [] new e z w = absurd z
zip_through held P Q R both (s ∷ old) (m ∷ mid) [] e z w = absurd w
zip_through held P Q R both (s ∷ old) (m ∷ mid) (t ∷ new) e z w =
    let first : held m ≡ held s = ap (λ (l : List Held). get_or l 0 (held s)) e in
    let others : map held mid ≡ map held old = ap (λ (l : List Held). drop 1 l) e in
    (both s m t first z.0 w.0, zip_through held P Q R both old mid new others z.1 w.1)

-- the first of the visits that were to come
part_first : (old new front rest wanted : List Visit) → new ≡ old ++ front → front ++ rest ≡ wanted → VisitsPart old new wanted
part_first old new front rest wanted e f =
    (length front, e ∙ ap (λ (l : List Visit). old ++ l) (sym (take-append_seam front rest) ∙ ap (λ (l : List Visit). take (length front) l) f))

visits_both : (h : Held) (xs ys : List ℕ) → visits_at h xs ++ visits_at h ys ≡ visits_at h (xs ++ ys)
visits_both h xs ys = sym (flat_map-append (visits_of h) xs ys)

-- a shelf that was visited at some columns, and then at others
shelf_then : (a b c : List Visit) (h k : Held) (xs ys : List ℕ) → k ≡ h → b ≡ a ++ visits_at h xs → c ≡ b ++ visits_at k ys → c ≡ a ++ visits_at h (xs ++ ys)
shelf_then a b c h k xs ys same e f =
    f ∙ ap (λ (x : Held). b ++ visits_at x ys) same ∙ ap (λ (l : List Visit). l ++ visits_at h ys) e ∙ append_assoc a (visits_at h xs) (visits_at h ys)
    ∙ ap (λ (l : List Visit). a ++ l) (visits_both h xs ys)

shelf_begun : (a b c : List Visit) (h k : Held) (xs ys : List ℕ) → k ≡ h → b ≡ a ++ visits_at h xs → VisitsPart b c (visits_at k ys)
    → VisitsPart a c (visits_at h (xs ++ ys))
shelf_begun a b c h k xs ys same e p =
    let front = take p.0 (visits_at h ys) in
    let rest = drop p.0 (visits_at h ys) in
    let made : c ≡ a ++ (visits_at h xs ++ front) =
    p.1 ∙ ap (λ (x : Held). b ++ take p.0 (visits_at x ys)) same ∙ ap (λ (l : List Visit). l ++ front) e ∙ append_assoc a (visits_at h xs) front in
    let whole : (visits_at h xs ++ front) ++ rest ≡ visits_at h (xs ++ ys) =
    append_assoc (visits_at h xs) front rest ∙ ap (λ (l : List Visit). visits_at h xs ++ l) (take-append-drop p.0 (visits_at h ys)) ∙ visits_both h xs ys in
    part_first a c (visits_at h xs ++ front) rest (visits_at h (xs ++ ys)) made whole

shelf_cut : (a c : List Visit) (h : Held) (xs ys : List ℕ) → VisitsPart a c (visits_at h xs) → VisitsPart a c (visits_at h (xs ++ ys))
shelf_cut a c h xs ys p =
    let front = take p.0 (visits_at h xs) in
    let rest = drop p.0 (visits_at h xs) in
    let whole : front ++ (rest ++ visits_at h ys) ≡ visits_at h (xs ++ ys) =
    sym (append_assoc front rest (visits_at h ys)) ∙ ap (λ (l : List Visit). l ++ visits_at h ys) (take-append-drop p.0 (visits_at h xs)) ∙ visits_both h xs ys in
    part_first a c front (rest ++ visits_at h ys) (visits_at h (xs ++ ys)) p.1 whole

-- a call that had memory made all of its visits, and any call the first of them
pub visited_ok : {S T : Type 0} (held : S → Held) (visited : S → List Visit) (columns : List ℕ) (old new : List S) (r : Result T Memory) (x : T) → r ≡ Ok x
    → AreVisited held visited columns old new r → AllZip (λ s t. visited t ≡ visited s ++ visits_at (held s) columns) old new
visited_ok held visited columns old new r x e z = subst (λ (q : Result _ Memory). AreVisited held visited columns old new q) e z

pub visited_begun : {S T : Type 0} (held : S → Held) (visited : S → List Visit) (columns : List ℕ) (old new : List S) (r : Result T Memory)
    → AreVisited held visited columns old new r → AllZip (λ s t. VisitsPart (visited s) (visited t) (visits_at (held s) columns)) old new
visited_begun held visited columns old new (Ok x) z =
    zip_weaker (λ s t. visited t ≡ visited s ++ visits_at (held s) columns) (λ s t. VisitsPart (visited s) (visited t) (visits_at (held s) columns))
    (λ s t e. part_whole (visited s) (visited t) (visits_at (held s) columns) e) old new z
visited_begun held visited columns old new (Err m) z = z

-- a call after one that had memory
visited_then : {S T : Type 0} (held : S → Held) (visited : S → List Visit) (xs ys : List ℕ) (old mid new : List S) (r : Result T Memory) → map held mid ≡ map held old
    → AllZip (λ s t. visited t ≡ visited s ++ visits_at (held s) xs) old mid → AreVisited held visited ys mid new r → AreVisited held visited (xs ++ ys) old new r
visited_then held visited xs ys old mid new (Ok x) same z w =
    zip_through held (λ s t. visited t ≡ visited s ++ visits_at (held s) xs) (λ s t. visited t ≡ visited s ++ visits_at (held s) ys)
    (λ s t. visited t ≡ visited s ++ visits_at (held s) (xs ++ ys))
    (λ s m t h e f. shelf_then (visited s) (visited m) (visited t) (held s) (held m) xs ys h e f) old mid new same z w
visited_then held visited xs ys old mid new (Err m) same z w =
    zip_through held (λ s t. visited t ≡ visited s ++ visits_at (held s) xs) (λ s t. VisitsPart (visited s) (visited t) (visits_at (held s) ys))
    (λ s t. VisitsPart (visited s) (visited t) (visits_at (held s) (xs ++ ys)))
    (λ s m t h e f. shelf_begun (visited s) (visited m) (visited t) (held s) (held m) xs ys h e f) old mid new same z w

-- the call stops, out of memory, after it visited some columns
visited_cut : {S T U : Type 0} (held : S → Held) (visited : S → List Visit) (xs ys : List ℕ) (old new : List S) (r : Result T Memory) (q : Result U Memory) → IsErr q
    → AreVisited held visited xs old new r → AreVisited held visited (xs ++ ys) old new q
visited_cut held visited xs ys old new r q e z =
    visited_stopped held visited (xs ++ ys) old new q e
    (zip_weaker (λ s t. VisitsPart (visited s) (visited t) (visits_at (held s) xs)) (λ s t. VisitsPart (visited s) (visited t) (visits_at (held s) (xs ++ ys)))
    (λ s t p. shelf_cut (visited s) (visited t) (held s) xs ys p) old new (visited_begun held visited xs old new r z))

-- the same at the three servers
pub all_none : {S U : Type 0} (held : S → Held) (visited : S → List Visit) (columns : List ℕ) (old : Servers S) (q : Result U Memory) → IsErr q
    → AllVisited held visited columns old old q
all_none held visited columns old q e = record {
  zero = visited_stopped held visited columns old.zero.items old.zero.items q e (none_begun held visited columns old.zero.items);
  one = visited_stopped held visited columns old.one.items old.one.items q e (none_begun held visited columns old.one.items);
  two = visited_stopped held visited columns old.two.items old.two.items q e (none_begun held visited columns old.two.items);
}

pub all_cut : {S T U : Type 0} (held : S → Held) (visited : S → List Visit) (xs ys : List ℕ) (old new : Servers S) (r : Result T Memory) (q : Result U Memory) → IsErr q
    → AllVisited held visited xs old new r → AllVisited held visited (xs ++ ys) old new q
all_cut held visited xs ys old new r q e z = record {
  zero = visited_cut held visited xs ys old.zero.items new.zero.items r q e z.zero;
  one = visited_cut held visited xs ys old.one.items new.one.items r q e z.one;
  two = visited_cut held visited xs ys old.two.items new.two.items r q e z.two;
}

pub all_fails : {S T U : Type 0} (held : S → Held) (visited : S → List Visit) (columns : List ℕ) (old new : Servers S) (r : Result T Memory) (q : Result U Memory) → IsErr q
    → AllVisited held visited columns old new r → AllVisited held visited columns old new q
all_fails held visited columns old new r q e z = record {
  zero = visited_stopped held visited columns old.zero.items new.zero.items q e (visited_begun held visited columns old.zero.items new.zero.items r z.zero);
  one = visited_stopped held visited columns old.one.items new.one.items q e (visited_begun held visited columns old.one.items new.one.items r z.one);
  two = visited_stopped held visited columns old.two.items new.two.items q e (visited_begun held visited columns old.two.items new.two.items r z.two);
}

pub all_then : {S T U : Type 0} (held : S → Held) (visited : S → List Visit) (xs ys : List ℕ) (old mid new : Servers S) (x : T) (q : Result U Memory)
    → map held mid.zero.items ≡ map held old.zero.items → map held mid.one.items ≡ map held old.one.items → map held mid.two.items ≡ map held old.two.items
    → AllVisited {S = S} {T = T} held visited xs old mid (Ok x) → AllVisited held visited ys mid new q → AllVisited held visited (xs ++ ys) old new q
all_then held visited xs ys old mid new x q same0 same1 same2 z w = record {
  zero = visited_then held visited xs ys old.zero.items mid.zero.items new.zero.items q same0 z.zero w.zero;
  one = visited_then held visited xs ys old.one.items mid.one.items new.one.items q same1 z.one w.one;
  two = visited_then held visited xs ys old.two.items mid.two.items new.two.items q same2 z.two w.two;
}

-- the result does not matter where there was memory
pub all_done : {S T U : Type 0} (held : S → Held) (visited : S → List Visit) (columns : List ℕ) (old new : Servers S) (x : T) (y : U)
    → AllVisited {S = S} {T = T} held visited columns old new (Ok x) → AllVisited {S = S} {T = U} held visited columns old new (Ok y)
all_done held visited columns old new x y z = record { zero = z.zero; one = z.one; two = z.two }

-- from what each server's call made
pub all_made : {S T : Type 0} (held : S → Held) (visited : S → List Visit) (columns : List ℕ) (old new : Servers S) (r0 r1 r2 : Result (List ℕ) Memory) (x0 x1 x2 : List ℕ) (x : T)
    → r0 ≡ Ok x0 → r1 ≡ Ok x1 → r2 ≡ Ok x2 → AreVisited held visited columns old.zero.items new.zero.items r0
    → AreVisited held visited columns old.one.items new.one.items r1 → AreVisited held visited columns old.two.items new.two.items r2
    → AllVisited {S = S} {T = T} held visited columns old new (Ok x)
all_made held visited columns old new r0 r1 r2 x0 x1 x2 x e0 e1 e2 z0 z1 z2 = record {
  zero = visited_ok held visited columns old.zero.items new.zero.items r0 x0 e0 z0;
  one = visited_ok held visited columns old.one.items new.one.items r1 x1 e1 z1;
  two = visited_ok held visited columns old.two.items new.two.items r2 x2 e2 z2;
}

pub all_stopped : {S T : Type 0} (held : S → Held) (visited : S → List Visit) (columns : List ℕ) (old new : Servers S) (r0 r1 r2 : Result (List ℕ) Memory) (q : Result T Memory) → IsErr q
    → AreVisited held visited columns old.zero.items new.zero.items r0 → AreVisited held visited columns old.one.items new.one.items r1
    → AreVisited held visited columns old.two.items new.two.items r2 → AllVisited held visited columns old new q
all_stopped held visited columns old new r0 r1 r2 q e z0 z1 z2 = record {
  zero = visited_stopped held visited columns old.zero.items new.zero.items q e (visited_begun held visited columns old.zero.items new.zero.items r0 z0);
  one = visited_stopped held visited columns old.one.items new.one.items q e (visited_begun held visited columns old.one.items new.one.items r1 z1);
  two = visited_stopped held visited columns old.two.items new.two.items q e (visited_begun held visited columns old.two.items new.two.items r2 z2);
}

-- columns listed by place, visited one after another: a call at the next one, and a call that stops before the last one
pub all_more : {S T U : Type 0} (held : S → Held) (visited : S → List Visit) (m : ℕ) (f : ℕ → ℕ) (old mid new : Servers S) (x : T) (q : Result U Memory)
    → map held mid.zero.items ≡ map held old.zero.items → map held mid.one.items ≡ map held old.one.items → map held mid.two.items ≡ map held old.two.items
    → AllVisited {S = S} {T = T} held visited (listed m f) old mid (Ok x) → AllVisited held visited (f m ∷ []) mid new q
    → AllVisited held visited (listed (m + 1) f) old new q
all_more held visited m f old mid new x q same0 same1 same2 z w =
    subst (λ (l : List ℕ). AllVisited held visited l old new q) (listed_more m f)
    (all_then held visited (listed m f) (f m ∷ []) old mid new x q same0 same1 same2 z w)

pub all_first : {S T U : Type 0} (held : S → Held) (visited : S → List Visit) (m n : ℕ) (f : ℕ → ℕ) (old new : Servers S) (r : Result T Memory) (q : Result U Memory)
    → m ≤ n → IsErr q → AllVisited held visited (listed m f) old new r → AllVisited held visited (listed n f) old new q
all_first held visited m n f old new r q h e z =
    let whole : m + (n - m) ≡ n = omega arith in
    subst (λ (l : List ℕ). AllVisited held visited l old new q) (sym (listed-append m (n - m) f) ∙ ap (λ (k : ℕ). listed k f) whole)
    (all_cut held visited (listed m f) (listed (n - m) (λ i. f (m + i))) old new r q e z)

-- a column is read shelf by shelf: the shelves before place i were visited, and the others are as they were
kept_long : {S : Type 0} (held : S → Held) (old now : List S) → map held now ≡ map held old → length now ≡ length old
kept_long held old now e = omega (arith, length-map now held, length-map old held, ap length e)

pub column_more : {S : Type 0} (held : S → Held) (visited : S → List Visit) (column : ℕ) (old now : List S) (i : ℕ) (d y : S) → i < length old → map held now ≡ map held old
    → AreScanned held visited column (take i old) (take i now) → drop i now ≡ drop i old → d ≡ get_or now i d
    → held y ≡ held d → visited y ≡ visited d ++ visits_of (held d) column → AreScanned held visited column (take (i + 1) old) (take (i + 1) (slice_set now i y))
column_more held visited column old now i d y h same z rest is kept seen =
    let at : d ≡ get_or old i d = is ∙ item_left old now i d rest in
    let long = kept_long held old now same in
    zip_more (IsScanned held visited column) old now i d y h (omega (arith, long)) z
    (record { same = kept ∙ ap held at; seen = subst (λ (s : _). visited y ≡ visited s ++ visits_of (held s) column) at seen })

pub column_stops : {S : Type 0} (held : S → Held) (visited : S → List Visit) (column : ℕ) (old now : List S) (i : ℕ) (d y : S) → i < length old → map held now ≡ map held old
    → AreScanned held visited column (take i old) (take i now) → drop i now ≡ drop i old → d ≡ get_or now i d
    → VisitsPart (visited d) (visited y) (visits_of (held d) column)
    → AllZip (λ s t. VisitsPart (visited s) (visited t) (visits_at (held s) (column ∷ []))) old (slice_set now i y)
column_stops held visited column old now i d y h same z rest is part =
    let at : d ≡ get_or old i d = is ∙ item_left old now i d rest in
    let long = kept_long held old now same in
    column_begun held visited column old (slice_set now i y)
    (zip_set (λ s t. VisitsPart (visited s) (visited t) (visits_of (held s) column)) (λ s. part_none (visited s) (visits_of (held s) column)) old now i d y h (omega (arith, long))
    (zip_weaker (IsScanned held visited column) (λ s t. VisitsPart (visited s) (visited t) (visits_of (held s) column))
    (λ s t p. part_whole (visited s) (visited t) (visits_of (held s) column) p.seen) (take i old) (take i now) z)
    rest (subst (λ (s : _). VisitsPart (visited s) (visited y) (visits_of (held s) column)) at part))

pub column_all : {S : Type 0} (held : S → Held) (visited : S → List Visit) (column : ℕ) (old now : List S) (i : ℕ) → length old ≤ i → map held now ≡ map held old
    → AreScanned held visited column (take i old) (take i now) → AllZip (λ s t. visited t ≡ visited s ++ visits_at (held s) (column ∷ [])) old now
column_all held visited column old now i h same z =
    let long = kept_long held old now same in
    let before : take i old ≡ old = take_all i old h in
    let after : take i now ≡ now = take_all i now (omega (arith, long)) in
    column_seen held visited column old now
    (zip_weaker (IsScanned held visited column) (λ s t. visited t ≡ visited s ++ visits_of (held s) column) (λ s t p. p.seen) old now (rw (before, after) at z))
