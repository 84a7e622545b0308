-- Shelves, one after another.
use Rattle.std.proofs.Common.{◌≡◌, ◌∙◌, refl, sym, ap, subst, ℕ, ◌+◌, ◌<◌, List, [], ◌∷◌, ◌++◌, length, take, drop, get_or, slice_set, Result, Ok, Err, IfOk, OnErr, OnOk, add-one, append-nil, arith}
use Rattle.std.specs.List.{AllZip, flat_map}
use Rattle.ring128.specs.declared.memory.Memory.{Memory}
use Rattle.std.proofs.Math.Seq.{take-length}
use Rattle.std.proofs.lemmas.List.{take_more, take_more_set, take-append-drop, drop-set-lt, set_split, drop_more, get_or-drop}
use Rattle.std.proofs.lemmas.List.Elements.{AllZip-push}
use Rattle.std.proofs.lemmas.Grind.{flat_map-append, drop_more_same}
use Rattle.scan_chunks.specs.Shelf.{Held}
use Rattle.scan_chunks.specs.Halves.{AreJoined, Scans}
use Rattle.scan_chunks.specs.Scan.{visits_of, VisitsPart}
use Rattle.scan_chunks.specs.declared.visit.Visit.{Visit}

-- a shelf before and after a scan of a column
pub record IsScanned {S : Type 0} (held : S → Held) (visited : S → List Visit) (column : ℕ) (before after : S) : Type 0 where
  pub same : held after ≡ held before
  pub seen : visited after ≡ visited before ++ visits_of (held before) column

abbrev pub AreScanned : {S : Type 0} → (S → Held) → (S → List Visit) → ℕ → List S → List S → Type 0
AreScanned held visited column = AllZip (IsScanned held visited column)

zip_same : {A : Type 0} (Q : A → A → Type 0) → ((x : A) → Q x x) → (xs : List A) → AllZip Q xs xs
zip_same Q same [] = tt
zip_same Q same (x ∷ xs) = (same x, zip_same Q same xs)

zip_append : {A : Type 0} (Q : A → A → Type 0) (xs ys us vs : List A) → AllZip Q xs ys → AllZip Q us vs → AllZip Q (xs ++ us) (ys ++ vs)
zip_append Q [] [] us vs z w = w
zip_append Q [] (y ∷ ys) us vs z w = absurd z
zip_append Q (x ∷ xs) [] us vs z w = absurd z
zip_append Q (x ∷ xs) (y ∷ ys) us vs z w = (z.0, zip_append Q xs ys us vs z.1 w)

pub zip_weaker : {A : Type 0} (P Q : A → A → Type 0) → ((x y : A) → P x y → Q x y) → (xs ys : List A) → AllZip P xs ys → AllZip Q xs ys
zip_weaker P Q weaker [] [] z = tt
zip_weaker P Q weaker [] (y ∷ ys) z = absurd z
zip_weaker P Q weaker (x ∷ xs) [] z = absurd z
zip_weaker P Q weaker (x ∷ xs) (y ∷ ys) z = (weaker x y z.0, zip_weaker P Q weaker xs ys z.1)

-- the items from place i on are as they were: so is item i
pub item_left : {A : Type 0} (old now : List A) (i : ℕ) (d : A) → drop i now ≡ drop i old → get_or now i d ≡ get_or old i d
item_left old now i d e =
    let at : i + 0 ≡ i = omega arith in
    ap (λ (k : ℕ). get_or now k d) (sym at) ∙ sym (get_or-drop i now 0 d) ∙ ap (λ (l : List _). get_or l 0 d) e ∙ get_or-drop i old 0 d ∙ ap (λ (k : ℕ). get_or old k d) at

-- the first i items were replaced, item i is now, and the others are as they were
pub zip_set : {A : Type 0} (Q : A → A → Type 0) → ((x : A) → Q x x) → (old now : List A) (i : ℕ) (d y : A) → i < length old → i < length now
    → AllZip Q (take i old) (take i now) → drop i now ≡ drop i old → Q (get_or old i d) y → AllZip Q old (slice_set now i y)
zip_set Q same old now i d y h k z e q =
    let rest : drop (i + 1) now ≡ drop (i + 1) old = drop_more_same now old i e in
    let whole : old ≡ take i old ++ get_or old i d ∷ drop (i + 1) old = sym (take-append-drop i old) ∙ ap (λ (l : List _). take i old ++ l) (drop_more old i d h) in
    let changed : slice_set now i y ≡ take i now ++ y ∷ drop (i + 1) old =
    set_split now i y k ∙ rw (← (add-one i)) (ap (λ (l : List _). take i now ++ y ∷ l) rest) in
    let both = zip_append Q (take i old) (take i now) (get_or old i d ∷ drop (i + 1) old) (y ∷ drop (i + 1) old) z (q, zip_same Q same (drop (i + 1) old)) in
    rw changed (subst (λ (l : List _). AllZip Q l (take i now ++ y ∷ drop (i + 1) old)) (sym whole) both)

-- one item more is replaced
pub zip_more : {A : Type 0} (Q : A → A → Type 0) (old now : List A) (i : ℕ) (d y : A) → i < length old → i < length now
    → AllZip Q (take i old) (take i now) → Q (get_or old i d) y → AllZip Q (take (i + 1) old) (take (i + 1) (slice_set now i y))
zip_more Q old now i d y h k z q = rw (take_more old i d h, take_more_set now i y k) (AllZip-push Q (take i old) (take i now) (get_or old i d) y z q)

pub rest_more : {A : Type 0} (old now : List A) (i : ℕ) (y : A) → drop i now ≡ drop i old → drop (i + 1) (slice_set now i y) ≡ drop (i + 1) old
rest_more old now i y e = drop-set-lt (i + 1) now i y (omega arith) ∙ drop_more_same now old i e

pub flat_map_more : {A : Type 0} (f : A → List ℕ) (old : List A) (i : ℕ) (d : A) → i < length old
    → flat_map f (take i old) ++ f (get_or old i d) ≡ flat_map f (take (i + 1) old)
flat_map_more f old i d h =
    sym (rw (take_more old i d h, flat_map-append) (ap (λ (l : List ℕ). flat_map f (take i old) ++ l) (append-nil (f (get_or old i d)))))

-- a whole scan, and none, as parts of one
pub part_whole : (old new wanted : List Visit) → new ≡ old ++ wanted → VisitsPart old new wanted
part_whole old new wanted e = (length wanted, e ∙ ap (λ (l : List Visit). old ++ l) (sym (take-length wanted)))

pub part_none : (old wanted : List Visit) → VisitsPart old old wanted
part_none old wanted = (0, sym (append-nil old))

pub on_err : {T E : Type 0} (r : Result T E) (P : Type 0) → P → OnErr r P
on_err (Ok x) P p = tt
on_err (Err e) P p = p

pub on_ok : {T E : Type 0} (r : Result T E) (P : Type 0) → P → OnOk r P
on_ok (Ok x) P p = p
on_ok (Err e) P p = tt

-- whatever a scan came to, the visits are the first ones
visits_part : {S : Type 0} (held : S → Held) (visited : S → List Visit) (column : ℕ) (zero one : List ℕ) (old new : List S) (r : Result (List ℕ) Memory)
    → Scans held visited column zero one old new r → AllZip (λ s t. VisitsPart (visited s) (visited t) (visits_of (held s) column)) old new
visits_part held visited column zero one old new (Ok w) scans =
    zip_weaker (λ s t. visited t ≡ visited s ++ visits_of (held s) column) (λ s t. VisitsPart (visited s) (visited t) (visits_of (held s) column))
    (λ s t e. part_whole (visited s) (visited t) (visits_of (held s) column) e) old new scans.visits
visits_part held visited column zero one old new (Err e) scans = scans.part

-- the scans of two lists of shelves, from which these numbers were joined
pub scans_joined : {S : Type 0} (held : S → Held) (visited : S → List Visit) (column : ℕ) (zero one : List ℕ) (old new old' new' : List S) (a b r : Result (List ℕ) Memory)
    → Scans held visited column zero one old new a → Scans held visited column zero one old' new' b → IfOk r (AreJoined a b)
    → Scans held visited column zero one (old ++ old') (new ++ new') r
scans_joined held visited column zero one old new old' new' a b (Err e) scans scans' joined = record {
  same = zip_append (λ s t. held t ≡ held s) old new old' new' scans.same scans'.same;
  numbers = tt;
  visits = tt;
  part =
      zip_append (λ s t. VisitsPart (visited s) (visited t) (visits_of (held s) column)) old new old' new'
      (visits_part held visited column zero one old new a scans) (visits_part held visited column zero one old' new' b scans');
}
scans_joined held visited column zero one old new old' new' a b (Ok w) scans scans' joined =
    let xs = joined.0 in
    let ys = joined.1 in
    let P : Result (List ℕ) Memory → Type 0 = λ r. Scans held visited column zero one old new r in
    let Q : Result (List ℕ) Memory → Type 0 = λ r. Scans held visited column zero one old' new' r in
    let front : Scans held visited column zero one old new (Ok xs) = subst P joined.2 scans in
    let back : Scans held visited column zero one old' new' (Ok ys) = subst Q joined.3 scans' in
    record {
      same = zip_append (λ s t. held t ≡ held s) old new old' new' scans.same scans'.same;
      numbers = rw (joined.4, front.numbers, back.numbers, flat_map-append) refl;
      visits = zip_append (λ s t. visited t ≡ visited s ++ visits_of (held s) column) old new old' new' front.visits back.visits;
      part = tt;
    }
