-- A writer's rows, one after another.
use Rattle.std.proofs.Common.{◌≡◌, ◌∙◌, refl, sym, ap, subst, ℕ, zero, suc, ◌+◌, ◌%◌, ◌<◌, ◌≤◌, Bool, true, false, Some, slice_get, List, [], ◌∷◌, ◌++◌, length, max, arith, append_assoc, append-nil, length-append, eq-eqb, ne_eqb, ◌≢◌, eqb, cond, ◌-◌}
use Rattle.std.specs.Prelude.{OnErr, Result, Ok, Err}
use mathlib.Core.List.{IsPrefix}
use Rattle.agreed_rows.specs.Agreed.{Entries}
use Rattle.ring128.specs.declared.memory.Memory.{Memory}
use Rattle.waldo_table.specs.declared.faults.AgreeFault.{AgreeFault}
use Rattle.list_facts.proofs.Prefixes.{prefix_length, prefix_trans}
use Rattle.std.proofs.lemmas.Option.{slice_get_within}
use Rattle.agreed_rows.proofs.Elements.{prefix_get}
use Rattle.prg_chacha.specs.Prg.{derive_of}
use Rattle.prg_chacha.specs.declared.seed.Seed.{Seed}
use Rattle.table_schema.specs.declared.rows.Row.{Row}
use Rattle.waldo_table.specs.Tables.{Appends, Grows, PassView}
use Rattle.waldo_table.proofs.Legal.{has_more}
use Rattle.race_play.specs.Turns.{IsRising, turns}
use Rattle.race_play.specs.Lines.{line_of_back}
use Rattle.race_play.specs.Writes.{AreEntries, AreThere, IsBack, IsEntry, IsThere, Wrote, WroteFirst, Wrote_back, floor_over}
use Rattle.report_lines.specs.declared.lines.Line.{Line}

-- ---- rising

abbrev pub Below : ℕ → List ℕ → Type 0
Below m [] = Unit {0}
Below m (x ∷ xs) = (x < m) × Below m xs

pub rising_snoc : (low m : ℕ) (xs : List ℕ) (place : ℕ) → IsRising low xs → Below m xs → low ≤ m → m ≤ place → IsRising low (xs ++ place ∷ [])
rising_snoc low m [] place r b le at = (omega arith, tt)
rising_snoc low m (x ∷ xs) place r b le at = (r.0, rising_snoc (x + 1) m xs place r.1 b.1 (let lt = b.0 in omega arith) at)

-- ---- entries

entry_more : (rows : List Row) (master : Seed) (w : ℕ) (order more : List (Row × Seed)) (i place : ℕ) → IsPrefix order more → IsEntry rows master w order i place → IsEntry rows master w more i place
entry_more rows master w order more i place p e = record { row = e.row; is = e.is; there = prefix_get order more place (e.row, derive_of master 1 w i) p e.there }

pub entries_more : (rows : List Row) (master : Seed) (w : ℕ) (order more : List (Row × Seed)) (is places : List ℕ) → IsPrefix order more → AreEntries rows master w order is places → AreEntries rows master w more is places
entries_more rows master w order more [] [] p e = tt
entries_more rows master w order more [] (place ∷ places) p e = absurd e
entries_more rows master w order more (i ∷ is) [] p e = absurd e
entries_more rows master w order more (i ∷ is) (place ∷ places) p e = (entry_more rows master w order more i place p e.0, entries_more rows master w order more is places p e.1)

entries_snoc : (rows : List Row) (master : Seed) (w : ℕ) (order : List (Row × Seed)) (is places : List ℕ) (i place : ℕ) → AreEntries rows master w order is places → IsEntry rows master w order i place
    → AreEntries rows master w order (is ++ i ∷ []) (places ++ place ∷ [])
entries_snoc rows master w order [] [] i place e last = (last, tt)
entries_snoc rows master w order [] (x ∷ places) i place e last = absurd e
entries_snoc rows master w order (x ∷ is) [] i place e last = absurd e
entries_snoc rows master w order (x ∷ is) (y ∷ places) i place e last = (e.0, entries_snoc rows master w order is places i place e.1 last)

pub entries_below : (rows : List Row) (master : Seed) (w : ℕ) (order : List (Row × Seed)) (is places : List ℕ) → AreEntries rows master w order is places → Below (length order) places
entries_below rows master w order [] [] e = tt
entries_below rows master w order [] (x ∷ places) e = absurd e
entries_below rows master w order (x ∷ is) [] e = absurd e
entries_below rows master w order (i ∷ is) (place ∷ places) e = (slice_get_within order place (e.0.row, derive_of master 1 w i) e.0.there, entries_below rows master w order is places e.1)

pub entries_long : (rows : List Row) (master : Seed) (w : ℕ) (order : List (Row × Seed)) (is places : List ℕ) → AreEntries rows master w order is places → length places ≡ length is
entries_long rows master w order [] [] e = refl
entries_long rows master w order [] (x ∷ places) e = absurd e
entries_long rows master w order (x ∷ is) [] e = absurd e
entries_long rows master w order (i ∷ is) (place ∷ places) e = ap suc (entries_long rows master w order is places e.1)

-- ---- journals

there_more : (p q : PassView) (place : ℕ) → Grows p q → IsThere p place → IsThere q place
there_more p q place g t = record { zero = has_more place p.zero.seen q.zero.seen g.zero t.zero; one = has_more place p.one.seen q.one.seen g.one t.one; two = has_more place p.two.seen q.two.seen g.two t.two }

pub all_there_more : (p q : PassView) (places : List ℕ) → Grows p q → AreThere p places → AreThere q places
all_there_more p q [] g t = tt
all_there_more p q (place ∷ places) g t = (there_more p q place g t.0, all_there_more p q places g t.1)

there_snoc : (q : PassView) (places : List ℕ) (place : ℕ) → AreThere q places → IsThere q place → AreThere q (places ++ place ∷ [])
there_snoc q [] place t last = (last, tt)
there_snoc q (x ∷ places) place t last = (t.0, there_snoc q places place t.1 last)

floor_snoc : (floor : ℕ) (places : List ℕ) (place : ℕ) → floor_over floor (places ++ place ∷ []) ≡ max (floor_over floor places) (place + 1)
floor_snoc floor [] place = refl
floor_snoc floor (x ∷ places) place = floor_snoc (max floor (x + 1)) places place

-- ---- one row more

pub wrote_none : (rows : List Row) (master : Seed) (w : ℕ) (p : PassView) (places : List ℕ) → places ≡ [] → Wrote rows master w [] p places p
wrote_none rows master w p places none = subst (λ (xs : List ℕ). Wrote rows master w [] p xs p) (sym none) (record {
  own = sym (append-nil p.sight.own);
  room = omega arith;
  entries = tt;
  rising = tt;
  there = tt;
  floor = refl;
})

pub wrote_one : (rows : List Row) (master : Seed) (w : ℕ) (is : List ℕ) (p : PassView) (places : List ℕ) (q q' : PassView) (i : ℕ) (row : Row) (place : ℕ) (grown : Grows p q) → Wrote rows master w is p places q → slice_get rows i ≡ Some row
    → Grows q q' → Appends (row, derive_of master 1 w i) q place q' → Wrote rows master w (is ++ i ∷ []) p (places ++ place ∷ []) q'
wrote_one rows master w is p places q q' i row place grown wrote at grows a = record {
  own = a.own ∙ ap (λ (xs : List ℕ). xs ++ place ∷ []) wrote.own ∙ append_assoc p.sight.own places (place ∷ []);
  room = let before = wrote.room in let one = a.room in omega (arith, length-append is (i ∷ []));
  entries = entries_snoc rows master w q'.sight.order is places i place (entries_more rows master w q.sight.order q'.sight.order is places grows.order wrote.entries) (record { row = row; is = at; there = a.there });
  rising = rising_snoc (length p.sight.order) (length q.sight.order) places place wrote.rising (entries_below rows master w q.sight.order is places wrote.entries) (prefix_length p.sight.order q.sight.order grown.order) a.past;
  there = there_snoc q' places place (all_there_more q q' places grows wrote.there) (record { zero = a.zero; one = a.one; two = a.two });
  floor = a.floor ∙ ap (λ (n : ℕ). max n (place + 1)) wrote.floor ∙ sym (floor_snoc p.floor places place);
}

-- ---- turns

turns_by : (b : Bool) (w many n : ℕ) → eqb (n % many) w ≡ b → turns w many (suc n) ≡ turns w many n ++ cond b (n ∷ []) []
turns_by b w many n e = ap (λ (c : Bool). turns w many n ++ cond c (n ∷ []) []) e

pub turns_yes : (w many n : ℕ) → n % many ≡ w → turns w many (suc n) ≡ turns w many n ++ n ∷ []
turns_yes w many n e = turns_by true w many n (eq-eqb (n % many) w e)

pub turns_no : (w many n : ℕ) → n % many ≢ w → turns w many (suc n) ≡ turns w many n
turns_no w many n ne = turns_by false w many n (ne_eqb (n % many) w ne) ∙ append-nil (turns w many n)

turns_rise : (w many n more : ℕ) → length (turns w many n) ≤ length (turns w many (more + n))
turns_rise w many n zero = let e : zero + n ≡ n = omega arith in omega (arith, ap (λ (k : ℕ). length (turns w many k)) e)
turns_rise w many n (suc more) =
    let before = turns_rise w many n more in
    let e : suc more + n ≡ suc (more + n) = omega arith in
    let long = length-append (turns w many (more + n)) (cond (eqb ((more + n) % many) w) ((more + n) ∷ []) []) in omega (arith, before, long, ap (λ (k : ℕ). length (turns w many k)) e)

next : (i : ℕ) → suc i ≡ i + 1
next i = omega arith

-- where it is the writer's turn, there is one more
pub turns_room : (w many i n : ℕ) → i % many ≡ w → i < n → length (turns w many i) + 1 ≤ length (turns w many n)
turns_room w many i n e lt =
    let up : n ≡ (n - (i + 1)) + suc i = omega arith in
    let rise = turns_rise w many (suc i) (n - (i + 1)) in
    let one = ap length (turns_yes w many i e) in
    let long = length-append (turns w many i) (i ∷ []) in
    let same : length (turns w many n) ≡ length (turns w many ((n - (i + 1)) + suc i)) = ap (λ (k : ℕ). length (turns w many k)) up in omega arith

-- ---- the whole

pub wrote_turn : (rows : List Row) (master : Seed) (w many i : ℕ) (p : PassView) (places places' : List ℕ) (q q' : PassView) (row : Row) (place : ℕ) → i % many ≡ w → places' ≡ places ++ place ∷ [] → slice_get rows i ≡ Some row → Grows q q'
    → Appends (row, derive_of master 1 w i) q place q' → Grows p q → Wrote rows master w (turns w many i) p places q → Wrote rows master w (turns w many (i + 1)) p places' q'
wrote_turn rows master w many i p places places' q q' row place turn more at grows a grown wrote =
    subst (λ (is : List ℕ). Wrote rows master w is p places' q') (sym (turns_yes w many i turn) ∙ ap (turns w many) (next i)) (subst (λ (ps : List ℕ). Wrote rows master w (turns w many i ++ i ∷ []) p ps q') (sym more) (wrote_one rows master w (turns w many i) p places q q' i row place grown wrote at grows a))

pub wrote_not : (rows : List Row) (master : Seed) (w many i : ℕ) (p : PassView) (places : List ℕ) (q : PassView) → i % many ≢ w → Wrote rows master w (turns w many i) p places q → Wrote rows master w (turns w many (i + 1)) p places q
wrote_not rows master w many i p places q ne wrote = subst (λ (is : List ℕ). Wrote rows master w is p places q) (sym (turns_no w many i ne) ∙ ap (turns w many) (next i)) wrote

pub wrote_back : (rows : List Row) (master : Seed) (w : ℕ) (is : List ℕ) (p : PassView) (places : List ℕ) (line : Line) (between q : PassView) → Wrote rows master w is p places between → Grows between q → q.sight.own ≡ between.sight.own
    → q.sight.room ≡ between.sight.room → IsBack w between q line → Wrote_back rows master w is p places line q
wrote_back rows master w is p places line between q wrote grows own room back = record {
  between = between;
  wrote = wrote;
  sight = own;
  room = room;
  entries = entries_more rows master w between.sight.order q.sight.order is places grows.order wrote.entries;
  there = all_there_more between q places grows wrote.there;
  back = back;
}

pub grows_trans : (p q r : PassView) → Grows p q → Grows q r → Grows p r
grows_trans p q r f g = record { order = prefix_trans _ _ _ f.order g.order; zero = prefix_trans _ _ _ f.zero g.zero; one = prefix_trans _ _ _ f.one g.one; two = prefix_trans _ _ _ f.two g.two }

-- ---- memory runs out

turns_some : (w many k n more : ℕ) → n ≡ more + k → (rest : List ℕ) × (turns w many n ≡ turns w many k ++ rest)
turns_some w many k n zero e = let z : n ≡ k = omega arith in ([], ap (turns w many) z ∙ sym (append-nil (turns w many k)))
turns_some w many k n (suc more) e =
    let m : ℕ = more + k in
    let up : n ≡ suc m = omega arith in
    let b = turns_some w many k m more refl in
    let own : List ℕ = cond (eqb (m % many) w) (m ∷ []) [] in
    (b.0 ++ own, ap (turns w many) up ∙ ap (λ (l : List ℕ). l ++ own) b.1 ∙ append_assoc (turns w many k) b.0 own)

-- the rows of some first turns were appended
pub wrote_first : (rows : List Row) (master : Seed) (w many k n : ℕ) (p : PassView) (places : List ℕ) (q : PassView) → k ≤ n → Wrote rows master w (turns w many k) p places q → WroteFirst rows master w (turns w many n) p q
wrote_first rows master w many k n p places q le wrote =
    let d : n ≡ (n - k) + k = omega arith in
    let b = turns_some w many k n (n - k) d in
    record { done = turns w many k; rest = b.0; all = b.1; places = places; wrote = wrote }

-- all rows were appended, and the agreement behind them came to nothing
pub wrote_alone : (rows : List Row) (master : Seed) (w : ℕ) (is : List ℕ) (p : PassView) (places : List ℕ) (between q : PassView) → Wrote rows master w is p places between → Grows between q → q.sight.own ≡ between.sight.own
    → q.sight.room ≡ between.sight.room → q.floor ≡ between.floor → WroteFirst rows master w is p q
wrote_alone rows master w is p places between q wrote grows own room floor = record {
  done = is;
  rest = [];
  all = sym (append-nil is);
  places = places;
  wrote = record {
    own = own ∙ wrote.own;
    room = let r = wrote.room in omega arith;
    entries = entries_more rows master w between.sight.order q.sight.order is places grows.order wrote.entries;
    rising = wrote.rising;
    there = all_there_more between q places grows wrote.there;
    floor = floor ∙ wrote.floor;
  };
}

-- no line of an agreement: it came to nothing
pub back_err : (writer : ℕ) (agreed : Result Entries AgreeFault) (e : Memory) (P : Type 0) → OnErr agreed P → line_of_back writer agreed ≡ Err e → P
back_err writer (Ok a) e P h is = absurd cc
back_err writer (Err fault) e P h is = h

pub on_err : {A E : Type 0} (r : Result A E) (P : Type 0) → P → OnErr r P
on_err (Ok x) P p = tt
on_err (Err e) P p = p
