-- A query that was read is legal.
use Rattle.std.proofs.Common.{◌≡◌, ◌≢◌, ◌∙◌, sym, ap, ℕ, ◌+◌, ◌<◌, ◌≤◌, List, length, map, take, get_or, set, arith, Bool, true, false, ⊎_elim}
use Rattle.std.specs.Prelude.{nat_lt, MatchBool}
use Rattle.std.proofs.lemmas.Bool.{cases_order, lt-ltb, le-ltb}
use Rattle.std.proofs.lemmas.List.{take-set-le, get_or-set_same, get_or-set_other, get_or-take}
use Rattle.table_schema.specs.declared.schema.Column.{Column}
use Rattle.table_schema.specs.declared.widths.Widths.{Widths}
use Rattle.std.proofs.Math.ListN.{get_or-map}
use Rattle.query_plan.specs.KeyMessages.{part_at}
use Rattle.query_plan.specs.Query.{no_predicate, part_of, shaped, predicate_at, IsPredicate, IsNext, IsPlaced, Suits, AreWidthsOf}
use Rattle.query_plan.specs.Reading.{with_predicate}
use Rattle.query_plan.specs.declared.query.Predicate.{Predicate}
use Rattle.query_plan.specs.declared.query.Query.{Query}

-- what stands at a place, by whether it is below the count
placed_if : (columns : ℕ) (bits : List ℕ) (q : Query) (i : ℕ) (b : Bool) → nat_lt i q.count ≡ b
    → MatchBool b (IsNext columns bits (take i q.predicates) (predicate_at q i)) (predicate_at q i ≡ no_predicate) → IsPlaced columns bits q i
placed_if columns bits q i b e h = rw e h

pub if_below : (columns : ℕ) (bits : List ℕ) (q : Query) (i : ℕ) → i < q.count → IsPlaced columns bits q i → IsNext columns bits (take i q.predicates) (predicate_at q i)
if_below columns bits q i lt h = rw (lt-ltb i q.count lt) at h

if_past : (columns : ℕ) (bits : List ℕ) (q : Query) (i : ℕ) → q.count ≤ i → IsPlaced columns bits q i → predicate_at q i ≡ no_predicate
if_past columns bits q i le h = rw (le-ltb i q.count le) at h

abbrev pub ArePlaced : ℕ → List ℕ → Query → Type 0
ArePlaced columns bits q = (i : ℕ) → i < 4 → IsPlaced columns bits q i

-- one predicate more
pub one_more : (columns : ℕ) (bits : List ℕ) (q : Query) (p : Predicate) → length q.predicates ≡ 4 → q.count < 4 → ArePlaced columns bits q
    → IsNext columns bits (take q.count q.predicates) p → ArePlaced columns bits (with_predicate q p)
one_more columns bits q p size few placed next i h = ⊎_elim here (λ at. ⊎_elim below past at) (cases_order i q.count)
  where
    below : i < q.count → IsPlaced columns bits (with_predicate q p) i
    below lt =
        let now : i < q.count + 1 = omega arith in
        let ne : i ≢ q.count = omega arith in
        let same : predicate_at (with_predicate q p) i ≡ predicate_at q i = get_or-set_other q.predicates q.count i p no_predicate ne in
        let front : take i (set q.predicates q.count p) ≡ take i q.predicates = take-set-le i q.predicates q.count p (omega arith) in
        placed_if columns bits (with_predicate q p) i true (lt-ltb i (q.count + 1) now) (rw (front, same) (if_below columns bits q i lt (placed i h)))

    here : i ≡ q.count → IsPlaced columns bits (with_predicate q p) i
    here e =
        let now : i < q.count + 1 = omega arith in
        let at : predicate_at (with_predicate q p) i ≡ p = rw e (get_or-set_same q.predicates q.count p no_predicate (omega arith)) in
        let front : take i (set q.predicates q.count p) ≡ take q.count q.predicates = rw e (take-set-le q.count q.predicates q.count p (omega arith)) in
        placed_if columns bits (with_predicate q p) i true (lt-ltb i (q.count + 1) now) (rw (front, at) next)

    past : q.count < i → IsPlaced columns bits (with_predicate q p) i
    past lt =
        let now : q.count + 1 ≤ i = omega arith in
        let ne : i ≢ q.count = omega arith in
        let same : predicate_at (with_predicate q p) i ≡ predicate_at q i = get_or-set_other q.predicates q.count i p no_predicate ne in
        placed_if columns bits (with_predicate q p) i false (le-ltb i (q.count + 1) now) (same ∙ if_past columns bits q i (omega arith) (placed i h))

-- the same bits, as the widths have them
of_widths : (columns : List Column) (w : Widths) (p : Predicate) → AreWidthsOf columns w
    → IsPredicate (length columns) (map (λ (c : Column). c.bits) columns) p → IsPredicate w.columns w.bits p
of_widths columns w p are legal =
    let there : p.column < w.columns = omega (arith, are.count, legal.column) in
    let same : get_or w.bits p.column 0 ≡ get_or (map (λ (c : Column). c.bits) columns) p.column 0 =
    sym (get_or-take w.columns w.bits p.column 0 there) ∙ ap (λ (xs : List ℕ). get_or xs p.column 0) are.bits in
    record { column = there; high = rw same legal.high; kind = legal.kind }

pub suits_widths : (columns : List Column) (w : Widths) (q : Query) → AreWidthsOf columns w → 1 ≤ q.count → q.count ≤ 4
    → ArePlaced (length columns) (map (λ (c : Column). c.bits) columns) q → Suits w.columns w.bits q
suits_widths columns w q are some few placed = record { some = some; few = few; placed = λ i h. ⊎_elim (λ e. past i h (omega arith)) (λ at. ⊎_elim (λ lt. below i h lt) (λ gt. past i h (omega arith)) at) (cases_order i q.count) }
  where
    below : (i : ℕ) → i < 4 → i < q.count → IsPlaced w.columns w.bits q i
    below i h lt =
        let is = if_below (length columns) (map (λ (c : Column). c.bits) columns) q i lt (placed i h) in
        placed_if w.columns w.bits q i true (lt-ltb i q.count lt) (record { legal = of_widths columns w (predicate_at q i) are is.legal; fresh = is.fresh })

    past : (i : ℕ) → i < 4 → q.count ≤ i → IsPlaced w.columns w.bits q i
    past i h le = placed_if w.columns w.bits q i false (le-ltb i q.count le) (if_past (length columns) (map (λ (c : Column). c.bits) columns) q i le (placed i h))

-- the parts of a legal query are on columns
pub parts_there : (columns : ℕ) (bits : List ℕ) (q : Query) → Suits columns bits q → (j : ℕ) → j < q.count → (part_at (shaped q) j).column < columns
parts_there columns bits q suits j lt =
    let next : IsNext columns bits (take j q.predicates) (predicate_at q j) = if_below columns bits q j lt (suits.placed j (omega (arith, suits.few))) in
    rw (get_or-map part_of q.predicates j no_predicate) next.legal.column
