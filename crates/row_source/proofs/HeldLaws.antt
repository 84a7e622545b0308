-- The rows that are read are rows of the columns.
use Rattle.std.proofs.Common.{◌≡◌, ◌⊎◌, map, ◌≢◌, ◌∙◌, ◌&&◌, refl, sym, ap, subst, ℕ, zero, suc, ◌+◌, ◌-◌, ◌/◌, ◌^◌, ◌<◌, ◌≤◌, Bool, true, false, cond, eqb, leb, ltb, List, [], ◌∷◌, ◌++◌, All, length, drop, get_or, set, Option, Some, None, Result, Ok, Err, ℤ, pos, neg_ℤ, arith, add-one, inl, inr, drop-cons, length-set, get_or-set_same, get_or-set_other}
use Rattle.std.specs.Prelude.{IfOk}
use Rattle.std.specs.Str.{is_utf8}
use Rattle.std.proofs.lemmas.Int.{ints}
use Rattle.text_reading.specs.Number.{number_of}
use Rattle.std.specs.Option.{ok_or}
use Rattle.std.proofs.lemmas.Bool.{cases_eq, cases_lt, ltb-true, leb-true}
use Rattle.std.proofs.Math.ListN.{get_or-eq_default}
use Rattle.std.proofs.Math.Pow.{pow_mono}
use Rattle.std.proofs.lemmas.List.{length-drop, length-take-le, length-map, get_or-take, get_or-map}
use Rattle.std.proofs.lemmas.List.Elements.{All-push}
use Rattle.table_schema.specs.Column.{bucket_of}
use Rattle.text_reading.specs.Reading.{◌>>=◌}
use Rattle.table_schema.specs.Limits.{IsValue}
use Rattle.table_schema.specs.Widths.{Holds, column_bits}
use Rattle.table_schema.specs.declared.widths.Widths.{Widths}
use Rattle.table_schema.specs.declared.schema.Column.{Column}
use Rattle.table_schema.specs.declared.rows.Row.{Row}
use Rattle.report_lines.specs.declared.lines.RowWhy.{RowWhy}
use Rattle.report_lines.specs.declared.lines.RowWhy.TheVariants.{Fields, Domain, Number, Text, Value}
use Rattle.row_source.proofs.RowOf.{Below, IsRowOf, no_column}
use Rattle.row_source.specs.Rows.{AreRowsOf, bucket_field, is_header, number_field, row_from, row_of, rows_from, rows_of, sign_of, value_field, value_of, with_row}
use Rattle.text_reading.specs.Reading.{Gives}
use Rattle.row_source.specs.declared.faults.RowFault.{RowFault}
use Rattle.row_source.specs.declared.faults.RowFault.TheVariants as fault

-- the value of a step that did not fail
bind_ok : {A B E : Type 0} (r : Result A E) (f : A → Result B E) (y : B) → (r >>= f) ≡ Ok y → (x : A) × (r ≡ Ok x) × (f x ≡ Ok y)
bind_ok (Ok x) f y e = (x, refl, e)
bind_ok (Err d) f y e = absurd cc

ok_some : {A E : Type 0} (o : Option A) (e : E) (x : A) → ok_or o e ≡ Ok x → o ≡ Some x
ok_some None e x h = absurd cc
ok_some (Some y) e x h = let same : y ≡ x = cc in ap (λ (z : _). Some z) same

bucket_fits : (k : Column) (n b : ℕ) → bucket_of k n ≡ Some b → b < 2 ^ k.bits
bucket_fits k n b e = by (leb k.start n) (ltb ((n - k.start) / k.step) (2 ^ k.bits)) refl e
  where
    by : (p q : Bool) → ltb ((n - k.start) / k.step) (2 ^ k.bits) ≡ q → cond (p && q) (Some ((n - k.start) / k.step)) None ≡ Some b → b < 2 ^ k.bits
    by true true h s = let same : (n - k.start) / k.step ≡ b = cc in subst (λ (x : ℕ). x < 2 ^ k.bits) same (ltb-true _ _ h)
    by true false h s = absurd cc
    by false q h s = absurd cc

field_fits : (k : Column) (f : List ℕ) (b : ℕ) → bucket_field k f ≡ Ok b → b < 2 ^ k.bits
unfolding bucket_field
field_fits k f b e =
    let (n, en, eb) = bind_ok (number_field f) (λ n. ok_or (bucket_of k n) Domain) b e in
    bucket_fits k n b (ok_some (bucket_of k n) Domain b eb)

signed_fits : (below : Bool) (n : ℕ) → n ≤ 4294967295 → IsValue (cond below (neg_ℤ (pos n)) (pos n))
signed_fits false n le = (omega (arith, ints), omega (arith, ints))
signed_fits true n le = (omega (arith, ints), omega (arith, ints))

value_fits : (f : List ℕ) (v : ℤ) → value_field f ≡ Ok v → IsValue v
unfolding value_field
value_fits f v e = by (is_utf8 f) e
  where
    sized : (below : Bool) (n : ℕ) (p : Bool) → leb n 4294967295 ≡ p → cond p (Ok (cond below (neg_ℤ (pos n)) (pos n))) (Err Value) ≡ Ok v → IsValue v
    sized below n true h s =
        let same : cond below (neg_ℤ (pos n)) (pos n) ≡ v = cc in
        subst (λ (x : ℤ). IsValue x) same (signed_fits below n (leb-true n 4294967295 h))
    sized below n false h s = absurd cc

    by : (t : Bool) → cond t (ok_or (number_of (sign_of f).1) Number >>= value_of (sign_of f).0) (Err Text) ≡ Ok v → IsValue v
    by true h =
        let (n, en, ev) = bind_ok (ok_or (number_of (sign_of f).1) Number) (value_of (sign_of f).0) v h in
        sized (sign_of f).0 n (leb n 4294967295) refl ev
    by false h = absurd cc

set_below : (columns : List Column) (buckets : List ℕ) (i b : ℕ) → i < length buckets → b < 2 ^ (get_or columns i no_column).bits → Below columns buckets i
    → Below columns (set buckets i b) (i + 1)
set_below columns buckets i b lt fits below = (front, back)
  where
    front : (k : ℕ) → k < i + 1 → get_or (set buckets i b) k 0 < 2 ^ (get_or columns k no_column).bits
    front k h = elim (cases_eq k i) [
      | inl e ↦ rw e (rw (get_or-set_same buckets i b 0 lt) fits)
      | inr n ↦ rw (get_or-set_other buckets i k b 0 n) (below.0 k (omega (arith, h, n)))
    ]

    back : (k : ℕ) → i + 1 ≤ k → get_or (set buckets i b) k 0 ≡ 0
    back k h = let n : k ≢ i = omega arith in get_or-set_other buckets i k b 0 n ∙ below.1 k (omega (arith, h))

abbrev good : Row → Result Row RowWhy
good row = Ok row

-- the columns that are left are those from place i on
record From (all columns : List Column) (i : ℕ) : Type 0 where
  here : drop i all ≡ columns
  inside : i ≤ length all

left_length : (all columns : List Column) (i : ℕ) → From all columns i → length all ≡ i + length columns
left_length all columns i h = let e = ap length h.here in omega (arith, e, length-drop i all, h.inside)

next_from : (all : List Column) (k : Column) (ks : List Column) (i : ℕ) → From all (k ∷ ks) i → From all ks (i + 1) × (get_or all i no_column ≡ k)
next_from all k ks i h =
    let size = left_length all (k ∷ ks) i h in
    let lt : i < length all = omega (arith, size) in
    let at : get_or all i no_column ∷ drop (suc i) all ≡ k ∷ ks = sym (drop-cons all i no_column lt) ∙ h.here in
    let rest : drop (suc i) all ≡ ks = cc in
    (record { here = rw add-one rest; inside = omega arith }, cc)

held_from : (all columns : List Column) (i : ℕ) (buckets : List ℕ) (fs : List (List ℕ)) (row : Row)
    → From all columns i → length buckets ≡ 6 → length all ≤ 6 → Below all buckets i → row_from columns i buckets fs ≡ Ok row → IsRowOf all row
unfolding row_from
held_from all columns i buckets [] row at size few below e = absurd cc
held_from all [] i buckets (f ∷ fs) row at size few below e =
    let (v, ev, er) = bind_ok (value_field f) (λ v. good (record { columns = i; buckets = buckets; value = v })) row e in
    let same : record { columns = i; buckets = buckets; value = v } ≡ row = cc in
    let n : length all ≡ i = left_length all [] i at ∙ omega arith in
    subst (λ (r : Row). IsRowOf all r) same (sym n, value_fits f v ev, rw n below)
held_from all (k ∷ ks) i buckets (f ∷ fs) row at size few below e =
    let (b, eb, er) = bind_ok (bucket_field k f) (λ b. row_from ks (i + 1) (set buckets i b) fs) row e in
    let (next, same) = next_from all k ks i at in
    let lt : i < length buckets = omega (arith, size, few, left_length all (k ∷ ks) i at) in
    let fits : b < 2 ^ (get_or all i no_column).bits = rw same (field_fits k f b eb) in
    held_from all ks (i + 1) (set buckets i b) fs row next (length-set buckets i b ∙ size) few (set_below all buckets i b lt fits below) er

abbrev six : List ℕ
six = 0 ∷ 0 ∷ 0 ∷ 0 ∷ 0 ∷ 0 ∷ []

no_buckets : (i : ℕ) → get_or six i 0 ≡ 0
no_buckets zero = refl
no_buckets (suc zero) = refl
no_buckets (suc (suc zero)) = refl
no_buckets (suc (suc (suc zero))) = refl
no_buckets (suc (suc (suc (suc zero)))) = refl
no_buckets (suc (suc (suc (suc (suc zero))))) = refl
no_buckets (suc (suc (suc (suc (suc (suc i)))))) = refl

held_row : (columns : List Column) (fs : List (List ℕ)) (row : Row) → length columns ≤ 6 → row_of columns fs ≡ Ok row → IsRowOf columns row
unfolding row_of
held_row columns fs row few e = by (eqb (length fs) (length columns + 1)) e
  where
    by : (b : Bool) → cond b (row_from columns 0 (0 ∷ 0 ∷ 0 ∷ 0 ∷ 0 ∷ 0 ∷ []) fs) (Err Fields) ≡ good row → IsRowOf columns row
    by true h = held_from columns columns 0 (0 ∷ 0 ∷ 0 ∷ 0 ∷ 0 ∷ 0 ∷ []) fs row (record { here = refl; inside = omega arith }) refl few ((λ i lt. absurd (omega (arith, lt))), (λ i le. no_buckets i)) h
    by false h = absurd cc

abbrev pub all_good : List Row → Result (List Row) RowFault
all_good rows = Ok rows

held_rows : (columns : List Column) (done : List Row) (rs : List (List (List ℕ))) (rows : List Row) → length columns ≤ 6 → All (IsRowOf columns) done
    → rows_from columns done rs ≡ Ok rows → All (IsRowOf columns) rows
unfolding rows_from
held_rows columns done [] rows few held e = let same : done ≡ rows = cc in subst (λ (xs : List Row). All (IsRowOf columns) xs) same held
held_rows columns done (r ∷ rs) rows few held e = by (row_of columns r) refl e (λ more h g. held_rows columns more rs rows few h g)
  where
    by : (o : Result Row RowWhy) → row_of columns r ≡ o → (with_row done o >>= λ more. rows_from columns more rs) ≡ all_good rows
        → ((more : List Row) → All (IsRowOf columns) more → rows_from columns more rs ≡ all_good rows → All (IsRowOf columns) rows) → All (IsRowOf columns) rows
    by (Ok row) eo h ih = ih (done ++ row ∷ []) (All-push (IsRowOf columns) done row held (held_row columns r row few eo)) h
    by (Err why) eo h ih = absurd cc

pub rows_held : (columns : List Column) (capacity : ℕ) (rs : List (List (List ℕ))) (rows : List Row) → length columns ≤ 6 → rows_of columns capacity rs ≡ Ok rows → All (IsRowOf columns) rows
unfolding rows_of
rows_held columns capacity [] rows few e = absurd cc
rows_held columns capacity (r ∷ rs) rows few e = by (is_header columns r) (ltb capacity (length rs)) e
  where
    by : (h m : Bool) → cond h (cond m (Err (fault.TooMany capacity)) (rows_from columns [] rs)) (Err fault.Header) ≡ all_good rows → All (IsRowOf columns) rows
    by false m g = absurd cc
    by true true g = absurd cc
    by true false g = held_rows columns [] rs rows few (λ k d lt. absurd (omega (arith, lt))) g

-- ---- the widths of the columns hold their rows

some_inside : (bits : List ℕ) (n : ℕ) → 0 < get_or bits n 0 → n < length bits
some_inside bits n some = elim (cases_lt n (length bits)) [ inl lt ↦ lt | inr past ↦ absurd (omega (arith, some, get_or-eq_default bits 0 past)) ]

some_below : (bits : List ℕ) (n : ℕ) → ((i : ℕ) → i < n → 0 < get_or bits i 0) → n ≤ length bits
some_below bits zero h = omega arith
some_below bits (suc n) h = omega (arith, some_inside bits n (h n (omega arith)))

width_count : (w : Widths) → length (column_bits w) ≡ w.columns
width_count w = length-take-le w.columns w.bits (some_below w.bits w.columns (λ i lt. (w.legal.2 i lt).0))

holds_row : (columns : List Column) (row : Row) (w : Widths) → column_bits w ≡ map (λ c. c.bits) columns → IsRowOf columns row → Holds w row
holds_row columns row w e held = record { columns = held.0 ∙ sym size; value = held.1; buckets = λ i lt. each i (cases_lt i (length columns)) }
  where
    size : w.columns ≡ length columns
    size = sym (width_count w) ∙ ap length e ∙ length-map columns (λ (c : Column). c.bits)

    bits_at : (i : ℕ) → i < length columns → get_or w.bits i 0 ≡ (get_or columns i no_column).bits
    bits_at i lt = sym (get_or-take w.columns w.bits i 0 (omega (arith, lt, size))) ∙ ap (λ (xs : List ℕ). get_or xs i 0) e ∙ get_or-map (λ (c : Column). c.bits) columns i no_column 0 lt

    each : (i : ℕ) → (i < length columns) ⊎ (length columns ≤ i) → get_or row.buckets i 0 < 2 ^ get_or w.bits i 0
    each i (inl lt) = rw (bits_at i lt) (held.2.0 i lt)
    each i (inr past) =
        let some : 0 ≤ get_or w.bits i 0 = omega arith in
        let one : 2 ^ 0 ≤ 2 ^ get_or w.bits i 0 = pow_mono some in
        rw (held.2.1 i past) (omega (arith, one))

pub gives_held : {V : Type 0} (view : V → List Row) (columns : List Column) (capacity : ℕ) (rs : List (List (List ℕ))) (r : Result V RowFault) → length columns ≤ 6
    → Gives fault.Memory view r (rows_of columns capacity rs) → IfOk r (λ v. AreRowsOf columns (view v))
gives_held view columns capacity rs (Ok v) few e = λ w same k d lt. holds_row columns (get_or (view v) k d) w same (rows_held columns capacity rs (view v) few e k d lt)
gives_held view columns capacity rs (Err f) few e = tt
