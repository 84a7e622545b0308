-- A row, field by field.
use Rattle.std.proofs.Common.{◌≡◌, ◌≢◌, refl, sym, ℕ, ◌+◌, ◌<◌, List, [], ◌∷◌, length, drop, get_or, Some, None, Ok, Err, slice_set, ℤ, arith}
use Rattle.std.proofs.lemmas.Bool.{ne_eqb, eq-eqb}
use Rattle.std.proofs.lemmas.List.{drop_all}
use Rattle.std.proofs.lemmas.Option.{slice_get-get_or}
use Rattle.csv.specs.Records.{field_at}
use Rattle.table_schema.specs.Column.{bucket_of, bucket_at}
use Rattle.table_schema.specs.declared.schema.Column.{Column}
use Rattle.report_lines.specs.declared.lines.RowWhy.{RowWhy}
use Rattle.report_lines.specs.declared.lines.RowWhy.TheVariants.{Fields, Domain}
use Rattle.row_source.specs.Rows.{number_field, bucket_field, value_field, row_from, row_of}
use Rattle.list_facts.proofs.Items.{drop_item}
use Rattle.row_source.proofs.FieldLaws.{drop_field}

pub other_fields : (columns : List Column) (fs : List (List ℕ)) → length fs ≢ length columns + 1 → row_of columns fs ≡ Err Fields
unfolding row_of
other_fields columns fs h = rw (ne_eqb (length fs) (length columns + 1) h) refl

pub row_start : (columns : List Column) (fs : List (List ℕ)) → length fs ≡ length columns + 1 → row_from columns 0 (0 ∷ 0 ∷ 0 ∷ 0 ∷ 0 ∷ 0 ∷ []) fs ≡ row_of columns fs
unfolding row_of
row_start columns fs h = rw (eq-eqb (length fs) (length columns + 1) h) refl

abbrev none : Column
none = record { name = []; bits = 0; start = 0; step = 0 }

pub bad_number : (columns : List Column) (fs : List (List ℕ)) (i : ℕ) (buckets f : List ℕ) (why : RowWhy)
    → i < length columns → field_at fs i ≡ Some f → number_field f ≡ Err why → row_from (drop i columns) i buckets (drop i fs) ≡ Err why
unfolding row_from bucket_field
bad_number columns fs i buckets f why lt ef e =
    rw (drop_item columns i (get_or columns i none) (slice_get-get_or columns i none lt), drop_field fs i f ef) (rw e refl)

pub bad_domain : (columns : List Column) (fs : List (List ℕ)) (i : ℕ) (buckets f : List ℕ) (n : ℕ)
    → i < length columns → field_at fs i ≡ Some f → number_field f ≡ Ok n → bucket_at columns i n ≡ None → row_from (drop i columns) i buckets (drop i fs) ≡ Err Domain
unfolding row_from bucket_field
bad_domain columns fs i buckets f n lt ef e b =
    let at = slice_get-get_or columns i none lt in
    let bucket : bucket_of (get_or columns i none) n ≡ None = rw at at b in
    rw (drop_item columns i (get_or columns i none) at, drop_field fs i f ef) (rw e (rw bucket refl))

pub next_bucket : (columns : List Column) (fs : List (List ℕ)) (i : ℕ) (buckets f : List ℕ) (n b : ℕ)
    → i < length columns → field_at fs i ≡ Some f → number_field f ≡ Ok n → bucket_at columns i n ≡ Some b
    → row_from (drop (i + 1) columns) (i + 1) (slice_set buckets i b) (drop (i + 1) fs) ≡ row_from (drop i columns) i buckets (drop i fs)
unfolding row_from bucket_field
next_bucket columns fs i buckets f n b lt ef e eb =
    let at = slice_get-get_or columns i none lt in
    let bucket : bucket_of (get_or columns i none) n ≡ Some b = rw at at eb in
    sym (rw (drop_item columns i (get_or columns i none) at, drop_field fs i f ef) (rw e (rw bucket refl)))

pub last_value : (columns : List Column) (fs : List (List ℕ)) (i : ℕ) (buckets f : List ℕ) (v : ℤ)
    → i ≡ length columns → field_at fs i ≡ Some f → value_field f ≡ Ok v
    → row_from (drop i columns) i buckets (drop i fs) ≡ Ok (record { columns = i; buckets = buckets; value = v })
unfolding row_from
last_value columns fs i buckets f v at ef e = rw (drop_field fs i f ef, drop_all i columns (omega (arith, at))) (rw e refl)

pub bad_value : (columns : List Column) (fs : List (List ℕ)) (i : ℕ) (buckets f : List ℕ) (why : RowWhy)
    → i ≡ length columns → field_at fs i ≡ Some f → value_field f ≡ Err why → row_from (drop i columns) i buckets (drop i fs) ≡ Err why
unfolding row_from
bad_value columns fs i buckets f why at ef e = rw (drop_field fs i f ef, drop_all i columns (omega (arith, at))) (rw e refl)
