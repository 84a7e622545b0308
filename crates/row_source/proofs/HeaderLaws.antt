-- A header, name by name.
use Rattle.std.proofs.Common.{◌≡◌, ◌≢◌, ◌&&◌, refl, ℕ, ◌+◌, Bool, true, false, List, [], ◌∷◌, length, drop, Some, slice_get, arith}
use Rattle.std.specs.Prelude.{codes}
use Rattle.std.specs.Str.{bytes_eq}
use Rattle.std.proofs.lemmas.List.{drop_all}
use Rattle.csv.specs.Records.{field_at}
use Rattle.table_schema.specs.declared.schema.Column.{Column}
use Rattle.row_source.specs.Rows.{is_header}
use Rattle.list_facts.proofs.Items.{drop_item}
use Rattle.row_source.proofs.FieldLaws.{drop_field}

header_length : (columns : List Column) (fs : List (List ℕ)) → is_header columns fs ≡ true → length fs ≡ length columns + 1
unfolding is_header
header_length [] [] e = absurd cc
header_length (k ∷ ks) [] e = absurd cc
header_length [] (f ∷ []) e = refl
header_length [] (f ∷ g ∷ fs) e = absurd cc
header_length (k ∷ ks) (f ∷ fs) e = by (bytes_eq f k.name) e (λ h. header_length ks fs h)
  where
    by : (t : Bool) → (t && is_header ks fs) ≡ true → (is_header ks fs ≡ true → length fs ≡ length ks + 1) → length (f ∷ fs) ≡ length (k ∷ ks) + 1
    by true h g = omega (arith, g h)
    by false h g = absurd cc

pub other_length : (columns : List Column) (fs : List (List ℕ)) → length fs ≢ length columns + 1 → is_header columns fs ≡ false
other_length columns fs h = by (is_header columns fs) refl
  where
    by : (t : Bool) → is_header columns fs ≡ t → is_header columns fs ≡ false
    by true e = absurd (h (header_length columns fs e))
    by false e = e

pub header_next : (columns : List Column) (fs : List (List ℕ)) (i : ℕ) (k : Column) (f : List ℕ) → slice_get columns i ≡ Some k → field_at fs i ≡ Some f
    → is_header (drop i columns) (drop i fs) ≡ (bytes_eq f k.name && is_header (drop (i + 1) columns) (drop (i + 1) fs))
unfolding is_header
header_next columns fs i k f ek ef = rw (drop_item columns i k ek, drop_field fs i f ef) refl

pub header_last : (columns : List Column) (fs : List (List ℕ)) (i : ℕ) (f : List ℕ) → i ≡ length columns → length fs ≡ length columns + 1 → field_at fs i ≡ Some f
    → is_header (drop i columns) (drop i fs) ≡ bytes_eq f (codes "value")
unfolding is_header
header_last columns fs i f at size ef =
    rw (drop_field fs i f ef, drop_all i columns (omega (arith, at)), drop_all (i + 1) fs (omega (arith, at, size))) refl
