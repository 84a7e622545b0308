-- The rows of records, record by record.
use Rattle.std.proofs.Common.{◌≡◌, refl, ℕ, ◌<◌, ◌≤◌, true, false, List, [], ◌∷◌, ◌++◌, length, Some, None, Ok, Err}
use Rattle.std.proofs.lemmas.Bool.{le-ltb, lt-ltb}
use Rattle.table_schema.specs.declared.schema.Column.{Column}
use Rattle.table_schema.specs.declared.rows.Row.{Row}
use Rattle.report_lines.specs.declared.lines.RowWhy.{RowWhy}
use Rattle.row_source.specs.declared.faults.RowFault.TheVariants as fault
use Rattle.row_source.specs.Progress.{outcome, rest_of}
use Rattle.row_source.specs.Rows.{is_header, row_of, rows_from, rows_of}

pub good_row : (columns : List Column) (rows grown : List Row) (r : List (List ℕ)) (row : Row) → row_of columns r ≡ Ok row → grown ≡ rows ++ row ∷ []
    → (rs : List (List (List ℕ))) → outcome columns grown None rs ≡ outcome columns rows None (r ∷ rs)
unfolding rows_from
good_row columns rows grown r row e g rs = rw (e, g) refl

pub bad_row : (columns : List Column) (rows : List Row) (r : List (List ℕ)) (why : RowWhy) → row_of columns r ≡ Err why
    → (rs : List (List (List ℕ))) → outcome columns rows (Some why) rs ≡ outcome columns rows None (r ∷ rs)
unfolding rows_from
bad_row columns rows r why e rs = rw e refl

pub rows_done : (columns : List Column) (rows : List Row) → outcome columns rows None [] ≡ Ok rows
unfolding rows_from
rows_done columns rows = refl

pub no_records : (columns : List Column) (capacity : ℕ) (all : List (List (List ℕ))) → all ≡ [] → rows_of columns capacity all ≡ Err fault.Header
unfolding rows_of
no_records columns capacity all e = rw e refl

pub no_header : (columns : List Column) (capacity : ℕ) (all : List (List (List ℕ))) (r : List (List ℕ)) (rs : List (List (List ℕ)))
    → all ≡ r ∷ rs → is_header columns r ≡ false → rows_of columns capacity all ≡ Err fault.Header
unfolding rows_of
no_header columns capacity all r rs e h = rw (e, h) refl

pub rows_are : (columns : List Column) (capacity : ℕ) (all : List (List (List ℕ))) (r : List (List ℕ)) (rs : List (List (List ℕ)))
    → all ≡ r ∷ rs → is_header columns r ≡ true → length (rest_of all) ≤ capacity → rows_of columns capacity all ≡ rows_from columns [] (rest_of all)
unfolding rows_of
rows_are columns capacity all r rs e h few =
    let k : length rs ≤ capacity = rw e at few in
    rw (e, h, le-ltb capacity (length rs) k) refl

pub too_many : (columns : List Column) (capacity : ℕ) (all : List (List (List ℕ))) (r : List (List ℕ)) (rs : List (List (List ℕ)))
    → all ≡ r ∷ rs → is_header columns r ≡ true → capacity < length (rest_of all) → rows_of columns capacity all ≡ Err (fault.TooMany capacity)
unfolding rows_of
too_many columns capacity all r rs e h many =
    let k : capacity < length rs = rw e at many in
    rw (e, h, lt-ltb capacity (length rs) k) refl
