-- As many rows are read as there are records after the header.
use Rattle.std.proofs.Common.{◌≡◌, ◌∙◌, refl, sym, ap, ℕ, ◌+◌, ◌<◌, ◌≤◌, Bool, true, false, cond, ltb, List, [], ◌∷◌, ◌++◌, length, length-append, Result, Ok, Err, arith}
use Rattle.std.specs.Prelude.{IfOk}
use Rattle.std.proofs.lemmas.Bool.{ltb-false}
use Rattle.text_reading.specs.Reading.{◌>>=◌, Gives}
use Rattle.table_schema.specs.declared.schema.Column.{Column}
use Rattle.table_schema.specs.declared.rows.Row.{Row}
use Rattle.report_lines.specs.declared.lines.RowWhy.{RowWhy}
use Rattle.row_source.proofs.HeldLaws.{all_good}
use Rattle.row_source.specs.Rows.{is_header, row_of, rows_from, rows_of, with_row}
use Rattle.row_source.specs.declared.faults.RowFault.{RowFault}
use Rattle.row_source.specs.declared.faults.RowFault.TheVariants as fault

counted : (columns : List Column) (done : List Row) (rs : List (List (List ℕ))) (rows : List Row) → rows_from columns done rs ≡ Ok rows → length rows ≡ length done + length rs
unfolding rows_from
counted columns done [] rows e = let same : done ≡ rows = cc in rw (sym same) (omega arith)
counted columns done (r ∷ rs) rows e = by (row_of columns r) e (λ more g. counted columns more rs rows g)
  where
    by : (o : Result Row RowWhy) → (with_row done o >>= λ more. rows_from columns more rs) ≡ all_good rows
        → ((more : List Row) → rows_from columns more rs ≡ all_good rows → length rows ≡ length more + length rs) → length rows ≡ length done + length (r ∷ rs)
    by (Ok row) h ih = omega (arith, ih (done ++ row ∷ []) h, length-append done (row ∷ []))
    by (Err why) h ih = absurd cc

few_rows : (columns : List Column) (capacity : ℕ) (rs : List (List (List ℕ))) (rows : List Row) → rows_of columns capacity rs ≡ Ok rows → length rows ≤ capacity
unfolding rows_of
few_rows columns capacity [] rows e = absurd cc
few_rows columns capacity (r ∷ rs) rows e = by (is_header columns r) (ltb capacity (length rs)) refl e
  where
    by : (h m : Bool) → ltb capacity (length rs) ≡ m → cond h (cond m (Err (fault.TooMany capacity)) (rows_from columns [] rs)) (Err fault.Header) ≡ all_good rows → length rows ≤ capacity
    by false m t g = absurd cc
    by true true t g = absurd cc
    by true false t g = omega (arith, counted columns [] rs rows g, ltb-false capacity (length rs) t)

pub gives_few : {V : Type 0} (view : V → List Row) (columns : List Column) (capacity : ℕ) (rs : List (List (List ℕ))) (r : Result V RowFault)
    → Gives fault.Memory view r (rows_of columns capacity rs) → IfOk r (λ v. length (view v) ≤ capacity)
gives_few view columns capacity rs (Ok v) e = few_rows columns capacity rs (view v) e
gives_few view columns capacity rs (Err f) e = tt
