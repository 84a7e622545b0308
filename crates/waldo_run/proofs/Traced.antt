-- What is left of the lines of queries.
use Rattle.std.proofs.Common.{◌≡◌, ◌∙◌, refl, ap, ℕ, ◌≤◌, inl, inr, min, List, [], ◌∷◌, length, drop, arith}
use Rattle.std.proofs.lemmas.Bool.{cases_lt}
use Rattle.std.proofs.lemmas.List.{drop_all}
use Rattle.report_lines.specs.declared.lines.Line.{Line}
use Rattle.waldo_run.specs.declared.seen.Noted.{Noted}
use Rattle.waldo_run.specs.Traces.{traced}

without_lines : (i : ℕ) (seen : List Noted) → traced i seen [] ≡ []
without_lines i [] = refl
without_lines i (s ∷ rest) = refl

-- nothing is left where one of the lists has ended
pub traced_none : (i : ℕ) (seen : List Noted) (report : List Line) → min (length seen) (length report) ≤ i → traced i (drop i seen) (drop i report) ≡ []
traced_none i seen report few = elim (cases_lt i (length seen)) [
  | inl more ↦ ap (traced i (drop i seen)) (drop_all i report (omega (arith, few, more))) ∙ without_lines i (drop i seen)
  | inr all ↦ ap (λ (l : List Noted). traced i l (drop i report)) (drop_all i seen all)
]
