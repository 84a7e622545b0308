-- The lines of a report.
use Rattle.std.proofs.Common.{◌≡◌, ◌∙◌, sym, ap, ℕ, suc, ◌+◌, ◌<◌, List, [], ◌∷◌, ◌++◌, length, take, get_or, arith, append_assoc}
use Rattle.std.proofs.Math.Seq.{take-suc}
use Rattle.std.proofs.lemmas.List.{length-take-le}
use Rattle.report_lines.specs.declared.lines.Line.{Line}
use Rattle.report_lines.specs.declared.lines.Line.TheVariants as lines
use Rattle.race_play.specs.Reports.{place_lines}

-- one place more
pub places_snoc : (from : ℕ) (order : List ℕ) (i : ℕ) → place_lines from (order ++ i ∷ []) ≡ place_lines from order ++ lines.Place (from + length order) i ∷ []
places_snoc from [] i = let e : from ≡ from + 0 = omega arith in ap (λ (n : ℕ). lines.Place n i ∷ []) e
places_snoc from (x ∷ order) i =
    let e : suc from + length order ≡ from + suc (length order) = omega arith in
    ap (λ (ls : List Line). lines.Place from x ∷ ls) (places_snoc (suc from) order i ∙ ap (λ (n : ℕ). place_lines (suc from) order ++ lines.Place n i ∷ []) e)

pub place_more : (old report new : List Line) (order : List ℕ) (place next : ℕ) → place < length order → next ≡ suc place → report ≡ old ++ place_lines 0 (take place order)
    → new ≡ report ++ lines.Place place (get_or order place 0) ∷ [] → new ≡ old ++ place_lines 0 (take next order)
place_more old report new order place next lt e is more =
    let long : 0 + length (take place order) ≡ place = let l = length-take-le place order (omega arith) in omega arith in
    more ∙ ap (λ (ls : List Line). ls ++ lines.Place place (get_or order place 0) ∷ []) is ∙ append_assoc old (place_lines 0 (take place order)) (lines.Place place (get_or order place 0) ∷ [])
    ∙ ap (λ (ls : List Line). old ++ ls) (ap (λ (n : ℕ). place_lines 0 (take place order) ++ lines.Place n (get_or order place 0) ∷ []) (sym long) ∙ sym (places_snoc 0 (take place order) (get_or order place 0))
    ∙ ap (place_lines 0) (sym (take-suc order place 0 lt) ∙ ap (λ (n : ℕ). take n order) (sym e)))
