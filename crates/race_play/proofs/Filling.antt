-- Rows put at places.
use Rattle.std.proofs.Common.{◌≡◌, ◌≢◌, ◌∙◌, refl, sym, ap, subst, ℕ, zero, suc, ◌+◌, ◌<◌, ◌≤◌, ◌⊎◌, inl, inr, ⊎_elim, Some, slice_get, List, [], ◌∷◌, length, set, arith}
use Rattle.std.proofs.lemmas.Bool.Decides.{nat_tests}
use Rattle.std.proofs.lemmas.List.{length-set}
use mathlib.Core.Logic.{dite}
use native.Mathlib.Decide.{ℕ_discrete}
use Rattle.list_facts.specs.Count.{times}
use Rattle.list_facts.proofs.Count.{times-append}
use Rattle.race_play.specs.Filled.{filled}

-- a row and its place, in two lists
abbrev pub InPair : List ℕ → List ℕ → ℕ → ℕ → Type 0
InPair [] ps i a = ⊥
InPair (x ∷ is) [] i a = ⊥
InPair (x ∷ is) (p ∷ ps) i a = ((i ≡ x) × (a ≡ p)) ⊎ InPair is ps i a

-- the places are blank
abbrev pub Free : ℕ → List ℕ → List ℕ → Type 0
Free blank xs ps = (x : ℕ) → 0 < times x ps → slice_get xs x ≡ Some blank

pub get_set : (xs : List ℕ) (p i old : ℕ) → slice_get xs p ≡ Some old → slice_get (set xs p i) p ≡ Some i
get_set [] p i old e = absurd cc
get_set (x ∷ xs) zero i old e = refl
get_set (x ∷ xs) (suc p) i old e = get_set xs p i old e

pub get_other : (xs : List ℕ) (p i x : ℕ) → x ≢ p → slice_get (set xs p i) x ≡ slice_get xs x
get_other [] p i x ne = refl
get_other (y ∷ xs) zero i zero ne = absurd (ne refl)
get_other (y ∷ xs) zero i (suc x) ne = refl
get_other (y ∷ xs) (suc p) i zero ne = refl
get_other (y ∷ xs) (suc p) i (suc x) ne = get_other xs p i x (λ e. ne (ap suc e))

count_set : (xs : List ℕ) (p i old v : ℕ) → slice_get xs p ≡ Some old → times v (set xs p i) + times v (old ∷ []) ≡ times v xs + times v (i ∷ [])
count_set [] p i old v e = absurd cc
count_set (x ∷ xs) zero i old v e = let same : x ≡ old = cc in subst (λ (y : ℕ). times v (i ∷ xs) + times v (y ∷ []) ≡ times v (x ∷ xs) + times v (i ∷ [])) same (omega arith)
count_set (x ∷ xs) (suc p) i old v e = let r = count_set xs p i old v e in omega arith

here_once : (p : ℕ) (ps : List ℕ) → times p (p ∷ ps) ≡ times p ps + 1
here_once p ps = grind (arith, nat_tests)

other_once : (x p : ℕ) (ps : List ℕ) → x ≢ p → times x (p ∷ ps) ≡ times x ps
other_once x p ps ne = grind (arith, nat_tests)

pub rest_once : (p : ℕ) (ps : List ℕ) → ((x : ℕ) → times x (p ∷ ps) ≤ 1) → (times p ps ≡ 0) × ((x : ℕ) → times x ps ≤ 1)
rest_once p ps once = (let o = once p in let h = here_once p ps in omega arith, λ x. let o = once x in let more = times-append x (p ∷ []) ps in omega arith)

free_rest : (blank : ℕ) (xs : List ℕ) (p i : ℕ) (ps : List ℕ) → ((x : ℕ) → times x (p ∷ ps) ≤ 1) → Free blank xs (p ∷ ps) → Free blank (set xs p i) ps
free_rest blank xs p i ps once free x lt =
    let ne : x ≢ p = λ e. let none = (rest_once p ps once).0 in let same : times x ps ≡ times p ps = ap (λ (y : ℕ). times y ps) e in absurd (omega arith) in
    get_other xs p i x ne ∙ free x (let o = other_once x p ps ne in omega arith)

pub filled_keeps : (xs is ps : List ℕ) (x : ℕ) → times x ps ≡ 0 → slice_get (filled xs is ps) x ≡ slice_get xs x
filled_keeps xs [] ps x none = refl
filled_keeps xs (i ∷ is) [] x none = refl
filled_keeps xs (i ∷ is) (p ∷ ps) x none =
    let ne : x ≢ p = λ e. let h = here_once p ps in let same : times x (p ∷ ps) ≡ times p (p ∷ ps) = ap (λ (y : ℕ). times y (p ∷ ps)) e in absurd (omega arith) in
    filled_keeps (set xs p i) is ps x (let o = other_once x p ps ne in omega arith) ∙ get_other xs p i x ne

pub filled_long : (xs is ps : List ℕ) → length (filled xs is ps) ≡ length xs
filled_long xs [] ps = refl
filled_long xs (i ∷ is) [] = refl
filled_long xs (i ∷ is) (p ∷ ps) = filled_long (set xs p i) is ps ∙ length-set xs p i

pub filled_count : (blank : ℕ) (xs is ps : List ℕ) (v : ℕ) → length ps ≡ length is → Free blank xs ps → ((x : ℕ) → times x ps ≤ 1) → v ≢ blank → times v (filled xs is ps) ≡ times v xs + times v is
filled_count blank xs [] ps v long free once ne = omega arith
filled_count blank xs (i ∷ is) [] v long free once ne = absurd (omega (arith, long))
filled_count blank xs (i ∷ is) (p ∷ ps) v long free once ne =
    let at : slice_get xs p ≡ Some blank = free p (let h = here_once p ps in omega arith) in
    let rest = filled_count blank (set xs p i) is ps v (omega (arith, long)) (free_rest blank xs p i ps once free) (rest_once p ps once).1 ne in
    let one = count_set xs p i blank v at in
    let none : times v (blank ∷ []) ≡ 0 = other_once v blank [] ne in
    let more = times-append v (i ∷ []) is in omega arith

pub in_times : (is ps : List ℕ) (i a : ℕ) → InPair is ps i a → 0 < times a ps
in_times [] ps i a h = absurd h
in_times (x ∷ is) [] i a h = absurd h
in_times (x ∷ is) (p ∷ ps) i a h = ⊎_elim (λ (e : (i ≡ x) × (a ≡ p)). let one = here_once p ps in let same : times a (p ∷ ps) ≡ times p (p ∷ ps) = ap (λ (y : ℕ). times y (p ∷ ps)) e.1 in omega arith)
    (λ (t : InPair is ps i a). let r = in_times is ps i a t in let more = times-append a (p ∷ []) ps in omega arith) h

pub filled_at : (blank : ℕ) (xs is ps : List ℕ) (i a : ℕ) → Free blank xs ps → ((x : ℕ) → times x ps ≤ 1) → InPair is ps i a → slice_get (filled xs is ps) a ≡ Some i
filled_at blank xs [] ps i a free once h = absurd h
filled_at blank xs (x ∷ is) [] i a free once h = absurd h
filled_at blank xs (x ∷ is) (p ∷ ps) i a free once h = ⊎_elim
    (λ (e : (i ≡ x) × (a ≡ p)). subst (λ (y : ℕ). slice_get (filled (set xs p x) is ps) y ≡ Some i) (sym e.1)
    (filled_keeps (set xs p x) is ps p (rest_once p ps once).0 ∙ get_set xs p x blank (free p (let h' = here_once p ps in omega arith)) ∙ ap (λ (y : ℕ). Some y) (sym e.0)))
    (λ (t : InPair is ps i a). filled_at blank (set xs p x) is ps i a (free_rest blank xs p x ps once free) (rest_once p ps once).1 t) h

-- a place that is there has a row
pub pair_of : (is ps : List ℕ) (a : ℕ) → length ps ≡ length is → 0 < times a ps → (i : ℕ) × InPair is ps i a
pair_of is [] a long lt = absurd (omega arith)
pair_of [] (p ∷ ps) a long lt = absurd (omega (arith, long))
pair_of (x ∷ is) (p ∷ ps) a long lt = dite (ℕ_discrete a p) (λ e. (x, inl (refl, e)))
    (λ ne. let o = other_once a p ps ne in let r = pair_of is ps a (omega (arith, long)) (omega arith) in (r.0, inr r.1))

-- and a row that is there has a place
pub place_of : (is ps : List ℕ) (i : ℕ) → length ps ≡ length is → 0 < times i is → (a : ℕ) × InPair is ps i a
place_of [] ps i long lt = absurd (omega arith)
place_of (x ∷ is) [] i long lt = absurd (omega (arith, long))
place_of (x ∷ is) (p ∷ ps) i long lt = dite (ℕ_discrete i x) (λ e. (p, inl (e, refl)))
    (λ ne. let o = other_once i x is ne in let r = place_of is ps i (omega (arith, long)) (omega arith) in (r.0, inr r.1))
