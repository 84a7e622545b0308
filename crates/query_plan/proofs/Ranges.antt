-- Lists that are made piece by piece, one piece more.
use Rattle.std.proofs.Common.{◌≡◌, ℕ, ◌+◌, List, [], ◌∷◌, ◌++◌, sym, ap, ◌∙◌, arith, append_assoc}
use Rattle.std.specs.List.{flat_map, range_with_len}
use Rattle.std.proofs.lemmas.Grind.{flat_map-append}
use Rattle.std.proofs.lemmas.List.{append-nil}
use Rattle.std.proofs.lemmas.List.Folds.{flat_map-map}
use Rattle.std.proofs.lemmas.List.FromFn.{map-range_with_len_more}

flat_map-range_more : {A : Type 0} (f : ℕ → List A) (n : ℕ) → flat_map f (range_with_len 0 (n + 1)) ≡ flat_map f (range_with_len 0 n) ++ f n
flat_map-range_more f n =
    let same = λ (i : ℕ). i in
    sym (flat_map-map f same (range_with_len 0 (n + 1)))
    ∙ ap (flat_map f) (map-range_with_len_more same 0 n n (omega arith))
    ∙ flat_map-append f _ (n ∷ [])
    ∙ ap (λ xs. xs ++ (f n ++ [])) (flat_map-map f same (range_with_len 0 n))
    ∙ ap (λ xs. flat_map f (range_with_len 0 n) ++ xs) (append-nil (f n))

-- what was there before, and the pieces so far
pub pushed : {A : Type 0} (f : ℕ → List A) (base items next : List A) (n : ℕ) → items ≡ base ++ flat_map f (range_with_len 0 n) → next ≡ items ++ f n
    → next ≡ base ++ flat_map f (range_with_len 0 (n + 1))
pushed f base items next n e g =
    g ∙ ap (λ xs. xs ++ f n) e ∙ append_assoc base (flat_map f (range_with_len 0 n)) (f n)
    ∙ ap (λ xs. base ++ xs) (sym (flat_map-range_more f n))
