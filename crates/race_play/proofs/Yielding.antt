-- What a loop over the items of a vector has seen once none is left.
use Rattle.std.proofs.Common.{◌≡◌, ◌∙◌, refl, sym, ap, List, [], ◌∷◌, ◌++◌, length, append-nil}
use Rattle.std.specs.Iterator.{Yields}
use Rattle.std.specs.Vec.Iter.{into_iter_items, into_iter_steps}
use Rattle.std.specs.declared.vec.IntoIter.{IntoIter}

front : {X A : Type 0} (s : IntoIter X A) (xs : List X) (t : IntoIter X A) → Yields into_iter_steps s xs t → into_iter_items s ≡ xs ++ into_iter_items t
front s [] t y = ap into_iter_items y
front s (x ∷ xs) t y = y.1.0 ∙ ap (λ ys. x ∷ ys) (front y.0 xs t y.2)

none_left : {X : Type 0} (xs : List X) → length xs ≡ 0 → xs ≡ []
none_left [] e = refl
none_left (x ∷ xs) e = absurd cc

pub all_yielded : {X A : Type 0} (s : IntoIter X A) (xs : List X) (t : IntoIter X A) → Yields into_iter_steps s xs t → t.rest.len ≡ 0 → xs ≡ s.rest.items
all_yielded s xs t y none = sym (append-nil xs) ∙ ap (λ ys. xs ++ ys) (sym (none_left t.rest.items (sym t.rest.ok.0 ∙ none))) ∙ sym (front s xs t y)
