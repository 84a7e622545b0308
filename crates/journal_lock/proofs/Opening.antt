-- The rule at the start, and the two ways in which a journal goes back.
use Rattle.std.proofs.Common.{◌≡◌, ℕ, ◌+◌, ◌<◌, ◌≤◌, List, [], ◌∷◌, ◌++◌, length, sym, refl, ap, ◌∙◌, subst, ⊎_elim, arith, length-append, Option, Some}
use Rattle.std.proofs.lemmas.List.Elements.{All-cons, All-nil}
use Rattle.atomic_table.specs.Table.{opening}
use Rattle.list_facts.proofs.Prefixes.{prefix_nil, prefix_self}
use Rattle.journal_lock.specs.Desk.{Fits, Locked, rested}
use Rattle.journal_lock.specs.Seats.{OneMore}

pub opens : {S T : Type 0} (journal : S → List ℕ) (tag : S → T) (value like : S) (count : ℕ) (slots : List (Option S)) → count ≡ length (journal value) → like ≡ value → slots ≡ Some value ∷ []
    → Locked journal tag (tag like) (opening (0 ∷ count ∷ []) slots (rested (journal like)))
opens {S} {T} journal tag value like count slots is same all =
    let line : List ℕ = journal like in
    subst (λ (xs : List (Option S)). Locked journal tag (tag like) (opening (0 ∷ count ∷ []) xs (rested line))) (sym all) (record {
      line = line;
      turn = 0;
      words = ap (λ (n : ℕ). 0 ∷ n ∷ []) (is ∙ ap (λ (x : S). length (journal x)) (sym same));
      one = omega arith;
      held = refl;
      fits = All-cons (Fits line) (rested line) [] (record { seen = prefix_self line; left = prefix_nil line; right = prefix_nil line; all = λ h. absurd (cc (h)) }) (All-nil (Fits line));
      home = λ _. (value, refl, ap journal (sym same), ap tag (sym same));
    })

-- a journal that is longer has one entry more
pub one_more : (xs ys : List ℕ) → OneMore xs ys → length xs < length ys → (entry : ℕ) × (ys ≡ xs ++ entry ∷ [])
one_more xs ys m longer = ⊎_elim (λ e. absurd (let l : length ys ≡ length xs = ap length e in omega arith)) (λ t. t) m

-- a journal that is not longer is the same
pub no_more : (xs ys : List ℕ) → OneMore xs ys → length ys ≤ length xs → ys ≡ xs
no_more xs ys m short = ⊎_elim (λ e. e) (λ t. absurd (let l : length ys ≡ length xs + 1 = ap length t.1 ∙ length-append xs (t.0 ∷ []) in omega arith)) m
