-- Steps that lead from stage to stage, one after another.
use Rattle.std.proofs.Common.{◌≡◌, ◌∙◌, refl, sym, ap, subst, ℕ, suc, ◌+◌, ◌<◌, inl, inr, List, [], ◌∷◌, ◌++◌, length, Option, Some, None, Result, Ok, Err, IsSomeAnd, IfSome, arith}
use Rattle.table_schema.specs.declared.widths.Widths.{Widths}
use Rattle.server_rounds.specs.declared.opened.OpenedPair.{OpenedPair}
use Rattle.waldo_words.specs.declared.schedule.Step.{Step}
use Rattle.schedule_play.specs.History.{AreHonest, Breaks, Done, IsHistory, pair_at}
use Rattle.schedule_play.specs.Leads.{Advances}
use Rattle.schedule_play.specs.Plain.{ArePlain}
use Rattle.schedule_play.specs.Stages.{Stage, actor_in, go_on, next_stage, played_on}
use Rattle.schedule_play.specs.Tasks.{Setting}
use Rattle.schedule_play.specs.declared.style.Style.{Style}

-- what holds of the value of an option, and what follows from it
pub some_and : {A : Type 0} (o : Option A) (P Q : A → Type 0) → ((x : A) → P x → Q x) → IsSomeAnd o P → IsSomeAnd o Q
some_and None P Q f h = h
some_and (Some x) P Q f h = f x h

from_some : {A : Type 0} (o : Option A) (P : A → Type 0) (R : Type 0) → ((x : A) → P x → R) → IsSomeAnd o P → R
from_some None P R f h = absurd h
from_some (Some x) P R f h = f x h

if_some_and : {A : Type 0} (o : Option A) (P Q R : A → Type 0) → ((x : A) → P x → Q x → R x) → IsSomeAnd o P → IfSome o Q → IfSome o R
if_some_and None P Q R f p q = absurd p
if_some_and (Some x) P Q R f p q = f x p q

go_on_is : (rest : Stage → Result Stage ℕ) (t : ℕ) (r : Result Stage ℕ) (o : Option Stage) (P : Stage → Type 0) → ((next : Stage) → P next → rest next ≡ r) → IsSomeAnd o P → go_on rest t o ≡ r
go_on_is rest t r None P f h = absurd h
go_on_is rest t r (Some next) P f h = f next h

-- where unaltered wires are fewer, less is said of them
pub honest_weaker : (P Q : ℕ → Type 0) → ((actor : ℕ) → Q actor → P actor) → (ds : List Done) → AreHonest P ds → AreHonest Q ds
honest_weaker P Q f [] h = tt
honest_weaker P Q f (d ∷ ds) h = ((λ q. h.0 (f (actor_in d.step) q)), honest_weaker P Q f ds h.1)

pub honest_both : (P : ℕ → Type 0) (ds es : List Done) → AreHonest P ds → AreHonest P es → AreHonest P (ds ++ es)
honest_both P [] es h k = k
honest_both P (d ∷ ds) es h k = (h.0, honest_both P ds es h.1 k)

module _ (w : Widths) (s : Setting) (style : Style) where
  pub advances_both : (xs ys : List Step) (ds es : List Done) (stage mid end : Stage) → Advances w s style stage xs ds mid → Advances w s style mid ys es end
      → Advances w s style stage (xs ++ ys) (ds ++ es) end
  advances_both [] ys [] es stage mid end p q = subst (λ (a : Stage). Advances w s style a ys es end) p q
  advances_both [] ys (d ∷ ds) es stage mid end p q = absurd p
  advances_both (x ∷ xs) ys [] es stage mid end p q = absurd p
  advances_both (x ∷ xs) ys (d ∷ ds) es stage mid end p q = (
    p.0,
    p.1,
    some_and (next_stage s style stage x d.pair) (λ (next : Stage). Advances w s style next xs ds mid) (λ (next : Stage). Advances w s style next (xs ++ ys) (ds ++ es) end)
        (λ next a. advances_both xs ys ds es next mid end a q) p.2,
  )

  -- a history, from a later stage on
  pub history_after : (xs ys : List Step) (ds es : List Done) (stage mid : Stage) → Advances w s style stage xs ds mid → IsHistory w s style mid ys es
      → IsHistory w s style stage (xs ++ ys) (ds ++ es)
  history_after [] ys [] es stage mid p q = subst (λ (a : Stage). IsHistory w s style a ys es) p q
  history_after [] ys (d ∷ ds) es stage mid p q = absurd p
  history_after (x ∷ xs) ys [] es stage mid p q = absurd p
  history_after (x ∷ xs) ys (d ∷ ds) es stage mid p q = (
    p.0,
    p.1,
    some_and (next_stage s style stage x d.pair) (λ (next : Stage). Advances w s style next xs ds mid) (λ (next : Stage). IsHistory w s style next (xs ++ ys) (ds ++ es))
        (λ next a. history_after xs ys ds es next mid a q) p.2,
  )

  pub breaks_after : (xs ys : List Step) (ds es : List Done) (stage mid : Stage) → Advances w s style stage xs ds mid → Breaks w s style mid ys es
      → Breaks w s style stage (xs ++ ys) (ds ++ es)
  breaks_after [] ys [] es stage mid p q = subst (λ (a : Stage). Breaks w s style a ys es) p q
  breaks_after [] ys (d ∷ ds) es stage mid p q = absurd p
  breaks_after (x ∷ xs) ys [] es stage mid p q = absurd p
  breaks_after (x ∷ xs) ys (d ∷ ds) es stage mid p q = (
    p.0,
    inl (
      p.1,
      some_and (next_stage s style stage x d.pair) (λ (next : Stage). Advances w s style next xs ds mid) (λ (next : Stage). Breaks w s style next (xs ++ ys) (ds ++ es))
          (λ next a. breaks_after xs ys ds es next mid a q) p.2,
    ),
  )

  pub plain_after : (xs : List Step) (ds es : List Done) (stage mid : Stage) → Advances w s style stage xs ds mid → ArePlain s style stage ds
      → ArePlain s style mid es → ArePlain s style stage (ds ++ es)
  plain_after [] [] es stage mid p f g = subst (λ (a : Stage). ArePlain s style a es) p g
  plain_after [] (d ∷ ds) es stage mid p f g = absurd p
  plain_after (x ∷ xs) [] es stage mid p f g = absurd p
  plain_after (x ∷ xs) (d ∷ ds) es stage mid p f g = (
    f.0,
    if_some_and (next_stage s style stage d.step d.pair) (λ (next : Stage). Advances w s style next xs ds mid) (λ (next : Stage). ArePlain s style next ds)
        (λ (next : Stage). ArePlain s style next (ds ++ es)) (λ next a b. plain_after xs ds es next mid a b g)
        (subst (λ (y : Step). IsSomeAnd (next_stage s style stage y d.pair) (λ (next : Stage). Advances w s style next xs ds mid)) (sym p.0) p.2) f.1,
  )

  -- all steps were done: that is a history of them
  pub history_of : (xs : List Step) (ds : List Done) (stage end : Stage) → Advances w s style stage xs ds end → IsHistory w s style stage xs ds
  history_of [] [] stage end p = tt
  history_of [] (d ∷ ds) stage end p = absurd p
  history_of (x ∷ xs) [] stage end p = absurd p
  history_of (x ∷ xs) (d ∷ ds) stage end p = (
    p.0,
    p.1,
    some_and (next_stage s style stage x d.pair) (λ (next : Stage). Advances w s style next xs ds end) (λ (next : Stage). IsHistory w s style next xs ds)
        (λ next a. history_of xs ds next end a) p.2,
  )

  pub length_advances : (xs : List Step) (ds : List Done) (stage end : Stage) → Advances w s style stage xs ds end → length ds ≡ length xs
  length_advances [] [] stage end p = refl
  length_advances [] (d ∷ ds) stage end p = absurd p
  length_advances (x ∷ xs) [] stage end p = absurd p
  length_advances (x ∷ xs) (d ∷ ds) stage end p =
      ap suc (from_some (next_stage s style stage x d.pair) (λ (next : Stage). Advances w s style next xs ds end) (length ds ≡ length xs) (λ next a. length_advances xs ds next end a) p.2)

  -- more steps behind one without a case
  pub history_more : (xs ys : List Step) (ds : List Done) (stage : Stage) → length ds < length xs → IsHistory w s style stage xs ds → IsHistory w s style stage (xs ++ ys) ds
  history_more [] ys ds stage lt h = absurd (omega arith)
  history_more (x ∷ xs) ys [] stage lt h = h
  history_more (x ∷ xs) ys (d ∷ ds) stage lt h = (
    h.0,
    h.1,
    some_and (next_stage s style stage x d.pair) (λ (next : Stage). IsHistory w s style next xs ds) (λ (next : Stage). IsHistory w s style next (xs ++ ys) ds)
        (λ next a. history_more xs ys ds next (omega arith) a) h.2,
  )

  pub breaks_more : (xs ys : List Step) (ds : List Done) (stage : Stage) → Breaks w s style stage xs ds → Breaks w s style stage (xs ++ ys) ds
  breaks_more xs ys [] stage h = tt
  breaks_more [] ys (d ∷ ds) stage h = absurd h
  breaks_more (x ∷ xs) ys (d ∷ ds) stage h = (
    h.0,
    elim h.1 [
      | inl p ↦ inl (
        p.0,
        some_and (next_stage s style stage x d.pair) (λ (next : Stage). Breaks w s style next xs ds) (λ (next : Stage). Breaks w s style next (xs ++ ys) ds)
            (λ next a. breaks_more xs ys ds next a) p.1,
      )
      | inr q ↦ inr q
    ],
  )

  -- the last stage, where the steps open the pairs of their history
  pub played_all : (pairs : ℕ → OpenedPair) (xs : List Step) (ds : List Done) (t : ℕ) (stage end : Stage) → Advances w s style stage xs ds end
      → ((i : ℕ) → i < length ds → pairs (t + i) ≡ pair_at ds i) → played_on s style (λ n a x. pairs n) t stage xs ≡ Ok end
  played_all pairs [] [] t stage end p same = ap Ok (sym p)
  played_all pairs [] (d ∷ ds) t stage end p same = absurd p
  played_all pairs (x ∷ xs) [] t stage end p same = absurd p
  played_all pairs (x ∷ xs) (d ∷ ds) t stage end p same =
      let rest : Stage → Result Stage ℕ = λ next. played_on s style (λ n a x. pairs n) (t + 1) next xs in
      let first : pairs t ≡ d.pair = ap pairs (omega arith) ∙ same 0 (omega arith) in
      ap (λ (pair : OpenedPair). go_on rest t (next_stage s style stage x pair)) first
      ∙ go_on_is rest t (Ok end) (next_stage s style stage x d.pair) (λ (next : Stage). Advances w s style next xs ds end)
      (λ next a. played_all pairs xs ds (t + 1) next end a (λ i lt. ap pairs (omega arith) ∙ same (suc i) (omega arith))) p.2

  -- the number of the first step without a case
  pub played_refused : (pairs : ℕ → OpenedPair) (xs : List Step) (ds : List Done) (t : ℕ) (stage : Stage) → IsHistory w s style stage xs ds → length ds < length xs
      → ((i : ℕ) → i < length ds → pairs (t + i) ≡ pair_at ds i) → played_on s style (λ n a x. pairs n) t stage xs ≡ Err (t + length ds)
  played_refused pairs [] ds t stage h lt same = absurd (omega arith)
  played_refused pairs (x ∷ xs) [] t stage h lt same =
      ap (go_on (λ (next : Stage). played_on s style (λ n a x. pairs n) (t + 1) next xs) t) (h (pairs t)) ∙ ap Err (omega arith)
  played_refused pairs (x ∷ xs) (d ∷ ds) t stage h lt same =
      let rest : Stage → Result Stage ℕ = λ next. played_on s style (λ n a x. pairs n) (t + 1) next xs in
      let first : pairs t ≡ d.pair = ap pairs (omega arith) ∙ same 0 (omega arith) in
      ap (λ (pair : OpenedPair). go_on rest t (next_stage s style stage x pair)) first
      ∙ go_on_is rest t (Err (t + length (d ∷ ds))) (next_stage s style stage x d.pair) (λ (next : Stage). IsHistory w s style next xs ds)
      (λ next a. played_refused pairs xs ds (t + 1) next a (omega arith) (λ i less. ap pairs (omega arith) ∙ same (suc i) (omega arith)) ∙ ap Err (omega arith)) h.2
