-- What is gathered from the writers' jobs, one after another.
use Rattle.std.proofs.Common.{◌≡◌, ◌∙◌, refl, sym, ap, subst, ℕ, suc, ◌+◌, ◌<◌, ◌≤◌, List, [], ◌∷◌, ◌++◌, length, map, ⊎_elim, true, false, arith, append_assoc, append-nil}
use Rattle.prg_chacha.specs.declared.seed.Seed.{Seed}
use Rattle.report_lines.specs.declared.lines.Line.{Line}
use Rattle.table_schema.specs.declared.rows.Row.{Row}
use Rattle.std.proofs.lemmas.List.{length-map, map-append}
use Rattle.waldo_table.specs.Tables.{Grows, PassView, gathered}
use Rattle.std.proofs.lemmas.Bool.{cases_lt}
use Rattle.std.proofs.lemmas.Bool.Decides.{nat_tests}
use mathlib.Core.Logic.{dite}
use native.Mathlib.Decide.{ℕ_discrete}
use Rattle.list_facts.specs.Count.{has, times}
use Rattle.list_facts.proofs.Count.{times-append}
use Rattle.prefix_log.specs.Journal.{prefix}
use Rattle.prefix_log.proofs.Prefixes.{prefix_is_largest}
use Rattle.race_play.specs.Writes.{AreThere, IsThere}
use Rattle.race_play.specs.Filled.{HaveWritten, all_places}
use Rattle.race_play.specs.Jobs.{Ended, HaveEnded}
use Rattle.race_play.specs.Raced.{HasFirst}
use Rattle.race_play.specs.Turns.{IsRising}
use Rattle.race_play.proofs.Writing.{all_there_more, entries_more, grows_trans}

rising_low : (low m : ℕ) (xs : List ℕ) → low ≤ m → IsRising m xs → IsRising low xs
rising_low low m [] le r = tt
rising_low low m (x ∷ xs) le r = (let a = r.0 in omega arith, r.1)

module _ (rows : List Row) (master : Seed) (writers : ℕ) where
  pub ended_more : (order more : PassView) (w : ℕ) (places : List (List ℕ)) (lines : List Line) → Grows order more → HaveEnded rows master writers order w places lines → HaveEnded rows master writers more w places lines
  ended_more order more w [] [] p h = tt
  ended_more order more w [] (line ∷ lines) p h = absurd h
  ended_more order more w (ps ∷ places) [] p h = absurd h
  ended_more order more w (ps ∷ places) (line ∷ lines) p h = ((h.0.0, h.0.1, grows_trans _ _ _ h.0.2 p), ended_more order more (suc w) places lines p h.1)

  pub ended_snoc : (order : PassView) (w : ℕ) (places : List (List ℕ)) (lines : List Line) (own : List ℕ) (line : Line) (q : PassView) → HaveEnded rows master writers order w places lines
      → Ended rows master writers (w + length places) own line q → Grows q order → HaveEnded rows master writers order w (places ++ own ∷ []) (lines ++ line ∷ [])
  ended_snoc order w [] [] own line q h e p = ((q, subst (λ (k : ℕ). Ended rows master writers k own line q) (let z : w + 0 ≡ w = omega arith in z) e, p), tt)
  ended_snoc order w [] (l ∷ lines) own line q h e p = absurd h
  ended_snoc order w (ps ∷ places) [] own line q h e p = absurd h
  ended_snoc order w (ps ∷ places) (l ∷ lines) own line q h e p =
      (h.0, ended_snoc order (suc w) places lines own line q h.1 (subst (λ (k : ℕ). Ended rows master writers k own line q) (let z : w + suc (length places) ≡ suc w + length places = omega arith in z) e) p)

  pub ended_long : (order : PassView) (w : ℕ) (places : List (List ℕ)) (lines : List Line) → HaveEnded rows master writers order w places lines → length lines ≡ length places
  ended_long order w [] [] h = refl
  ended_long order w [] (l ∷ lines) h = absurd h
  ended_long order w (ps ∷ places) [] h = absurd h
  ended_long order w (ps ∷ places) (l ∷ lines) h = ap suc (ended_long order (suc w) places lines h.1)

  pub written_of : (order : PassView) (w : ℕ) (places : List (List ℕ)) (lines : List Line) → HaveEnded rows master writers order w places lines → HaveWritten rows master writers order.sight.order w places
  written_of order w [] [] h = tt
  written_of order w [] (l ∷ lines) h = absurd h
  written_of order w (ps ∷ places) [] h = absurd h
  written_of order w (ps ∷ places) (line ∷ lines) h =
      let e = h.0.1 in (
        entries_more rows master w h.0.0.sight.order order.sight.order _ ps h.0.2.order e.wrote.entries,
        rising_low 0 (length e.began.sight.order) ps (omega arith) e.wrote.wrote.rising,
        written_of order (suc w) places lines h.1,
      )

pub places_snoc : (places : List (List ℕ)) (own : List ℕ) → all_places (places ++ own ∷ []) ≡ all_places places ++ own
places_snoc [] own = append-nil own
places_snoc (ps ∷ places) own = ap (λ (l : List ℕ). ps ++ l) (places_snoc places own) ∙ sym (append_assoc ps (all_places places) own)

-- the own places of a writer's pass are those that it wrote
pub own_of : (rows : List Row) (master : Seed) (writers w : ℕ) (own : List ℕ) (line : Line) (q : PassView) → Ended rows master writers w own line q → q.sight.own ≡ own
own_of rows master writers w own line q e = e.wrote.sight ∙ e.wrote.wrote.own ∙ ap (λ (xs : List ℕ). xs ++ own) e.fresh.own

-- ---- one job more

module _ {V : Type 0} (items : V → List ℕ) (rows : List Row) (master : Seed) (writers : ℕ) (p p' q : PassView) (xs xs' : List V) (v : V) (ls ls' : List Line) (line : Line) (n : ℕ)
    (same : p' ≡ gathered p q) (more : xs' ≡ xs ++ v ∷ []) (more_lines : ls' ≡ ls ++ line ∷ []) (e : Ended rows master writers n (items v) line q) where
  mapped : map items xs' ≡ map items xs ++ items v ∷ []
  mapped = ap (map items) more ∙ map-append items xs (v ∷ [])

  pub taken_own : p.sight.own ≡ all_places (map items xs) → p'.sight.own ≡ all_places (map items xs')
  taken_own own =
      ap (λ (x : PassView). x.sight.own) same ∙ ap (λ (l : List ℕ). l ++ q.sight.own) own ∙ ap (λ (l : List ℕ). all_places (map items xs) ++ l) (own_of rows master writers n (items v) line q e)
      ∙ sym (places_snoc (map items xs) (items v)) ∙ ap all_places (sym mapped)

  pub taken_ended : n ≡ length xs → Grows p p' → Grows q p' → HaveEnded rows master writers p 0 (map items xs) ls → HaveEnded rows master writers p' 0 (map items xs') ls'
  taken_ended is grows others h =
      let at : n ≡ 0 + length (map items xs) = let l = length-map xs items in omega arith in
      subst (λ (ps : List (List ℕ)). HaveEnded rows master writers p' 0 ps ls') (sym mapped) (subst (λ (l : List Line). HaveEnded rows master writers p' 0 (map items xs ++ items v ∷ []) l) (sym more_lines)
      (ended_snoc rows master writers p' 0 (map items xs) ls (items v) line q (ended_more rows master writers p p' 0 (map items xs) ls grows h)
      (subst (λ (k : ℕ). Ended rows master writers k (items v) line q) at e) others))

-- ---- the three servers have all rows

there_one : (p : PassView) (places : List ℕ) (a : ℕ) → AreThere p places → 0 < times a places → IsThere p a
there_one p [] a t lt = absurd (omega arith)
there_one p (x ∷ places) a t lt = dite (ℕ_discrete a x) (λ e. subst (λ (y : ℕ). IsThere p y) (sym e) t.0)
    (λ ne. there_one p places a t.1 (let none : times a (x ∷ []) ≡ 0 = grind (arith, nat_tests) in let sum = times-append a (x ∷ []) places in omega arith))

all_there : (rows : List Row) (master : Seed) (writers : ℕ) (p : PassView) (w : ℕ) (places : List (List ℕ)) (lines : List Line) (a : ℕ) → HaveEnded rows master writers p w places lines → 0 < times a (all_places places) → IsThere p a
all_there rows master writers p w [] lines a h lt = absurd (omega arith)
all_there rows master writers p w (ps ∷ places) [] a h lt = absurd h
all_there rows master writers p w (ps ∷ places) (line ∷ lines) a h lt =
    let sum = times-append a ps (all_places places) in dite (ℕ_discrete (times a ps) 0)
    (λ none. all_there rows master writers p (suc w) places lines a h.1 (omega arith))
    (λ some. there_one p ps a (all_there_more h.0.0 p ps h.0.2 h.0.1.wrote.there) (omega arith))

least : (journal : List ℕ) (n : ℕ) → ((x : ℕ) → x < n → has x journal ≡ true) → n ≤ prefix journal
least journal n all = ⊎_elim (λ (less : prefix journal < n). let yes : has (prefix journal) journal ≡ true = all (prefix journal) less in let gap : has (prefix journal) journal ≡ false = (prefix_is_largest journal).next in absurd cc)
    (λ (most : n ≤ prefix journal). most) (cases_lt (prefix journal) n)

-- so no server lacks one of the first rows
pub has_first : (rows : List Row) (master : Seed) (writers n : ℕ) (p : PassView) (places : List (List ℕ)) (lines : List Line) → HaveEnded rows master writers p 0 places lines → ((x : ℕ) → x < n → 0 < times x (all_places places)) → HasFirst n p
has_first rows master writers n p places lines h all = record {
  zero = least p.zero.seen n (λ x lt. (all_there rows master writers p 0 places lines x h (all x lt)).zero);
  one = least p.one.seen n (λ x lt. (all_there rows master writers p 0 places lines x h (all x lt)).one);
  two = least p.two.seen n (λ x lt. (all_there rows master writers p 0 places lines x h (all x lt)).two);
}
