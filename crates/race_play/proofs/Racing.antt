-- From what was gathered to what is printed.
use Rattle.std.proofs.Common.{◌≡◌, ◌∙◌, refl, sym, ap, subst, ℕ, zero, suc, ◌+◌, ◌<◌, ◌≤◌, Some, slice_get, List, [], ◌∷◌, length, arith}
use Rattle.std.proofs.lemmas.List.{length-map}
use Rattle.std.proofs.lemmas.Option.{same_Some}
use Rattle.prg_chacha.specs.declared.seed.Seed.{Seed}
use Rattle.report_lines.specs.declared.lines.Line.{Line}
use Rattle.table_schema.specs.declared.rows.Row.{Row}
use Rattle.ticket_place.specs.Sights.{IsSound}
use Rattle.list_facts.specs.Count.{times}
use Rattle.list_facts.proofs.Count.{times-once}
use Rattle.waldo_table.specs.Tables.{PassView}
use Rattle.race_play.specs.Filled.{IsGathered, all_places}
use Rattle.race_play.specs.Gathers.{IsAll, places_in}
use Rattle.race_play.specs.Jobs.{HaveEnded}
use Rattle.race_play.specs.Laws.{Stands}
use Rattle.race_play.specs.Printed.{IsBackLine}
use Rattle.race_play.specs.Raced.{HasFirst}
use Rattle.race_play.specs.declared.gather.Gathered.{Gathered}
use Rattle.race_play.proofs.Backs.{backs_stand}
use Rattle.race_play.proofs.Gathering.{has_first, written_of}
use Rattle.race_play.proofs.Ordering.{whole_length}

-- all writers' passes are gathered, and the first pass kept the room that no row wants
pub gathered_of : (rows : List Row) (master : Seed) (writers capacity : ℕ) (p : PassView) (g : Gathered) (before : ℕ) → 0 < writers → length g.places.items ≡ writers → IsAll rows master writers p g → IsSound p.sight
    → p.sight.book.capacity ≡ capacity → before + length rows ≡ capacity → before ≤ p.sight.room → IsGathered rows master writers p.sight.order (places_in g)
gathered_of rows master writers capacity p g before some long all sound book kept room = record {
  some = some;
  each = length-map g.places.items (λ v. v.items) ∙ long;
  wrote = written_of rows master writers p 0 (places_in g) g.lines.items all.ended;
  apart = λ x. let o = sound.once x in let same = ap (times x) all.own in omega arith;
  few = let w = sound.within in omega arith;
}

module _ (rows : List Row) (master : Seed) (writers : ℕ) (p : PassView) (places : List (List ℕ)) (printed : List ℕ) (stands : Stands rows master writers p.sight.order places printed) where
  back_at : (w k : ℕ) (own : List (List ℕ)) (lines : List Line) (line : Line) → ((j : ℕ) (o : List ℕ) → slice_get own j ≡ Some o → slice_get places (w + j) ≡ Some o) → HaveEnded rows master writers p w own lines
      → slice_get lines k ≡ Some line → IsBackLine (length rows) writers printed (w + k) line
  back_at w k [] [] line there h at = absurd cc
  back_at w k [] (l ∷ lines) line there h at = absurd h
  back_at w k (o ∷ own) [] line there h at = absurd h
  back_at w zero (o ∷ own) (l ∷ lines) line there h at =
      let e = h.0.1 in
      let z : w + 0 ≡ w = omega arith in
      let here : slice_get places w ≡ Some o = subst (λ (n : ℕ). slice_get places n ≡ Some o) z (there 0 o refl) in
      subst (λ (n : ℕ). IsBackLine (length rows) writers printed n line) (sym z) (subst (λ (x : Line). IsBackLine (length rows) writers printed w x) (same_Some l line at)
      (backs_stand rows master writers p.sight.order places printed stands w o e.began l h.0.0 here e.fresh.floor e.wrote h.0.2.order e.legal.floor))
  back_at w (suc k) (o ∷ own) (l ∷ lines) line there h at =
      let z : suc w + k ≡ w + suc k = omega arith in
      subst (λ (n : ℕ). IsBackLine (length rows) writers printed n line) z
      (back_at (suc w) k own lines line (λ j o' e. subst (λ (n : ℕ). slice_get places n ≡ Some o') (let y : w + suc j ≡ suc w + j = omega arith in y) (there (suc j) o' e)) h.1 at)

  pub all_backs : (lines : List Line) → HaveEnded rows master writers p 0 places lines → (w : ℕ) (line : Line) → slice_get lines w ≡ Some line → IsBackLine (length rows) writers printed w line
  all_backs lines h w line at =
      let z : 0 + w ≡ w = omega arith in
      subst (λ (n : ℕ). IsBackLine (length rows) writers printed n line) z
      (back_at 0 w places lines line (λ j o e. subst (λ (n : ℕ). slice_get places n ≡ Some o) (let y : j ≡ 0 + j = omega arith in y) e) h at)

-- all places of the order are at the three servers
pub first_of : (rows : List Row) (master : Seed) (writers : ℕ) (p : PassView) (g : Gathered) → IsAll rows master writers p g → IsGathered rows master writers p.sight.order (places_in g) → length p.sight.order ≡ length rows → HasFirst (length rows) p
first_of rows master writers p g all gathered same =
    has_first rows master writers (length rows) p (places_in g) g.lines.items all.ended
    (λ x lt. let one = times-once (all_places (places_in g)) (length p.sight.order) gathered.apart (let long = all_rows in omega arith) x (omega arith) in omega arith)
  where
    all_rows : length (all_places (places_in g)) ≡ length rows
    all_rows = whole_length rows master writers p.sight.order (places_in g) gathered
