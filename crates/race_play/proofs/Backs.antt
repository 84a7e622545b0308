-- A writer's line over the order that is printed.
use Rattle.std.proofs.Common.{◌≡◌, ◌∙◌, refl, sym, ap, subst, ℕ, zero, suc, ◌<◌, ◌≤◌, true, false, Some, slice_get, List, [], ◌∷◌, length, get_or, arith}
use Rattle.std.proofs.lemmas.Bool.Decides.{nat_tests}
use Rattle.std.proofs.lemmas.Option.{slice_get-get_or}
use mathlib.Core.Logic.{dite}
use mathlib.Core.List.{IsPrefix}
use native.Mathlib.Decide.{ℕ_discrete}
use Rattle.list_facts.specs.Count.{has, times}
use Rattle.list_facts.proofs.Count.{times-append}
use Rattle.list_facts.proofs.Prefixes.{prefix_length}
use Rattle.prefix_log.proofs.Prefixes.{prefix_is_largest}
use Rattle.prg_chacha.specs.declared.seed.Seed.{Seed}
use Rattle.report_lines.specs.declared.lines.Line.{Line}
use Rattle.report_lines.specs.declared.lines.Line.TheVariants as lines
use Rattle.table_schema.specs.declared.rows.Row.{Row}
use Rattle.waldo_table.specs.Tables.{PassView, seat_of}
use Rattle.race_play.specs.Laws.{BacksStand, Stands}
use Rattle.race_play.specs.Printed.{IsBackLine, IsPast}
use Rattle.race_play.specs.Writes.{AreThere, IsBack, IsThere, floor_over}

there_at : (q : PassView) (k place : ℕ) → IsThere q place → has place (seat_of k q).seen ≡ true
there_at q zero place t = t.zero
there_at q (suc zero) place t = t.one
there_at q (suc (suc k)) place t = t.two

-- a place that a server lacks is none of those that it has
lacked : (q : PassView) (k had : ℕ) (places : List ℕ) → has had (seat_of k q).seen ≡ false → AreThere q places → times had places ≡ 0
lacked q k had [] misses t = refl
lacked q k had (p ∷ places) misses t =
    let rest = lacked q k had places misses t.1 in
    let one : times had (p ∷ []) ≡ 0 = dite (ℕ_discrete had p)
    (λ e. let yes : has p (seat_of k q).seen ≡ true = there_at q k p t.0 in let same : has had (seat_of k q).seen ≡ has p (seat_of k q).seen = ap (λ (x : ℕ). has x (seat_of k q).seen) e in absurd cc)
    (λ ne. grind (arith, nat_tests)) in
    let sum = times-append had (p ∷ []) places in omega arith

module _ (rows : List Row) (master : Seed) (many : ℕ) (order : List (Row × Seed)) (places : List (List ℕ)) (printed : List ℕ) (stands : Stands rows master many order places printed)
    (w : ℕ) (own : List ℕ) (at : slice_get places w ≡ Some own) (between q : PassView) (floor : between.floor ≡ floor_over 0 own) (there : AreThere q own)
    (begins : IsPrefix q.sight.order order) (legal : q.floor ≤ length q.sight.order) where
  by_line : (line : Line) → IsBack w between q line → IsBackLine (length rows) many printed w line
  by_line (lines.Back writer n) b =
      let past = stands.past w own at in
      let le = b.2 in let is = b.1 in let same = stands.same in let long = prefix_length q.sight.order order begins in
      (b.0, (floor_over 0 own, past, omega arith), omega arith)
  by_line (lines.BackAgain writer k had least) b =
      let lacks = b.2 in
      let misses : has had (seat_of k q).seen ≡ false = ap (λ (x : ℕ). has x (seat_of k q).seen) lacks.found ∙ (prefix_is_largest (seat_of k q).seen).next in
      let none = lacked q k had own misses there in
      let is : floor_over 0 own ≡ least = sym floor ∙ sym lacks.floor in
      let past = stands.past w own at in
      let below = lacks.below in let same = stands.same in let long = prefix_length q.sight.order order begins in let all = stands.is_order.long in
      let up = b.1 in let from = lacks.floor in
      let lt : had < length printed = omega arith in
      let there' : slice_get printed had ≡ Some (get_or printed had 0) = slice_get-get_or printed had 0 lt in
      (b.0, lacks.server, subst (λ (n : ℕ). IsPast many w printed n) is past, below, (get_or printed had 0, there', stands.others w own had (get_or printed had 0) at there' none))
  by_line line b = absurd b

pub backs_stand : BacksStand
backs_stand rows master many order places printed stands w own p line q at none back begins legal =
    by_line rows master many order places printed stands w own at back.between q (back.wrote.floor ∙ ap (λ (f : ℕ). floor_over f own) none) back.there begins legal line back.back
