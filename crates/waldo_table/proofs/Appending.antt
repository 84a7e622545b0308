-- An append: a draw and three placings.
use Rattle.std.proofs.Common.{◌≡◌, ◌∙◌, refl, sym, ap, subst, ℕ, zero, suc, ◌+◌, true, false, if◌then◌else◌, Some, slice_get, List, [], ◌∷◌, ◌++◌, max, arith}
use mathlib.Core.List.{IsPrefix}
use Rattle.list_facts.specs.Count.{has, times}
use Rattle.list_facts.proofs.Count.{has_from}
use Rattle.list_facts.proofs.Prefixes.{prefix_self, prefix_trans}
use Rattle.agreed_rows.proofs.Elements.{prefix_get}
use Rattle.prg_chacha.specs.declared.seed.Seed.{Seed}
use Rattle.table_schema.specs.declared.rows.Row.{Row}
use Rattle.ticket_place.specs.Sights.{Draws, Seen}
use Rattle.std.proofs.lemmas.List.{length-append}
use Rattle.waldo_table.specs.Pieces.{Placing, is_done, with_placed}
use Rattle.waldo_table.specs.Tables.{Appends, Grows, PassView, TableView, risen}
use Rattle.waldo_table.proofs.Legal.{drawn_there, has_more}

-- the entry of a draw stands at its place after a placing too
pub entry_after : (k : ℕ) (d d' : Placing) (order more : List (Row × Seed)) → d' ≡ with_placed k d → IsPrefix order more → slice_get order d.place ≡ Some d.entry → slice_get more d'.place ≡ Some d'.entry
entry_after k d d' order more is p there = subst (λ (x : Placing). slice_get more x.place ≡ Some x.entry) (sym is) (by k)
  where
    by : (n : ℕ) → slice_get more (with_placed n d).place ≡ Some (with_placed n d).entry
    by zero = prefix_get order more d.place d.entry p there
    by (suc zero) = prefix_get order more d.place d.entry p there
    by (suc (suc n)) = prefix_get order more d.place d.entry p there

risen_no : (d : Placing) (floor : ℕ) → is_done d ≡ false → risen d floor ≡ floor
risen_no d floor e = ap (λ b. if b then max floor (d.place + 1) else floor) e

risen_yes : (d : Placing) (floor : ℕ) → is_done d ≡ true → risen d floor ≡ max floor (d.place + 1)
risen_yes d floor e = ap (λ b. if b then max floor (d.place + 1) else floor) e

has_once : (x : ℕ) (xs : List ℕ) → times x xs ≡ 1 → has x xs ≡ true
has_once x xs once = has_from x xs (omega (arith, once))

pub appends : (t : TableView) (entry : Row × Seed) (p p0 p1 p2 p3 : PassView) (d d1 d2 d3 : Placing) (place : ℕ)
    → Draws entry p.sight d.place p0.sight → p0 ≡ record p { sight = p0.sight }
    → d ≡ record { table = t; entry = entry; place = d.place; zero = false; one = false; two = false } → d1 ≡ with_placed 0 d → d2 ≡ with_placed 1 d1 → d3 ≡ with_placed 2 d2 → place ≡ d3.place
    → p1.sight ≡ record p0.sight { order = p1.sight.order } → p2.sight ≡ record p1.sight { order = p2.sight.order } → p3.sight ≡ record p2.sight { order = p3.sight.order }
    → Grows p0 p1 → Grows p1 p2 → Grows p2 p3
    → times d.place p1.zero.seen ≡ 1 → times d1.place p2.one.seen ≡ 1 → times d2.place p3.two.seen ≡ 1
    → p1.floor ≡ risen d1 p0.floor → p2.floor ≡ risen d2 p1.floor → p3.floor ≡ risen d3 p2.floor
    → Appends entry p place p3
appends t entry p p0 p1 p2 p3 d d1 d2 d3 place draws rest e0 e1 e2 e3 is s1 s2 s3 g1 g2 g3 h0 h1 h2 f1 f2 f3 =
    let at1 : d1.place ≡ d.place = ap (λ (x : Placing). x.place) e1 in
    let at2 : d2.place ≡ d1.place = ap (λ (x : Placing). x.place) e2 in
    let at3 : d3.place ≡ d2.place = ap (λ (x : Placing). x.place) e3 in
    let same : d.place ≡ place = sym (is ∙ at3 ∙ at2 ∙ at1) in
    let one1 : d1.one ≡ false = ap (λ (x : Placing). x.one) e1 ∙ ap (λ (x : Placing). x.one) e0 in
    let two1 : d1.two ≡ false = ap (λ (x : Placing). x.two) e1 ∙ ap (λ (x : Placing). x.two) e0 in
    let zero1 : d1.zero ≡ true = ap (λ (x : Placing). x.zero) e1 in
    let two2 : d2.two ≡ false = ap (λ (x : Placing). x.two) e2 ∙ two1 in
    let one2 : d2.one ≡ true = ap (λ (x : Placing). x.one) e2 in
    let zero2 : d2.zero ≡ true = ap (λ (x : Placing). x.zero) e2 ∙ zero1 in
    let done1 : is_done d1 ≡ false = rw (zero1, one1) refl in
    let done2 : is_done d2 ≡ false = rw (zero2, one2, two2) refl in
    let done3 : is_done d3 ≡ true = rw (ap (λ (x : Placing). x.zero) e3 ∙ zero2, ap (λ (x : Placing). x.one) e3 ∙ one2, ap (λ (x : Placing). x.two) e3) refl in
    let order = prefix_trans _ _ _ g1.order (prefix_trans _ _ _ g2.order g3.order) in
    let floor0 : p0.floor ≡ p.floor = ap (λ (x : PassView). x.floor) rest in
    let floor2 : p2.floor ≡ p.floor = f2 ∙ risen_no d2 p1.floor done2 ∙ f1 ∙ risen_no d1 p0.floor done1 ∙ floor0 in
    record {
      there = subst (λ (n : ℕ). slice_get p3.sight.order n ≡ Some entry) same (prefix_get p0.sight.order p3.sight.order d.place entry order (drawn_there entry p.sight d.place p0.sight draws));
      past = omega (arith, draws.at, length-append p.sight.order draws.others, same);
      own = ap (λ (s : Seen). s.own) s3 ∙ ap (λ (s : Seen). s.own) s2 ∙ ap (λ (s : Seen). s.own) s1 ∙ draws.own ∙ ap (λ (n : ℕ). p.sight.own ++ n ∷ []) same;
      room = omega (arith, ap (λ (s : Seen). s.room) s3, ap (λ (s : Seen). s.room) s2, ap (λ (s : Seen). s.room) s1, draws.room);
      zero = subst (λ (n : ℕ). has n p3.zero.seen ≡ true) same (has_more d.place p1.zero.seen p3.zero.seen (prefix_trans _ _ _ g2.zero g3.zero) (has_once d.place p1.zero.seen h0));
      one = subst (λ (n : ℕ). has n p3.one.seen ≡ true) (at1 ∙ same) (has_more d1.place p2.one.seen p3.one.seen g3.one (has_once d1.place p2.one.seen h1));
      two = subst (λ (n : ℕ). has n p3.two.seen ≡ true) (at2 ∙ at1 ∙ same) (has_once d2.place p3.two.seen h2);
      floor = f3 ∙ risen_yes d3 p2.floor done3 ∙ ap (λ (n : ℕ). max n (d3.place + 1)) floor2 ∙ ap (λ (n : ℕ). max p.floor (n + 1)) (sym is);
    }

-- a draw that was refused left the pass as it was
pub grows_same : (p q : PassView) → q ≡ p → Grows p q
grows_same p q same = subst (λ (x : PassView). Grows p x) (sym same) (record { order = prefix_self _; zero = prefix_self _; one = prefix_self _; two = prefix_self _ })
