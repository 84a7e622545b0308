use Rattle.std.proofs.Common.{rules, ◌++◌, [], ◌∷◌, ◌≡◌, ◌<◌, ◌≤◌, ◌∙◌, sym, ap, subst, refl, length, ℕ, ◌+◌, ◌-◌, List, take, drop, get_or, eqb, false, arith}
use Rattle.std.proofs.lemmas.List.{take_all, length-drop}
use Rattle.std.proofs.Math.Seq.{drop-length}
use Rattle.std.proofs.lemmas.Bool.{eq-eqb}
use Rattle.text_reading.specs.Cut.{pieces}
use Rattle.text_reading.proofs.CutLaws.{last_hit, last_miss}
use Rattle.text_reading.proofs.cuts.cut_last.Goals as goal

pub loop-end-init : goal.loop-end-init
loop-end-init c =
    let bs = c.args.bytes.now in
    let none : drop (length bs) bs ≡ [] = drop-length bs in
    record { within = omega arith; last = rw none refl }

pub returns-then-bytes-end : goal.returns-then-bytes-end
returns-then-bytes-end c =
    let bs = c.args.bytes.now in
    let mark = c.args.mark in
    let i = c.loop-end.end - 1 in
    let e : c.loop-end.end ≡ i + 1 = omega (arith, c.loop-end-test.true) in
    let last = subst (λ (n : ℕ). pieces mark (drop n bs) ≡ drop n bs ∷ []) e c.loop-end.invariant.last in
    last_hit mark i bs (omega (arith, c.loop-end.invariant.within, c.loop-end-test.true)) (eq-eqb (get_or bs i 0) mark c.if-bytes-end.true) last
    ∙ ap (λ (l : List ℕ). pieces mark (take i bs) ++ l ∷ []) (sym (take_all (length bs - (i + 1)) (drop (i + 1) bs) (omega (arith, length-drop (i + 1) bs))))

pub loop-end-preserved : goal.loop-end-preserved
loop-end-preserved c =
    let bs = c.args.bytes.now in
    let mark = c.args.mark in
    let i = c.loop-end.end - 1 in
    let e : c.loop-end.end ≡ i + 1 = omega (arith, c.loop-end-test.true) in
    let last = subst (λ (n : ℕ). pieces mark (drop n bs) ≡ drop n bs ∷ []) e c.loop-end.invariant.last in
    let apart : get_or bs i 0 ≡ mark → ⊥ = c.if-bytes-end.false in
    let miss : eqb (get_or bs i 0) mark ≡ false = grind arith in
    record {
      within = omega (arith, c.loop-end.invariant.within);
      last = last_miss mark i bs (omega (arith, c.loop-end.invariant.within, c.loop-end-test.true)) miss last;
    }
