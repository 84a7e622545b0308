use Rattle.std.proofs.Common.{◌≡◌, ◌∙◌, sym, ap, ℕ, ◌+◌, ◌<◌, List, ◌++◌, ◌∷◌, [], length, get_or, set, true, false, arith}
use Rattle.std.specs.Prelude.{nat_lt}
use Rattle.std.proofs.lemmas.List.{length-set, get_or-set_same, get_or-set_other}
use Rattle.prefix_log.proofs.Appended.{lt_more, lt_same, range_more}
use Rattle.prefix_log.proofs.Kept.{by_place}
use Rattle.prefix_log.proofs.log.mark.Goals as goal

pub loop-i-preserved : goal.loop-i-preserved
loop-i-preserved c =
    let i = c.loop-i.i in
    let fs = c.loop-i.filled.items in
    let inv = c.loop-i.invariant in
    let there : i < length fs = omega (arith, inv.long, c.requires.there, c.loop-i-test.true) in
    record {
      journal = c.push_reserved.ensures.items ∙ ap (λ (l : List ℕ). l ++ i ∷ []) inv.journal ∙ sym (range_more i);
      count = omega (arith, c.push_reserved.ensures.len, inv.count);
      room = c.push_reserved.ensures.capacity ∙ inv.room;
      long = length-set fs i true ∙ inv.long;
      filled = by_place i (λ (x : ℕ). get_or (set fs i true) x false ≡ nat_lt x (i + 1))
          (λ x e. ap (λ (y : ℕ). get_or (set fs i true) y false) e ∙ get_or-set_same fs i true false there ∙ sym (lt_same x i e))
          (λ x ne. get_or-set_other fs i x true false ne ∙ inv.filled x ∙ sym (lt_more x i ne));
    }
