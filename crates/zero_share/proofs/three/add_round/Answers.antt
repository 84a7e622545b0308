use Rattle.std.proofs.Common.{◌≡◌, ◌+◌, ◌∙◌, get_or, ap, arith}
use Rattle.prg_chacha.specs.Prg.{PadsAt}
use Rattle.ring128.specs.Ring.{plus}
use Rattle.zero_share.specs.Zero.{part_of}
use Rattle.zero_share.proofs.Adding.{added_all, added_more, part_is}
use Rattle.zero_share.proofs.three.add_round.Goals as goal

pub loop-i-preserved : goal.loop-i-preserved
loop-i-preserved c =
    let l = c.loop-i.invariant in
    let p = c.next-p.ensures.value in
    let q = c.next-q.ensures.value in
    let r = c.next-r.ensures.value in
    let one : c.sub.result ≡ part_of c.args.zero.now c.args.one.now (c.args.start + c.loop-i.i) = part_is _ _ _ _ _ _ _ _ _ _ c.sub.ensures p q l.zero l.one l.zero_next l.one_next in
    let two : c.sub-in-loop-i.result ≡ part_of c.args.one.now c.args.two.now (c.args.start + c.loop-i.i) = part_is _ _ _ _ _ _ _ _ _ _ c.sub-in-loop-i.ensures q r l.one l.two l.one_next l.two_next in
    let three : c.sub-in-loop-i-2.result ≡ part_of c.args.two.now c.args.zero.now (c.args.start + c.loop-i.i) = part_is _ _ _ _ _ _ _ _ _ _ c.sub-in-loop-i-2.ensures r p l.two l.zero l.two_next l.zero_next in
    record {
      zero = ap (λ (s : PadsAt). s.seed) c.next-p.ensures.after ∙ l.zero;
      zero_next = omega (arith, ap (λ (s : PadsAt). s.next) c.next-p.ensures.after, l.zero_next);
      one = ap (λ (s : PadsAt). s.seed) c.next-q.ensures.after ∙ l.one;
      one_next = omega (arith, ap (λ (s : PadsAt). s.next) c.next-q.ensures.after, l.one_next);
      two = ap (λ (s : PadsAt). s.seed) c.next-r.ensures.after ∙ l.two;
      two_next = omega (arith, ap (λ (s : PadsAt). s.next) c.next-r.ensures.after, l.two_next);
      at_zero = added_more _ _ _ _ _ _ _ (omega arith) l.at_zero (c.add.ensures ∙ ap (plus (get_or c.loop-i.at_zero c.loop-i.i 0)) one);
      at_one = added_more _ _ _ _ _ _ _ (omega (arith, c.requires.one)) l.at_one (c.add-in-loop-i.ensures ∙ ap (plus (get_or c.loop-i.at_one c.loop-i.i 0)) two);
      at_two = added_more _ _ _ _ _ _ _ (omega (arith, c.requires.two)) l.at_two (c.add-in-loop-i-2.ensures ∙ ap (plus (get_or c.loop-i.at_two c.loop-i.i 0)) three);
    }

pub returns-clause-zero : goal.returns-clause-zero
returns-clause-zero c = added_all _ _ _ _ _ _ (omega arith) c.loop-i.invariant.at_zero

pub returns-clause-one : goal.returns-clause-one
returns-clause-one c = added_all _ _ _ _ _ _ (omega (arith, c.requires.one)) c.loop-i.invariant.at_one

pub returns-clause-two : goal.returns-clause-two
returns-clause-two c = added_all _ _ _ _ _ _ (omega (arith, c.requires.two)) c.loop-i.invariant.at_two
