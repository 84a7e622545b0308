use Rattle.std.proofs.Common.{◌≡◌, ◌+◌, ◌∙◌, get_or, ap, arith}
use Rattle.prg_chacha.specs.Prg.{PadsAt}
use Rattle.ring128.specs.Ring.{plus}
use Rattle.zero_share.specs.Zero.{part_of}
use Rattle.zero_share.proofs.Adding.{added_all, added_more, part_is}
use Rattle.zero_share.proofs.seeds.ZeroSeeds.add_parts.Goals as goal

pub loop-word-preserved : goal.loop-word-preserved
loop-word-preserved c =
    let l = c.loop-word.invariant in
    let part : c.sub.result ≡ part_of c.args.self.now.own c.args.self.now.next (c.args.start + c.loop-word.word-index) =
    part_is _ _ _ _ _ _ _ _ _ _ c.sub.ensures c.next-mine.ensures.value c.next-theirs.ensures.value l.own l.next l.own_next l.next_next in
    record {
      own = ap (λ (s : PadsAt). s.seed) c.next-mine.ensures.after ∙ l.own;
      own_next = omega (arith, ap (λ (s : PadsAt). s.next) c.next-mine.ensures.after, l.own_next);
      next = ap (λ (s : PadsAt). s.seed) c.next-theirs.ensures.after ∙ l.next;
      next_next = omega (arith, ap (λ (s : PadsAt). s.next) c.next-theirs.ensures.after, l.next_next);
      words = added_more _ _ _ _ _ _ _ (omega arith) l.words (c.add.ensures ∙ ap (plus (get_or c.loop-word.to c.loop-word.word-index 0)) part);
    }

pub returns : goal.returns
returns c = added_all _ _ _ _ _ _ (omega arith) c.loop-word.invariant.words
