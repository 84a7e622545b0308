use Rattle.std.proofs.Common.{◌≡◌, ◌+◌}
use Rattle.zero_share.proofs.Adding.{AreAdded}
use Rattle.zero_share.proofs.seeds.ZeroSeeds.add_parts.Given as goal

abbrev pub invariant-loop-word : goal.invariant-loop-word
invariant-loop-word l = record {
  own : l.own.seed ≡ l.self.own;
  own_next : l.own.next ≡ l.start + l.word-index;
  next : l.next.seed ≡ l.self.next;
  next_next : l.next.next ≡ l.start + l.word-index;
  words : AreAdded l.self.own l.self.next l.start l.word-index l.fn.to l.to;
}
