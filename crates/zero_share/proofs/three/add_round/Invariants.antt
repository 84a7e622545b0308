use Rattle.std.proofs.Common.{◌≡◌, ◌+◌}
use Rattle.zero_share.proofs.Adding.{AreAdded}
use Rattle.zero_share.proofs.three.add_round.Given as goal

abbrev pub invariant-loop-i : goal.invariant-loop-i
invariant-loop-i l = record {
  zero : l.of_zero.seed ≡ l.zero;
  zero_next : l.of_zero.next ≡ l.start + l.i;
  one : l.of_one.seed ≡ l.one;
  one_next : l.of_one.next ≡ l.start + l.i;
  two : l.of_two.seed ≡ l.two;
  two_next : l.of_two.next ≡ l.start + l.i;
  at_zero : AreAdded l.zero l.one l.start l.i l.fn.at_zero l.at_zero;
  at_one : AreAdded l.one l.two l.start l.i l.fn.at_one l.at_one;
  at_two : AreAdded l.two l.zero l.start l.i l.fn.at_two l.at_two;
}
