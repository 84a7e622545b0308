use Rattle.std.proofs.Common.{◌≡◌, take}
use Rattle.list_facts.specs.Count.{times}
use Rattle.prefix_log.proofs.journal.holds.Given as goal

abbrev pub invariant-loop-there : goal.invariant-loop-there
invariant-loop-there l = times l.place (take l.there-index l.journal) ≡ 0
