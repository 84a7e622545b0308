use Rattle.std.proofs.Common.{◌≡◌, ◌<◌, ℕ, true}
use Rattle.list_facts.specs.Count.{has}
use Rattle.prefix_log.proofs.journal.prefix_of.Given as goal

abbrev pub invariant-loop-place : goal.invariant-loop-place
invariant-loop-place l = (k : ℕ) → k < l.place → has k l.journal ≡ true
