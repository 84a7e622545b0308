use Rattle.std.proofs.Common.{◌≡◌, ◌<◌, ◌^◌, drop}
use Rattle.ring128.specs.Ring.{plus, total_of}
use Rattle.server_rounds.proofs.part.total.Given as goal

abbrev pub invariant-loop-word : goal.invariant-loop-word
invariant-loop-word l = (plus l.sum (total_of (drop l.word-index l.words)) ≡ total_of l.words) × (l.sum < 2 ^ 128)
