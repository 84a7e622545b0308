use Rattle.std.proofs.Common.{◌≡◌, ◌+◌, ◌-◌, ◌≤◌, vec_len}
use Rattle.std.specs.Io.KnownBytes.{Consumes}
use Rattle.row_source.proofs.input.read_within.Given as goal

-- what was taken so far, within the bound, and no read failed
abbrev pub invariant-loop-buffer : goal.invariant-loop-buffer
invariant-loop-buffer g l = record {
  bound : vec_len l.bytes ≤ l.limit + 1;
  taken : Consumes (g.S.Source.sight.bytes l.fn.source) (g.S.Source.sight.bytes l.source) l.bytes.items;
  kept : g.S.Source.sight.faults l.source ≡ g.S.Source.sight.faults l.fn.source;
}

abbrev pub decreases-loop-buffer : goal.decreases-loop-buffer
decreases-loop-buffer g l = (l.limit + 1) - vec_len l.bytes
