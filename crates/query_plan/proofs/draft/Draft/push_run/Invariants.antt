use Rattle.std.proofs.Common.{◌≡◌, ◌++◌}
use Rattle.std.specs.List.{flat_map, range_with_len}
use Rattle.query_plan.specs.KeyMessages.{pair_words}
use Rattle.query_plan.proofs.draft.Draft.push_run.Given as goal

abbrev pub invariant-loop-j : goal.invariant-loop-j
invariant-loop-j l = record {
  zero : l.self.zero.items ≡ l.initial.self.zero.items ++ flat_map (pair_words l.query l.widths.bits l.seed 0 l.run) (range_with_len 0 l.j);
  one : l.self.one.items ≡ l.initial.self.one.items ++ flat_map (pair_words l.query l.widths.bits l.seed 1 l.run) (range_with_len 0 l.j);
  two : l.self.two.items ≡ l.initial.self.two.items ++ flat_map (pair_words l.query l.widths.bits l.seed 2 l.run) (range_with_len 0 l.j);
}
