use Rattle.std.proofs.Common.{◌≡◌, ◌≤◌, length, map, take}
use Rattle.std.specs.Prelude.{vec_capacity, vec_len}
use Rattle.schedule_play.specs.Appended.{unseeded}
use Rattle.schedule_play.proofs.entries.without_seeds.Given as goal

abbrev pub invariant-loop-row : goal.invariant-loop-row
invariant-loop-row l = record {
  items : l.entries.items ≡ map (unseeded l.master) (take l.row-index l.rows);
  count : vec_len l.entries ≡ l.row-index;
  room : length l.rows ≤ vec_capacity l.entries;
}
