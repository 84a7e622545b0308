-- What the messages rest on, by the servers' sums.
use Rattle.std.specs.Prelude.{ℕ, ◌≡◌}
use Rattle.query_plan.specs.KeyMessages.{Asked}
use Rattle.server_rounds.specs.Groups.{by_server}
use Rattle.server_rounds.specs.Plans.{read_for, words_for}
use Rattle.row_tree.specs.Column.{Tree}
use Rattle.row_tree.specs.Rounds.{Sides}
use Rattle.row_tree.specs.Sums.{range_sum}
use Rattle.row_tree.specs.declared.opening.Sums.{Sums}

abbrev pub sides_of : Asked → Sums → Sums → Sums → Sides
sides_of asked zero one two = record {
  keys = words_for asked;
  read = read_for asked;
  first = by_server zero.first.items one.first.items two.first.items;
  second = by_server zero.second.items one.second.items two.second.items;
}

-- these are the sums of a tree's two shares over the range
pub record AreSums (tree : Tree) (low high : ℕ) (sums : Sums) : Type 0 where
  pub first : sums.first.items ≡ range_sum tree.width tree.first low high
  pub second : sums.second.items ≡ range_sum tree.width tree.second low high
