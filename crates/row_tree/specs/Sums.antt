-- Sums of rows, whose cells stand one row after another.
use Rattle.std.specs.Prelude.{ℕ, ◌+◌, ◌*◌, List, map, get_or}
use Rattle.std.specs.List.{flat_map}
use Rattle.list_facts.specs.Listed.{listed}
use Rattle.ring128.specs.Ring.{total_of}
use Rattle.row_tree.specs.declared.node.Node.{Node}
use Rattle.row_tree.specs.Cover.{cover_of, places_of}

-- cell b of the sum of the rows at these places, where a row has `width` cells, and the whole sum
abbrev pub sum_at : ℕ → List ℕ → List ℕ → ℕ → ℕ
sum_at width cells places b = total_of (map (λ i. get_or cells (i * width + b) 0) places)

abbrev pub sum_rows : ℕ → List ℕ → List ℕ → List ℕ
sum_rows width cells places = listed width (sum_at width cells places)

-- the list of a node: the sum of the rows at its places
abbrev pub list_of : ℕ → List ℕ → Node → List ℕ
list_of width cells node = sum_rows width cells (places_of node)

-- the sum of the lists of the nodes of a range
abbrev pub range_sum : ℕ → List ℕ → ℕ → ℕ → List ℕ
range_sum width cells low high = sum_rows width cells (flat_map places_of (cover_of low high))
