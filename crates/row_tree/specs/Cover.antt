-- Nodes over places, and the nodes that a range of places is cut into.
use Rattle.std.specs.Prelude.{ℕ, zero, suc, ◌+◌, ◌-◌, ◌*◌, ◌/◌, ◌%◌, ◌^◌, ◌&&◌, Bool, eqb, leb, ltb, if◌then◌else◌, List, [], ◌∷◌}
use Rattle.std.specs.List.{range_with_len}
use Rattle.row_tree.specs.declared.node.Node.{Node}

-- the first place of a node, and all of them
abbrev pub first_place : Node → ℕ
first_place n = n.index * 2 ^ n.height

abbrev pub places_of : Node → List ℕ
places_of n = range_with_len (first_place n) (2 ^ n.height)

-- whether a node of height h begins at place a and ends by place b
abbrev pub can_begin : ℕ → ℕ → ℕ → Bool
can_begin a b h = eqb (a % 2 ^ h) 0 && leb (a + 2 ^ h) b

-- the greatest height up to h of such a node, or 0
abbrev pub greatest : ℕ → ℕ → ℕ → ℕ
greatest a b zero = zero
greatest a b (suc h) = if can_begin a b (suc h) then suc h else greatest a b h

-- the greatest of all: none is as high as the range is long
abbrev pub height_at : ℕ → ℕ → ℕ
height_at a b = greatest a b (b - a)

-- the node of that height
abbrev pub first_node : ℕ → ℕ → Node
first_node a b = let h = height_at a b in record { height = h; index = a / 2 ^ h }

-- the first n nodes of the places from a to b - 1: none where a is b, else the first one, and then those of the places behind it
abbrev pub cover_in : ℕ → ℕ → ℕ → List Node
cover_in zero a b = []
cover_in (suc n) a b = if ltb a b then first_node a b ∷ cover_in n (a + 2 ^ height_at a b) b else []

-- all of them, which are at most as many as the places
abbrev pub cover_of : ℕ → ℕ → List Node
cover_of a b = cover_in (b - a) a b
