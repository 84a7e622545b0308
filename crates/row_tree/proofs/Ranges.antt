-- The sums of the rows of several nodes.
use Rattle.std.proofs.Common.{◌≡◌, ℕ, zero, suc, ◌+◌, ◌*◌, ◌-◌, ◌^◌, ◌<◌, ◌≤◌, ltb, true, false, List, [], ◌∷◌, ◌++◌, length, get_or, map, replicate, subst, take, refl, sym, ap, ⊎_elim, ◌∙◌, arith, append-nil, append_assoc, All, Result, Ok, Err}
use Rattle.std.specs.Result.{IsErr}
use Rattle.ring128.specs.declared.memory.Memory.{Memory}
use Rattle.std.specs.List.{flat_map}
use Rattle.std.proofs.lemmas.List.{get_or-replicate, length-replicate, take_all, take_more}
use Rattle.std.proofs.lemmas.Bool.{cases_Bool, ltb-true}
use Rattle.list_facts.specs.Listed.{listed}
use Rattle.list_facts.proofs.Listed.{listed_is, listed_same}
use Rattle.ring128.specs.Ring.{plus, sums, total_of}
use Rattle.ring128.proofs.Laws.{sums-listed, total_of-append}
use Rattle.row_tree.specs.declared.node.Node.{Node}
use Rattle.row_tree.specs.Cover.{cover_of, cover_in, first_node, first_place, height_at, places_of}
use Rattle.row_tree.specs.Sums.{list_of, sum_at, sum_rows}
use Rattle.row_tree.specs.Column.{Tree}
use Rattle.row_tree.specs.Tree.{IsThere, IsVisited}
use Rattle.row_tree.proofs.Covers.{begins_there, ends_within}

maps_both : (f : ℕ → ℕ) (xs ys : List ℕ) → map f (xs ++ ys) ≡ map f xs ++ map f ys
maps_both f [] ys = refl
maps_both f (x ∷ xs) ys = ap (λ (l : List ℕ). f x ∷ l) (maps_both f xs ys)

-- the sums of rows at some places and at others
pub sum_both : (w : ℕ) (cells ps qs : List ℕ) → sums (sum_rows w cells ps) (sum_rows w cells qs) ≡ sum_rows w cells (ps ++ qs)
sum_both w cells ps qs =
    sums-listed w (sum_at w cells ps) (sum_at w cells qs)
    ∙ listed_same w (λ b. plus (sum_at w cells ps b) (sum_at w cells qs b)) (sum_at w cells (ps ++ qs))
    (λ b h. let f : ℕ → ℕ = λ i. get_or cells (i * w + b) 0 in
    sym (ap total_of (maps_both f ps qs) ∙ total_of-append (map f ps) (map f qs)))

places_both : (ns ms : List Node) → flat_map places_of (ns ++ ms) ≡ flat_map places_of ns ++ flat_map places_of ms
places_both [] ms = refl
places_both (n ∷ ns) ms = ap (λ (l : List ℕ). places_of n ++ l) (places_both ns ms) ∙ sym (append_assoc (places_of n) (flat_map places_of ns) (flat_map places_of ms))

-- one node more
pub sum_more : (w : ℕ) (cells : List ℕ) (nodes : List Node) (k : ℕ) (d : Node) (so_far lent : List ℕ) → k < length nodes
    → so_far ≡ sum_rows w cells (flat_map places_of (take k nodes)) → lent ≡ list_of w cells (get_or nodes k d)
    → sums so_far lent ≡ sum_rows w cells (flat_map places_of (take (k + 1) nodes))
sum_more w cells nodes k d so_far lent h e f =
    let node = get_or nodes k d in
    ap (λ (l : List ℕ). sums l lent) e
    ∙ (ap (λ (l : List ℕ). sums (sum_rows w cells (flat_map places_of (take k nodes))) l) f
    ∙ (sum_both w cells (flat_map places_of (take k nodes)) (places_of node)
    ∙ ap (sum_rows w cells)
    (ap (λ (l : List ℕ). flat_map places_of (take k nodes) ++ l) (sym (append-nil (places_of node)))
    ∙ (sym (places_both (take k nodes) (node ∷ [])) ∙ ap (flat_map places_of) (sym (take_more nodes k d h))))))

first_there : (a b rows : ℕ) → a < b → b ≤ rows → IsThere rows (first_node a b)
first_there a b rows some h =
    let size = 2 ^ height_at a b in
    let node = first_node a b in
    let split : (node.index + 1) * size ≡ node.index * size + size = omega arith in
    omega (arith, split, begins_there a b some, ends_within a b some, h)

all_cons : (rows : ℕ) (node : Node) (nodes : List Node) → IsThere rows node → All (IsThere rows) nodes → All (IsThere rows) (node ∷ nodes)
all_cons rows node nodes f g = λ k. each k
  where
    each : (k : ℕ) (d : Node) → k < suc (length nodes) → IsThere rows (get_or (node ∷ nodes) k d)
    each zero d h = f
    each (suc k) d h = g k d (omega arith)

-- the nodes of a cover are there
pub cover_there : (n a b rows : ℕ) → b ≤ rows → All (IsThere rows) (cover_in n a b)
cover_there zero a b rows h = λ k d i. absurd (omega arith)
cover_there (suc n) a b rows h = ⊎_elim
    (λ (e : ltb a b ≡ true).
    rw e (all_cons rows (first_node a b) (cover_in n (a + 2 ^ height_at a b) b) (first_there a b rows (ltb-true a b e) h) (cover_there n (a + 2 ^ height_at a b) b rows h)))
    (λ (e : ltb a b ≡ false). rw e (λ k d i. absurd (omega arith)))
    (cases_Bool (ltb a b))

-- one visit more
pub visit_more : (old now new : Tree) (nodes : List Node) (k : ℕ) (d : Node) → k < length nodes
    → now ≡ record old { visits = old.visits ++ take k nodes } → new ≡ record now { visits = now.visits ++ get_or nodes k d ∷ [] }
    → new ≡ record old { visits = old.visits ++ take (k + 1) nodes }
visit_more old now new nodes k d h e f =
    let node = get_or nodes k d in
    f ∙ (ap (λ (t : Tree). record t { visits = t.visits ++ node ∷ [] }) e
    ∙ ap (λ (l : List Node). record old { visits = l })
    (append_assoc old.visits (take k nodes) (node ∷ []) ∙ ap (λ (l : List Node). old.visits ++ l) (sym (take_more nodes k d h))))

-- out of memory after the first of the visits
pub visited_stopped : {T : Type 0} (nodes : List Node) (old new : Tree) (r : Result T Memory) → IsErr r → (n : ℕ) × (new ≡ record old { visits = old.visits ++ take n nodes })
    → IsVisited nodes old new r
visited_stopped nodes old new (Ok x) e p = absurd cc
visited_stopped nodes old new (Err m) e p = p

pub visited_none : {T : Type 0} (nodes : List Node) (old : Tree) (r : Result T Memory) → IsErr r → IsVisited nodes old old r
visited_none nodes old r e = visited_stopped nodes old old r e (0, ap (λ (l : List Node). record old { visits = l }) (sym (append-nil old.visits)))

pub visited_begun : {T : Type 0} (nodes : List Node) (old new : Tree) (r : Result T Memory) → IsVisited nodes old new r → (n : ℕ) × (new ≡ record old { visits = old.visits ++ take n nodes })
visited_begun nodes old new (Ok x) v = (length nodes, v ∙ ap (λ (l : List Node). record old { visits = old.visits ++ l }) (sym (take_all (length nodes) nodes (omega arith))))
visited_begun nodes old new (Err m) v = v

-- whatever came of it, what was visited by then stays
pub visited_fails : {T U : Type 0} (nodes : List Node) (old new : Tree) (r : Result T Memory) (q : Result U Memory) → IsErr q → IsVisited nodes old new r → IsVisited nodes old new q
visited_fails nodes old new r q e v = visited_stopped nodes old new q e (visited_begun nodes old new r v)

-- all nodes were visited, and then memory was lacking
pub visited_done : {T : Type 0} (nodes : List Node) (old new : Tree) (r : Result T Memory) → IsErr r → new ≡ record old { visits = old.visits ++ nodes } → IsVisited nodes old new r
visited_done nodes old new r e v =
    visited_stopped nodes old new r e (length nodes, v ∙ ap (λ (l : List Node). record old { visits = old.visits ++ l }) (sym (take_all (length nodes) nodes (omega arith))))

-- no row is summed up yet
pub zero_sum : (w : ℕ) (cells items : List ℕ) → items ≡ replicate w 0 → items ≡ sum_rows w cells []
zero_sum w cells items e =
    listed_is w (sum_at w cells []) 0 items (ap length e ∙ length-replicate w 0) (λ b k. ap (λ (l : List ℕ). get_or l b 0) e ∙ get_or-replicate w b 0 0 k)

-- the nodes of a range are there
pub range_there : (low high rows : ℕ) (nodes : List Node) → nodes ≡ cover_of low high → high ≤ rows → All (IsThere rows) nodes
range_there low high rows nodes e h = subst (All (IsThere rows)) (sym e) (cover_there (high - low) low high rows h)
