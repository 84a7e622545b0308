-- What servers visit and see of a query by buckets.
use Rattle.std.proofs.Common.{◌≡◌, ◌∙◌, sym, ap, subst, ℕ, List, [], ◌∷◌, ◌++◌, append-nil, Result, Ok}
use Rattle.std.specs.List.{AllZip}
use Rattle.ring128.specs.declared.memory.Memory.{Memory}
use Rattle.scan_chunks.specs.Shelf.{Held}
use Rattle.scan_chunks.specs.Scan.{VisitsPart}
use Rattle.scan_chunks.specs.declared.visit.Visit.{Visit}
use Rattle.table_schema.specs.declared.shapes.Aggregate.{Aggregate}
use Rattle.table_schema.specs.declared.shapes.Aggregate.TheVariants.{Count}
use Rattle.onehot_column.specs.Code.{width_of}
use Rattle.query_plan.specs.KeyMessages.{message_length}
use Rattle.visit_trace.specs.Seen.{AllSeen, Grew, GrewPrefix, alike}
use Rattle.visit_trace.specs.Growing.{grew_both, grew_nothing, parts_join, prefix_begun, prefix_cut, seen_then}
use Rattle.visit_trace.specs.Expected.{keys_part, product_lengths, products_part, visits_over}
use Rattle.visit_trace.specs.Sizes.{count_of, opened_columns, predicate_columns}
use Rattle.visit_trace.specs.declared.sizes.Sizes.{Sizes}
use Rattle.server_rounds.specs.declared.servers.Servers.{Servers}
use Rattle.server_rounds.specs.declared.way.Way.TheVariants.{ToClient}
use Rattle.server_rounds.specs.Noted.{group_seen}
use Rattle.server_rounds.specs.Visits.{AllVisited, shelves_last, visits_at}
use Rattle.server_rounds.proofs.Visiting.{visited_begun}
use Rattle.bucket_groups.specs.Seen.{buckets_part, group_columns, group_lengths, group_part, group_trace, value_lengths, values_part}

-- all visits of a call are also the first of them
pub made_begun : {S : Type 0} (held : S → Held) (visited : S → List Visit) (columns : List ℕ) (old new : List S)
    → AllZip (λ s t. visited t ≡ visited s ++ visits_at (held s) columns) old new → AllZip (λ s t. VisitsPart (visited s) (visited t) (visits_at (held s) columns)) old new
made_begun held visited columns old new z = visited_begun {T = ℕ} held visited columns old new (Ok 0) z

-- visits at the three servers, and no lengths
abbrev visits_seen : List Visit → List Visit → List Visit → AllSeen
visits_seen x y z = record { zero = record { visits = x; lengths = [] }; one = record { visits = y; lengths = [] }; two = record { visits = z; lengths = [] } }

-- where rows are counted, no values are visited and nothing is seen
pub count_visits : {S T : Type 0} (held : S → Held) (visited : S → List Visit) (a : Aggregate) (value : ℕ) (old : Servers S) (r : Result T Memory) → a ≡ Count
    → AllVisited held visited [] old old r → AllVisited held visited (opened_columns a value) old old r
count_visits held visited a value old r e z = subst (λ (b : Aggregate). AllVisited held visited (opened_columns b value) old old r) (sym e) z

pub count_seen : (a : Aggregate) (z : Sizes) (t : AllSeen) → a ≡ Count → Grew t t (values_part a z)
count_seen a z t e = subst (λ (b : Aggregate). Grew t t (values_part b z)) (sym e) (grew_nothing t)

-- visits, and then the lengths of messages to the client
client_is : (x0 x1 x2 v : List Visit) (n m : ℕ) → x0 ≡ v → x1 ≡ v → x2 ≡ v → n ≡ m
    → seen_then (visits_seen x0 x1 x2) (group_seen ToClient n n n) ≡ alike (record { visits = v; lengths = m ∷ [] })
client_is x0 x1 x2 v n m e0 e1 e2 e =
    let all : seen_then (visits_seen x0 x1 x2) (group_seen ToClient n n n) ≡ seen_then (visits_seen v v v) (group_seen ToClient m m m) = cc in
    all ∙ ap (λ (l : List Visit). alike (record { visits = l; lengths = m ∷ [] })) (append-nil v)

-- the column of the buckets was visited, and its openings sent to the client
pub buckets_noted : {S : Type 0} (held : S → Held) (visited : S → List Visit) (z : Sizes) (column n : ℕ) (zero one two : List S)
    → shelves_last held visited zero ≡ visits_over z.rows (column ∷ []) → shelves_last held visited one ≡ visits_over z.rows (column ∷ [])
    → shelves_last held visited two ≡ visits_over z.rows (column ∷ []) → n ≡ width_of z.widths column
    → seen_then (visits_seen (shelves_last held visited zero) (shelves_last held visited one) (shelves_last held visited two)) (group_seen ToClient n n n) ≡ buckets_part z column
buckets_noted held visited z column n zero one two e0 e1 e2 e = client_is _ _ _ (visits_over z.rows (column ∷ [])) n (width_of z.widths column) e0 e1 e2 e

-- a run, and both runs behind the key messages
run_is : (z : Sizes) (column : ℕ) → seen_then (seen_then (products_part z) (values_part z.shape.aggregate z)) (buckets_part z column) ≡ group_part z column
run_is z column =
    let values = opened_columns z.shape.aggregate z.widths.columns in
    let lengths = product_lengths z (count_of z) in
    let more = value_lengths z.shape.aggregate z in
    ap (λ (p : AllSeen). seen_then p (buckets_part z column)) (parts_join z (predicate_columns z) values lengths more)
    ∙ parts_join z (predicate_columns z ++ values) (column ∷ []) (lengths ++ more) (width_of z.widths column ∷ [])

pub run_all : (z : Sizes) (column : ℕ) (a b c d : AllSeen) → Grew a b (products_part z) → Grew b c (values_part z.shape.aggregate z) → Grew c d (buckets_part z column)
    → Grew a d (group_part z column)
run_all z column a b c d f g h =
    subst (λ (p : AllSeen). Grew a d p) (run_is z column)
    (grew_both a c d (seen_then (products_part z) (values_part z.shape.aggregate z)) (buckets_part z column) (grew_both a b c (products_part z) (values_part z.shape.aggregate z) f g) h)

pub run_after_values : (z : Sizes) (column : ℕ) (a b c d : AllSeen) → Grew a b (products_part z) → Grew b c (values_part z.shape.aggregate z) → GrewPrefix c d (buckets_part z column)
    → GrewPrefix a d (group_part z column)
run_after_values z column a b c d f g h =
    subst (λ (p : AllSeen). GrewPrefix a d p) (run_is z column)
    (prefix_begun a c d (seen_then (products_part z) (values_part z.shape.aggregate z)) (buckets_part z column) (grew_both a b c (products_part z) (values_part z.shape.aggregate z) f g) h)

pub run_after_products : (z : Sizes) (column : ℕ) (a b c : AllSeen) → Grew a b (products_part z) → GrewPrefix b c (values_part z.shape.aggregate z) → GrewPrefix a c (group_part z column)
run_after_products z column a b c f g =
    subst (λ (p : AllSeen). GrewPrefix a c p) (run_is z column)
    (prefix_cut a c (seen_then (products_part z) (values_part z.shape.aggregate z)) (buckets_part z column) (prefix_begun a b c (products_part z) (values_part z.shape.aggregate z) f g))

pub run_cut : (z : Sizes) (column : ℕ) (a b : AllSeen) → GrewPrefix a b (products_part z) → GrewPrefix a b (group_part z column)
run_cut z column a b f =
    subst (λ (p : AllSeen). GrewPrefix a b p) (run_is z column)
    (prefix_cut a b (seen_then (products_part z) (values_part z.shape.aggregate z)) (buckets_part z column) (prefix_cut a b (products_part z) (values_part z.shape.aggregate z) f))

query_is : (z : Sizes) (column : ℕ) → seen_then (seen_then (keys_part z) (group_part z column)) (group_part z column) ≡ group_trace z column
query_is z column =
    let lengths = group_lengths z column in
    parts_join z (group_columns z column) (group_columns z column) (message_length z.shape z.widths.bits ∷ lengths) lengths

pub query_all : (z : Sizes) (column : ℕ) (a b c d : AllSeen) → Grew a b (keys_part z) → Grew b c (group_part z column) → Grew c d (group_part z column)
    → Grew a d (group_trace z column)
query_all z column a b c d f g h =
    subst (λ (p : AllSeen). Grew a d p) (query_is z column)
    (grew_both a c d (seen_then (keys_part z) (group_part z column)) (group_part z column) (grew_both a b c (keys_part z) (group_part z column) f g) h)

pub query_after_run : (z : Sizes) (column : ℕ) (a b c d : AllSeen) → Grew a b (keys_part z) → Grew b c (group_part z column) → GrewPrefix c d (group_part z column)
    → GrewPrefix a d (group_trace z column)
query_after_run z column a b c d f g h =
    subst (λ (p : AllSeen). GrewPrefix a d p) (query_is z column)
    (prefix_begun a c d (seen_then (keys_part z) (group_part z column)) (group_part z column) (grew_both a b c (keys_part z) (group_part z column) f g) h)

pub query_after_keys : (z : Sizes) (column : ℕ) (a b c : AllSeen) → Grew a b (keys_part z) → GrewPrefix b c (group_part z column) → GrewPrefix a c (group_trace z column)
query_after_keys z column a b c f g =
    subst (λ (p : AllSeen). GrewPrefix a c p) (query_is z column)
    (prefix_cut a c (seen_then (keys_part z) (group_part z column)) (group_part z column) (prefix_begun a b c (keys_part z) (group_part z column) f g))

pub query_cut : (z : Sizes) (column : ℕ) (a b : AllSeen) → GrewPrefix a b (keys_part z) → GrewPrefix a b (group_trace z column)
query_cut z column a b f =
    subst (λ (p : AllSeen). GrewPrefix a b p) (query_is z column)
    (prefix_cut a b (seen_then (keys_part z) (group_part z column)) (group_part z column) (prefix_cut a b (keys_part z) (group_part z column) f))
