-- What a step notes is what its shelves visited, and what its messages are long.
use Rattle.std.proofs.Common.{◌≡◌, ◌∙◌, sym, ap, subst, refl, ℕ, zero, suc, ◌+◌, ◌-◌, ◌*◌, ◌<◌, ◌≤◌, List, [], ◌∷◌, ◌++◌, length, map, take, drop, get_or, append-nil, take-append-drop, arith, length-append, Result, Option, Some, None}
use Rattle.std.specs.List.{AllZip, flat_map}
use Rattle.std.specs.Result.{IsErr}
use Rattle.std.proofs.lemmas.List.{drop-append-le, drop_all, take_more, take_all}
use Rattle.std.proofs.lemmas.Grind.{flat_map-append}
use Rattle.std.proofs.lemmas.List.Elements.{All-cons, All-nil}
use Rattle.list_facts.specs.Listed.{listed}
use Rattle.list_facts.proofs.Listed.{length-listed, listed-append, listed_more, listed_same}
use Rattle.scan_chunks.specs.Pieces.{chunks_of}
use Rattle.scan_chunks.specs.Shelf.{Held}
use Rattle.scan_chunks.specs.Scan.{visits_of}
use Rattle.scan_chunks.specs.declared.visit.Visit.{Visit}
use Rattle.scan_chunks.proofs.Parts.{parts_visited}
use Rattle.table_schema.specs.declared.shapes.Aggregate.{Aggregate}
use Rattle.table_schema.specs.declared.shapes.Aggregate.TheVariants.{Count, Sum}
use Rattle.table_schema.specs.declared.widths.Widths.{Widths}
use Rattle.query_plan.specs.KeyMessages.{message_length}
use Rattle.visit_trace.specs.Seen.{AllSeen, Seen, Grew, GrewBy, GrewPrefix, message_seen, nothing, only_at, alike}
use Rattle.visit_trace.specs.Growing.{by_stopped, by_then, grew_both, grew_nothing, parts_join, prefix_begun, prefix_cut, prefix_whole, seen_then, then_at}
use Rattle.visit_trace.specs.Expected.{bits_part, chunk_visits, keys_part, opening_part, part_seen, product_lengths, product_part, products_part, run_lengths, run_part, step_lengths, trace_of, visits_over}
use Rattle.visit_trace.specs.Sizes.{column_of, count_of, opened_columns, predicate_columns, run_columns}
use Rattle.visit_trace.specs.declared.sizes.Sizes.{Sizes}
use Rattle.server_rounds.specs.declared.servers.Servers.{Servers}
use Rattle.server_rounds.specs.declared.way.Way.{Way}
use Rattle.server_rounds.specs.declared.way.Way.TheVariants.{ToServers, Around, ToClient}
use Rattle.server_rounds.specs.Groups.{from_of, to_of}
use Rattle.server_rounds.specs.Noted.{group_seen, product_of, values_last}
use Rattle.server_rounds.specs.Shelves.{AreShelves}
use Rattle.server_rounds.specs.Visits.{HaveVisits, last_visits, servers_last, shelves_last, visits_at}
use Rattle.server_rounds.proofs.Together.{whole_of}

-- a column's visits are as many as the shelf has chunks, and stand last
visits_long : (h : Held) (column : ℕ) → length (visits_of h column) ≡ chunks_of h.rows
visits_long h column = length-listed (chunks_of h.rows) (λ c. record { column = column; chunk = h.start + c })

drop_seam : (n : ℕ) (xs ys : List Visit) → n ≡ length xs → drop n (xs ++ ys) ≡ ys
drop_seam n xs ys e = drop-append-le n xs ys (omega arith) ∙ ap (λ (l : List Visit). l ++ ys) (drop_all n xs (omega arith))

last_one : (h k : Held) (column : ℕ) (old new : List Visit) → k ≡ h → new ≡ old ++ visits_at h (column ∷ []) → last_visits k new ≡ visits_of h column
last_one h k column old new same e =
    let v = visits_of h column in
    let one : new ≡ old ++ v = e ∙ ap (λ (l : List Visit). old ++ l) (append-nil v) in
    let rows : k.rows ≡ h.rows = ap (λ (x : Held). x.rows) same in
    let chunks : chunks_of k.rows ≡ chunks_of h.rows = ap chunks_of rows in
    let at : length new - chunks_of k.rows ≡ length old = omega (arith, ap length one, length-append old v, visits_long h column, chunks) in
    ap (λ (l : List Visit). drop (length new - chunks_of k.rows) l) one ∙ drop_seam (length new - chunks_of k.rows) old v at

enough_one : (h k : Held) (column : ℕ) (old new : List Visit) → k ≡ h → new ≡ old ++ visits_at h (column ∷ []) → chunks_of k.rows ≤ length new
enough_one h k column old new same e =
    let v = visits_of h column in
    let one : new ≡ old ++ v = e ∙ ap (λ (l : List Visit). old ++ l) (append-nil v) in
    let rows : k.rows ≡ h.rows = ap (λ (x : Held). x.rows) same in
    let chunks : chunks_of k.rows ≡ chunks_of h.rows = ap chunks_of rows in
    omega (arith, ap length one, length-append old v, visits_long h column, chunks)

module _ {S : Type 0} (held : S → Held) (visited : S → List Visit) where
  last_all : (column : ℕ) (old new : List S) → map held new ≡ map held old → AllZip (λ s t. visited t ≡ visited s ++ visits_at (held s) (column ∷ [])) old new
      → shelves_last held visited new ≡ flat_map (λ (h : Held). visits_of h column) (map held old)
  last_all column [] [] e z = refl
  last_all column [] (t ∷ new) e z = absurd z
  last_all column (s ∷ old) [] e z = absurd z
  last_all column (s ∷ old) (t ∷ new) e z =
      let first : held t ≡ held s = ap (λ (l : List Held). get_or l 0 (held s)) e in
      let others : map held new ≡ map held old = ap (λ (l : List Held). drop 1 l) e in
      ap (λ (l : List Visit). l ++ shelves_last held visited new) (last_one (held s) (held t) column (visited s) (visited t) first z.0)
      ∙ ap (λ (l : List Visit). visits_of (held s) column ++ l) (last_all column old new others z.1)

  pub enough_all : (column : ℕ) (old new : List S) → map held new ≡ map held old → AllZip (λ s t. visited t ≡ visited s ++ visits_at (held s) (column ∷ [])) old new
      → HaveVisits held visited new
  enough_all column [] [] e z = All-nil (λ s. chunks_of (held s).rows ≤ length (visited s))
  enough_all column [] (t ∷ new) e z = absurd z
  enough_all column (s ∷ old) [] e z = absurd z
  enough_all column (s ∷ old) (t ∷ new) e z =
      let first : held t ≡ held s = ap (λ (l : List Held). get_or l 0 (held s)) e in
      let others : map held new ≡ map held old = ap (λ (l : List Held). drop 1 l) e in
      All-cons (λ s. chunks_of (held s).rows ≤ length (visited s)) t new (enough_one (held s) (held t) column (visited s) (visited t) first z.0) (enough_all column old new others z.1)

  -- the last visits of shelves that visited a column are those of its chunks
  pub server_noted : (widths : Widths) (rows column : ℕ) (old new : List S) → AreShelves widths rows (map held old) → map held new ≡ map held old
      → AllZip (λ s t. visited t ≡ visited s ++ visits_at (held s) (column ∷ [])) old new → shelves_last held visited new ≡ visits_over rows (column ∷ [])
  server_noted widths rows column old new shelves same z =
      let whole = whole_of widths rows (map held old) in
      last_all column old new same z
      ∙ parts_visited column (map held old) whole (sym shelves.count) shelves.order
      ∙ listed_same (chunks_of rows) (λ c. record { column = column; chunk = 0 + c }) (λ c. record { column = column; chunk = c })
      (λ c h. let e : 0 + c ≡ c = omega arith in ap (λ (n : ℕ). record { column = column; chunk = n }) e)
      ∙ sym (append-nil (chunk_visits rows column))

  -- an opening visits the values where they are summed
  pub enough_summed : (a : Aggregate) (value : ℕ) (old new : List S) → map held new ≡ map held old
      → AllZip (λ s t. visited t ≡ visited s ++ visits_at (held s) (opened_columns a value)) old new → a ≡ Sum → HaveVisits held visited new
  enough_summed a value old new same z e =
      enough_all value old new same (subst (λ (b : Aggregate). AllZip (λ s t. visited t ≡ visited s ++ visits_at (held s) (opened_columns b value)) old new) e z)

-- the visits of a step, and then the lengths of its messages
step_is : (x0 x1 x2 v : List Visit) (n m : ℕ) → x0 ≡ v → x1 ≡ v → x2 ≡ v → n ≡ m
    → seen_then (record { zero = record { visits = x0; lengths = [] }; one = record { visits = x1; lengths = [] }; two = record { visits = x2; lengths = [] } }) (group_seen Around n n n)
    ≡ alike (record { visits = v; lengths = m ∷ m ∷ [] })
step_is x0 x1 x2 v n m e0 e1 e2 e =
    let all : seen_then (record { zero = record { visits = x0; lengths = [] }; one = record { visits = x1; lengths = [] }; two = record { visits = x2; lengths = [] } }) (group_seen Around n n n)
    ≡ seen_then (alike (record { visits = v; lengths = [] })) (group_seen Around m m m) = cc in
    all ∙ ap (λ (l : List Visit). alike (record { visits = l; lengths = m ∷ m ∷ [] })) (append-nil v)

pub bits_noted : {S : Type 0} (held : S → Held) (visited : S → List Visit) (z : Sizes) (column n : ℕ) (servers : Servers S)
    → shelves_last held visited servers.zero.items ≡ visits_over z.rows (column ∷ []) → shelves_last held visited servers.one.items ≡ visits_over z.rows (column ∷ [])
    → shelves_last held visited servers.two.items ≡ visits_over z.rows (column ∷ []) → n ≡ z.rows
    → seen_then (servers_last held visited servers) (group_seen Around n n n) ≡ bits_part z column
bits_noted held visited z column n servers e0 e1 e2 e = step_is _ _ _ (visits_over z.rows (column ∷ [])) n z.rows e0 e1 e2 e

open_is : (x0 x1 x2 v : List Visit) → x0 ≡ v → x1 ≡ v → x2 ≡ v
    → seen_then (record { zero = record { visits = x0; lengths = [] }; one = record { visits = x1; lengths = [] }; two = record { visits = x2; lengths = [] } }) (group_seen ToClient 1 1 1)
    ≡ alike (record { visits = v; lengths = 1 ∷ [] })
open_is x0 x1 x2 v e0 e1 e2 =
    let all : seen_then (record { zero = record { visits = x0; lengths = [] }; one = record { visits = x1; lengths = [] }; two = record { visits = x2; lengths = [] } }) (group_seen ToClient 1 1 1)
    ≡ seen_then (alike (record { visits = v; lengths = [] })) (group_seen ToClient 1 1 1) = cc in
    all ∙ ap (λ (l : List Visit). alike (record { visits = l; lengths = 1 ∷ [] })) (append-nil v)

-- the shelves of a server before and after an opening
pub record Opens {S : Type 0} (held : S → Held) (visited : S → List Visit) (widths : Widths) (rows : ℕ) (columns : List ℕ) (old new : List S) : Type 0 where
  pub shelves : AreShelves widths rows (map held old)
  pub same : map held new ≡ map held old
  pub seen : AllZip (λ s t. visited t ≡ visited s ++ visits_at (held s) columns) old new

opening_for : {S : Type 0} (held : S → Held) (visited : S → List Visit) (a : Aggregate) (z : Sizes) (old new : Servers S)
    → Opens held visited z.widths z.rows (opened_columns a z.widths.columns) old.zero.items new.zero.items
    → Opens held visited z.widths z.rows (opened_columns a z.widths.columns) old.one.items new.one.items
    → Opens held visited z.widths z.rows (opened_columns a z.widths.columns) old.two.items new.two.items
    → seen_then (values_last a (servers_last held visited new)) (group_seen ToClient 1 1 1) ≡ part_seen z (opened_columns a z.widths.columns) (1 ∷ [])
opening_for held visited Count z old new g0 g1 g2 = refl
opening_for held visited Sum z old new g0 g1 g2 =
    open_is _ _ _ (visits_over z.rows (z.widths.columns ∷ []))
    (server_noted held visited z.widths z.rows z.widths.columns old.zero.items new.zero.items g0.shelves g0.same g0.seen)
    (server_noted held visited z.widths z.rows z.widths.columns old.one.items new.one.items g1.shelves g1.same g1.seen)
    (server_noted held visited z.widths z.rows z.widths.columns old.two.items new.two.items g2.shelves g2.same g2.seen)

pub opening_noted : {S : Type 0} (held : S → Held) (visited : S → List Visit) (z : Sizes) (old new : Servers S)
    → Opens held visited z.widths z.rows (opened_columns z.shape.aggregate z.widths.columns) old.zero.items new.zero.items
    → Opens held visited z.widths z.rows (opened_columns z.shape.aggregate z.widths.columns) old.one.items new.one.items
    → Opens held visited z.widths z.rows (opened_columns z.shape.aggregate z.widths.columns) old.two.items new.two.items
    → seen_then (values_last z.shape.aggregate (servers_last held visited new)) (group_seen ToClient 1 1 1) ≡ opening_part z
opening_noted held visited z old new g0 g1 g2 = opening_for held visited z.shape.aggregate z old new g0 g1 g2

-- the lengths of three messages, one after another
pub group_is : (way : Way) (n0 n1 n2 : ℕ)
    → seen_then (seen_then (message_seen (from_of way 0) (to_of way 0) n0) (message_seen (from_of way 1) (to_of way 1) n1)) (message_seen (from_of way 2) (to_of way 2) n2)
    ≡ group_seen way n0 n1 n2
group_is ToServers n0 n1 n2 = refl
group_is Around n0 n1 n2 = refl
group_is ToClient n0 n1 n2 = refl

abbrev message : Way → ℕ → ℕ → AllSeen
message way k n = message_seen (from_of way k) (to_of way k) n

pub group_all : (way : Way) (n0 n1 n2 : ℕ) (a b c d : AllSeen) → Grew a b (message way 0 n0) → Grew b c (message way 1 n1) → Grew c d (message way 2 n2) → Grew a d (group_seen way n0 n1 n2)
group_all way n0 n1 n2 a b c d f g h =
    subst (λ (p : AllSeen). Grew a d p) (group_is way n0 n1 n2) (grew_both a c d (seen_then (message way 0 n0) (message way 1 n1)) (message way 2 n2)
    (grew_both a b c (message way 0 n0) (message way 1 n1) f g) h)

pub group_after_two : {T E : Type 0} (way : Way) (n0 n1 n2 : ℕ) (a b c d : AllSeen) (q : Result T E) → IsErr q → Grew a b (message way 0 n0) → Grew b c (message way 1 n1)
    → GrewPrefix c d (message way 2 n2) → GrewBy a d (group_seen way n0 n1 n2) q
group_after_two way n0 n1 n2 a b c d q failed f g h =
    by_stopped a d (group_seen way n0 n1 n2) q failed
    (subst (λ (p : AllSeen). GrewPrefix a d p) (group_is way n0 n1 n2) (prefix_begun a c d (seen_then (message way 0 n0) (message way 1 n1)) (message way 2 n2)
    (grew_both a b c (message way 0 n0) (message way 1 n1) f g) h))

pub group_after_one : {T E : Type 0} (way : Way) (n0 n1 n2 : ℕ) (a b c : AllSeen) (q : Result T E) → IsErr q → Grew a b (message way 0 n0)
    → GrewPrefix b c (message way 1 n1) → GrewBy a c (group_seen way n0 n1 n2) q
group_after_one way n0 n1 n2 a b c q failed f g =
    by_stopped a c (group_seen way n0 n1 n2) q failed
    (subst (λ (p : AllSeen). GrewPrefix a c p) (group_is way n0 n1 n2) (prefix_cut a c (seen_then (message way 0 n0) (message way 1 n1)) (message way 2 n2)
    (prefix_begun a b c (message way 0 n0) (message way 1 n1) f g)))

pub group_after_none : {T E : Type 0} (way : Way) (n0 n1 n2 : ℕ) (a b : AllSeen) (q : Result T E) → IsErr q → GrewPrefix a b (message way 0 n0) → GrewBy a b (group_seen way n0 n1 n2) q
group_after_none way n0 n1 n2 a b q failed f =
    by_stopped a b (group_seen way n0 n1 n2) q failed
    (subst (λ (p : AllSeen). GrewPrefix a b p) (group_is way n0 n1 n2) (prefix_cut a b (seen_then (message way 0 n0) (message way 1 n1)) (message way 2 n2)
    (prefix_cut a b (message way 0 n0) (message way 1 n1) f)))

-- messages of one length
pub group_same : (way : Way) (l0 l1 l2 n : ℕ) → l0 ≡ n → l1 ≡ n → l2 ≡ n → group_seen way l0 l1 l2 ≡ group_seen way n n n
group_same way l0 l1 l2 n e0 e1 e2 =
    ap (λ (m : ℕ). group_seen way m l1 l2) e0 ∙ ap (λ (m : ℕ). group_seen way n m l2) e1 ∙ ap (λ (m : ℕ). group_seen way n n m) e2

-- a part by another name
pub grew_along : (a b p q : AllSeen) → p ≡ q → Grew a b p → Grew a b q
grew_along a b p q e g = subst (λ (x : AllSeen). Grew a b x) e g

pub prefix_along : (a b p q : AllSeen) → p ≡ q → GrewPrefix a b p → GrewPrefix a b q
prefix_along a b p q e g = subst (λ (x : AllSeen). GrewPrefix a b x) e g

-- notes at one server after another
pub only_then : (k : ℕ) (p q : Seen) → seen_then (only_at k p) (only_at k q) ≡ only_at k (then_at p q)
only_then zero p q = refl
only_then (suc zero) p q = refl
only_then (suc (suc zero)) p q = refl
only_then (suc (suc (suc k))) p q = refl

only_nothing : (k : ℕ) → only_at k nothing ≡ alike nothing
only_nothing zero = refl
only_nothing (suc zero) = refl
only_nothing (suc (suc zero)) = refl
only_nothing (suc (suc (suc k))) = refl

abbrev at_server : ℕ → List Visit → AllSeen
at_server k xs = only_at k (record { visits = xs; lengths = [] })

pub noted_none : (k : ℕ) (t : AllSeen) → Grew t t (at_server k [])
noted_none k t = subst (λ (p : AllSeen). Grew t t p) (sym (only_nothing k)) (grew_nothing t)

module _ {S : Type 0} (held : S → Held) (visited : S → List Visit) where
  abbrev last : S → List Visit
  last s = last_visits (held s) (visited s)

  pub noted_more : (k : ℕ) (xs : List S) (i : ℕ) (d : S) (a b c : AllSeen) → i < length xs → d ≡ get_or xs i d → Grew a b (at_server k (shelves_last held visited (take i xs)))
      → Grew b c (at_server k (last_visits (held d) (visited d))) → Grew a c (at_server k (shelves_last held visited (take (i + 1) xs)))
  noted_more k xs i d a b c h e f g =
      let front = shelves_last held visited (take i xs) in
      let more : front ++ last d ≡ shelves_last held visited (take (i + 1) xs) =
      ap (λ (l : List Visit). front ++ l) (sym (append-nil (last d))) ∙ sym (flat_map-append last (take i xs) (d ∷ []))
      ∙ ap (shelves_last held visited) (ap (λ (s : S). take i xs ++ s ∷ []) e ∙ sym (take_more xs i d h)) in
      subst (λ (p : AllSeen). Grew a c p) (only_then k (record { visits = front; lengths = [] }) (record { visits = last d; lengths = [] }) ∙ ap (at_server k) more)
      (grew_both a b c (at_server k front) (at_server k (last d)) f g)

  pub noted_cut : (k : ℕ) (xs : List S) (i : ℕ) (a b : AllSeen) → Grew a b (at_server k (shelves_last held visited (take i xs)))
      → GrewPrefix a b (at_server k (shelves_last held visited xs))
  noted_cut k xs i a b f =
      let front = shelves_last held visited (take i xs) in
      let rest = shelves_last held visited (drop i xs) in
      let whole : front ++ rest ≡ shelves_last held visited xs = sym (flat_map-append last (take i xs) (drop i xs)) ∙ ap (shelves_last held visited) (take-append-drop i xs) in
      subst (λ (p : AllSeen). GrewPrefix a b p) (only_then k (record { visits = front; lengths = [] }) (record { visits = rest; lengths = [] }) ∙ ap (at_server k) whole)
      (prefix_cut a b (at_server k front) (at_server k rest) (prefix_whole a b (at_server k front) f))

  pub noted_all : (k : ℕ) (xs : List S) (i : ℕ) (a b : AllSeen) → length xs ≤ i → Grew a b (at_server k (shelves_last held visited (take i xs)))
      → Grew a b (at_server k (shelves_last held visited xs))
  noted_all k xs i a b h f = subst (λ (l : List S). Grew a b (at_server k (shelves_last held visited l))) (take_all i xs h) f

abbrev by_three : List Visit → List Visit → List Visit → AllSeen
by_three x y z = record { zero = record { visits = x; lengths = [] }; one = record { visits = y; lengths = [] }; two = record { visits = z; lengths = [] } }

three_is : (x y z : List Visit) → seen_then (seen_then (at_server 0 x) (at_server 1 y)) (at_server 2 z) ≡ by_three x y z
three_is x y z =
    ap (λ (l : List Visit). by_three l (y ++ []) z) (append-nil (x ++ []) ∙ append-nil x) ∙ ap (λ (l : List Visit). by_three x l z) (append-nil y)

pub three_after_none : {T E : Type 0} (x y z : List Visit) (a b : AllSeen) (q : Result T E) → IsErr q → GrewPrefix a b (at_server 0 x) → GrewBy a b (by_three x y z) q
three_after_none x y z a b q failed f =
    by_stopped a b (by_three x y z) q failed (subst (λ (p : AllSeen). GrewPrefix a b p) (three_is x y z)
    (prefix_cut a b (seen_then (at_server 0 x) (at_server 1 y)) (at_server 2 z) (prefix_cut a b (at_server 0 x) (at_server 1 y) f)))

pub three_after_one : {T E : Type 0} (x y z : List Visit) (a b c : AllSeen) (q : Result T E) → IsErr q → Grew a b (at_server 0 x) → GrewPrefix b c (at_server 1 y)
    → GrewBy a c (by_three x y z) q
three_after_one x y z a b c q failed f g =
    by_stopped a c (by_three x y z) q failed (subst (λ (p : AllSeen). GrewPrefix a c p) (three_is x y z)
    (prefix_cut a c (seen_then (at_server 0 x) (at_server 1 y)) (at_server 2 z) (prefix_begun a b c (at_server 0 x) (at_server 1 y) f g)))

pub three_all : {T E : Type 0} (x y z : List Visit) (a b c d : AllSeen) (r : Result T E) → Grew a b (at_server 0 x) → Grew b c (at_server 1 y) → GrewBy c d (at_server 2 z) r
    → GrewBy a d (by_three x y z) r
three_all x y z a b c d r f g h =
    subst (λ (p : AllSeen). GrewBy a d p r) (three_is x y z) (by_then a c d (seen_then (at_server 0 x) (at_server 1 y)) (at_server 2 z) r
    (grew_both a b c (at_server 0 x) (at_server 1 y) f g) h)

-- where rows are counted an opening visits nothing
pub values_none : (a : Aggregate) (last : AllSeen) (t : AllSeen) → a ≡ Count → Grew t t (values_last a last)
values_none a last t e = subst (λ (b : Aggregate). Grew t t (values_last b last)) (sym e) (grew_nothing t)

-- what is noted of no message
pub then_nothing : (z : Sizes) (xs ls : List ℕ) → seen_then (part_seen z xs ls) (alike nothing) ≡ part_seen z xs ls
then_nothing z xs ls =
    ap (λ (v : List Visit). alike (record { visits = v; lengths = ls ++ [] })) (append-nil (visits_over z.rows xs))
    ∙ ap (λ (l : List ℕ). alike (record { visits = visits_over z.rows xs; lengths = l })) (append-nil ls)

-- one more predicate: its bits, and its product
pub lengths_more : (z : Sizes) (m : ℕ) → 0 < m → product_lengths z m ++ (step_lengths z ++ step_lengths z) ≡ product_lengths z (m + 1)
lengths_more z m some =
    let more : 2 * (2 * m - 1) + 4 ≡ 2 * (2 * (m + 1) - 1) = omega arith in
    sym (listed-append (2 * (2 * m - 1)) 4 (λ i. z.rows)) ∙ ap (λ (n : ℕ). listed n (λ (i : ℕ). z.rows)) more

-- the first predicates of a run, and the others
pub lengths_first : (z : Sizes) (m n : ℕ) → m ≤ n → product_lengths z m ++ listed (2 * (2 * n - 1) - 2 * (2 * m - 1)) (λ (i : ℕ). z.rows) ≡ product_lengths z n
lengths_first z m n h =
    let more : 2 * (2 * m - 1) + (2 * (2 * n - 1) - 2 * (2 * m - 1)) ≡ 2 * (2 * n - 1) = omega arith in
    sym (listed-append (2 * (2 * m - 1)) (2 * (2 * n - 1) - 2 * (2 * m - 1)) (λ i. z.rows)) ∙ ap (λ (k : ℕ). listed k (λ (i : ℕ). z.rows)) more

-- the bits and products of the first predicates of a run
abbrev pub predicates_part : Sizes → ℕ → AllSeen
predicates_part z m = part_seen z (listed m (column_of z)) (product_lengths z m)

more_is : (z : Sizes) (m : ℕ) → 0 < m
    → seen_then (predicates_part z m) (part_seen z (column_of z m ∷ []) (step_lengths z ++ step_lengths z)) ≡ predicates_part z (m + 1)
more_is z m some =
    parts_join z (listed m (column_of z)) (column_of z m ∷ []) (product_lengths z m) (step_lengths z ++ step_lengths z)
    ∙ ap (λ (xs : List ℕ). part_seen z xs (product_lengths z m ++ (step_lengths z ++ step_lengths z))) (listed_more m (column_of z))
    ∙ ap (λ (ls : List ℕ). part_seen z (listed (m + 1) (column_of z)) ls) (lengths_more z m some)

pub predicates_more : (z : Sizes) (m : ℕ) (a b c : AllSeen) → 0 < m → Grew a b (predicates_part z m)
    → Grew b c (part_seen z (column_of z m ∷ []) (step_lengths z ++ step_lengths z)) → Grew a c (predicates_part z (m + 1))
predicates_more z m a b c some f g =
    subst (λ (p : AllSeen). Grew a c p) (more_is z m some) (grew_both a b c (predicates_part z m) (part_seen z (column_of z m ∷ []) (step_lengths z ++ step_lengths z)) f g)

pub predicates_begun : (z : Sizes) (m : ℕ) (a b c : AllSeen) → 0 < m → Grew a b (predicates_part z m)
    → GrewPrefix b c (part_seen z (column_of z m ∷ []) (step_lengths z ++ step_lengths z)) → GrewPrefix a c (predicates_part z (m + 1))
predicates_begun z m a b c some f g =
    subst (λ (p : AllSeen). GrewPrefix a c p) (more_is z m some) (prefix_begun a b c (predicates_part z m) (part_seen z (column_of z m ∷ []) (step_lengths z ++ step_lengths z)) f g)

pub predicates_first : (z : Sizes) (m n : ℕ) (a b : AllSeen) → m ≤ n → GrewPrefix a b (predicates_part z m) → GrewPrefix a b (predicates_part z n)
predicates_first z m n a b h f =
    let xs = listed (n - m) (λ (i : ℕ). column_of z (m + i)) in
    let ls = listed (2 * (2 * n - 1) - 2 * (2 * m - 1)) (λ (i : ℕ). z.rows) in
    let whole : m + (n - m) ≡ n = omega arith in
    let columns : listed m (column_of z) ++ xs ≡ listed n (column_of z) = sym (listed-append m (n - m) (column_of z)) ∙ ap (λ (k : ℕ). listed k (column_of z)) whole in
    subst (λ (p : AllSeen). GrewPrefix a b p)
    (parts_join z (listed m (column_of z)) xs (product_lengths z m) ls ∙ ap (λ (l : List ℕ). part_seen z l (product_lengths z m ++ ls)) columns
    ∙ ap (λ (l : List ℕ). part_seen z (listed n (column_of z)) l) (lengths_first z m n h))
    (prefix_cut a b (predicates_part z m) (part_seen z xs ls) f)

-- a product where there is no chain yet, and where there is one
pub none_is : {A : Type 0} (z y : Sizes) (xs ls : List ℕ) (o : Option A) → o ≡ None → seen_then (part_seen z xs ls) (product_of y o) ≡ part_seen z xs ls
none_is z y xs ls o e = ap (λ (u : Option _). seen_then (part_seen z xs ls) (product_of y u)) e ∙ then_nothing z xs ls

pub some_is : {A : Type 0} (y z : Sizes) (o : Option A) (x : A) → y ≡ z → o ≡ Some x → product_of y o ≡ product_part z
some_is y z o x same e = ap (λ (u : Option _). product_of y u) e ∙ ap product_part same

-- the bits of a predicate, and then a product
pub two_is : (z : Sizes) (column : ℕ) → seen_then (bits_part z column) (product_part z) ≡ part_seen z (column ∷ []) (step_lengths z ++ step_lengths z)
two_is z column = parts_join z (column ∷ []) [] (step_lengths z) (step_lengths z)

-- a run, and both runs behind the key messages
pub run_is : (z : Sizes) → seen_then (products_part z) (opening_part z) ≡ run_part z
run_is z = parts_join z (predicate_columns z) (opened_columns z.shape.aggregate z.widths.columns) (product_lengths z (count_of z)) (1 ∷ [])

query_is : (z : Sizes) → seen_then (seen_then (keys_part z) (run_part z)) (run_part z) ≡ trace_of z
query_is z = parts_join z (run_columns z) (run_columns z) (message_length z.shape z.widths.bits ∷ run_lengths z) (run_lengths z)

pub query_all : (z : Sizes) (a b c d : AllSeen) → Grew a b (keys_part z) → Grew b c (run_part z) → Grew c d (run_part z) → Grew a d (trace_of z)
query_all z a b c d f g h =
    subst (λ (p : AllSeen). Grew a d p) (query_is z) (grew_both a c d (seen_then (keys_part z) (run_part z)) (run_part z) (grew_both a b c (keys_part z) (run_part z) f g) h)

pub query_after_run : (z : Sizes) (a b c d : AllSeen) → Grew a b (keys_part z) → Grew b c (run_part z) → GrewPrefix c d (run_part z) → GrewPrefix a d (trace_of z)
query_after_run z a b c d f g h =
    subst (λ (p : AllSeen). GrewPrefix a d p) (query_is z) (prefix_begun a c d (seen_then (keys_part z) (run_part z)) (run_part z) (grew_both a b c (keys_part z) (run_part z) f g) h)

pub query_after_keys : (z : Sizes) (a b c : AllSeen) → Grew a b (keys_part z) → GrewPrefix b c (run_part z) → GrewPrefix a c (trace_of z)
query_after_keys z a b c f g =
    subst (λ (p : AllSeen). GrewPrefix a c p) (query_is z)
    (prefix_cut a c (seen_then (keys_part z) (run_part z)) (run_part z) (prefix_begun a b c (keys_part z) (run_part z) f g))

pub query_cut : (z : Sizes) (a b : AllSeen) → GrewPrefix a b (keys_part z) → GrewPrefix a b (trace_of z)
query_cut z a b f =
    subst (λ (p : AllSeen). GrewPrefix a b p) (query_is z)
    (prefix_cut a b (seen_then (keys_part z) (run_part z)) (run_part z) (prefix_cut a b (keys_part z) (run_part z) f))
