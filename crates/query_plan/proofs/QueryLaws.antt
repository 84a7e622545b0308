-- Laws of reading a query, piece by piece.
use Rattle.std.proofs.Common.{◌≡◌, refl, sym, ap, ℕ, zero, suc, ◌+◌, ◌-◌, ◌/◌, ◌^◌, ◌<◌, ◌≤◌, map, get_or, true, false, List, [], ◌∷◌, length, drop, take, Some, None, Ok, Err, slice_get, arith}
use Rattle.std.proofs.lemmas.Bool.{le-leb, lt-leb}
use Rattle.std.proofs.lemmas.Bool.Decides.{nat_tests}
use Rattle.std.proofs.lemmas.Nat.{le-div}
use Rattle.std.proofs.Math.Nat.{div-mul-le_self}
use Rattle.table_schema.specs.Column.{bucket_of, bucket_at}
use Rattle.std.specs.Str.{bytes_eq}
use Rattle.text_reading.specs.Cut.{cut_at, pieces, pieces_left}
use Rattle.table_schema.specs.declared.schema.Column.{Column}
use Rattle.list_facts.proofs.Items.{drop_item}
use Rattle.text_reading.proofs.CutLaws.{pieces_cut}
use Rattle.table_schema.specs.declared.shapes.Aggregate.{Aggregate}
use Rattle.query_plan.specs.declared.query.Predicate.{Predicate}
use Rattle.query_plan.specs.declared.query.Query.{Query}
use Rattle.query_plan.specs.declared.query.QueryWhy.{QueryWhy}
use Rattle.query_plan.specs.declared.query.QueryFault.TheVariants as fault
use Rattle.query_plan.specs.Reading.{aggregate_of, column_from, empty, predicate_of, predicates_from, query_of, with_predicate}

pub column_hit : (columns : List Column) (i : ℕ) (k : Column) (name : List ℕ) → slice_get columns i ≡ Some k → bytes_eq k.name name ≡ true
    → column_from i name (drop i columns) ≡ Some i
column_hit columns i k name at e = rw (drop_item columns i k at, e) refl

pub column_miss : (columns : List Column) (i : ℕ) (k : Column) (name : List ℕ) → slice_get columns i ≡ Some k → bytes_eq k.name name ≡ false
    → column_from (i + 1) name (drop (i + 1) columns) ≡ column_from i name (drop i columns)
column_miss columns i k name at e = sym (rw (drop_item columns i k at, e) refl)

-- ---- the first piece

pub no_aggregate : (columns : List Column) (text : List ℕ) → aggregate_of (cut_at 32 text).0 ≡ None → query_of columns text ≡ Err fault.Aggregate
unfolding query_of
no_aggregate columns text e = rw (pieces_cut 32 text, e) refl

pub too_few : (columns : List Column) (text : List ℕ) (a : Aggregate) → aggregate_of (cut_at 32 text).0 ≡ Some a → length (pieces_left 32 (cut_at 32 text).1) < 1
    → query_of columns text ≡ Err (fault.Count (length (pieces_left 32 (cut_at 32 text).1)))
unfolding query_of
too_few columns text a e h = rw (pieces_cut 32 text, e, lt-leb 1 (length (pieces_left 32 (cut_at 32 text).1)) h) refl

pub too_many : (columns : List Column) (text : List ℕ) (a : Aggregate) → aggregate_of (cut_at 32 text).0 ≡ Some a → 4 < length (pieces_left 32 (cut_at 32 text).1)
    → query_of columns text ≡ Err (fault.Count (length (pieces_left 32 (cut_at 32 text).1)))
unfolding query_of
too_many columns text a e h =
    let low : 1 ≤ length (pieces_left 32 (cut_at 32 text).1) = omega arith in
    rw (pieces_cut 32 text, e, le-leb 1 (length (pieces_left 32 (cut_at 32 text).1)) low, lt-leb (length (pieces_left 32 (cut_at 32 text).1)) 4 h) refl

pub begins : (columns : List Column) (text : List ℕ) (a : Aggregate) → aggregate_of (cut_at 32 text).0 ≡ Some a
    → 1 ≤ length (pieces_left 32 (cut_at 32 text).1) → length (pieces_left 32 (cut_at 32 text).1) ≤ 4
    → predicates_from columns (empty a) (pieces_left 32 (cut_at 32 text).1) ≡ query_of columns text
unfolding query_of
begins columns text a e low high =
    sym (rw (pieces_cut 32 text, e, le-leb 1 (length (pieces_left 32 (cut_at 32 text).1)) low, le-leb (length (pieces_left 32 (cut_at 32 text).1)) 4 high) refl)

-- ---- one predicate

pub good_predicate : (columns : List Column) (q : Query) (bytes : List ℕ) (p : Predicate) → predicate_of columns (take q.count q.predicates) (cut_at 32 bytes).0 ≡ Ok p
    → predicates_from columns (with_predicate q p) (pieces_left 32 (cut_at 32 bytes).1) ≡ predicates_from columns q (pieces 32 bytes)
unfolding predicates_from
good_predicate columns q bytes p e = sym (rw (pieces_cut 32 bytes, e) refl)

pub bad_predicate : (columns : List Column) (q : Query) (bytes : List ℕ) (why : QueryWhy) → predicate_of columns (take q.count q.predicates) (cut_at 32 bytes).0 ≡ Err why
    → predicates_from columns q (pieces 32 bytes) ≡ Err (fault.Predicate q.count why)
unfolding predicates_from
bad_predicate columns q bytes why e = rw (pieces_cut 32 bytes, e) refl

pub no_more : (columns : List Column) (q : Query) → predicates_from columns q [] ≡ Ok q
unfolding predicates_from
no_more columns q = refl

pub fewer_left : (bytes : List ℕ) → length (pieces 32 bytes) ≡ suc (length (pieces_left 32 (cut_at 32 bytes).1))
fewer_left bytes = ap length (pieces_cut 32 bytes)

-- ---- a query that was read is legal

-- a bucket fits its column's bits
bucket_fits : (k : Column) (raw b : ℕ) → bucket_of k raw ≡ Some b → b < 2 ^ k.bits
bucket_fits k raw b e = grind (arith, nat_tests)

pub bucket_below : (columns : List Column) (c raw b : ℕ) → bucket_at columns c raw ≡ Some b → b < 2 ^ get_or (map (λ (k : Column). k.bits) columns) c 0
bucket_below [] c raw b e = absurd cc
bucket_below (k ∷ ks) zero raw b e = bucket_fits k raw b e
bucket_below (k ∷ ks) (suc c) raw b e = bucket_below ks c raw b e

bucket_is : (k : Column) (raw b : ℕ) → bucket_of k raw ≡ Some b → b ≡ (raw - k.start) / k.step
bucket_is k raw b e = grind (arith, nat_tests)

quotients : (a b step : ℕ) → a ≤ b → a / step ≤ b / step
quotients a b zero h = omega arith
quotients a b (suc n) h = le-div (a / suc n) b (suc n) (omega arith) (omega (arith, div-mul-le_self a (suc n), h))

in_order : (k : Column) (first last low high : ℕ) → bucket_of k first ≡ Some low → bucket_of k last ≡ Some high → first ≤ last → low ≤ high
in_order k first last low high e f h =
    rw (bucket_is k first low e, bucket_is k last high f) (quotients (first - k.start) (last - k.start) k.step (omega arith))

-- buckets stand in the order of their numbers
pub buckets_in_order : (columns : List Column) (c first last low high : ℕ) → bucket_at columns c first ≡ Some low → bucket_at columns c last ≡ Some high → first ≤ last → low ≤ high
buckets_in_order [] c first last low high e f h = absurd cc
buckets_in_order (k ∷ ks) zero first last low high e f h = in_order k first last low high e f h
buckets_in_order (k ∷ ks) (suc c) first last low high e f h = buckets_in_order ks c first last low high e f h
