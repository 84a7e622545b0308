-- Plain answers are small.
use Rattle.std.proofs.Common.{◌≡◌, ℕ, ◌+◌, ◌*◌, ◌^◌, ◌<◌, ◌≤◌, Bool, true, false, cond, List, [], ◌∷◌, length, map, filter, ℤ, pos, negsuc, ◌+ℤ◌, ◌≤ℤ◌, suc, arith}
use Rattle.std.proofs.lemmas.List.Sums.{count_by-le-length, length-filter}
use Rattle.std.proofs.lemmas.Int.{ints}
use Rattle.table_schema.specs.declared.rows.Row.{Row}
use Rattle.table_schema.specs.declared.shapes.Aggregate.{Aggregate}
use Rattle.table_schema.specs.declared.shapes.Aggregate.TheVariants.{Count, Sum}
use Rattle.std.specs.List.{All}
use Rattle.table_schema.specs.declared.widths.Widths.{Widths}
use Rattle.table_schema.specs.Widths.{Holds}
use Rattle.ring128.specs.Signed.{size_of}
use Rattle.transcript.specs.Plain.{sum_of, answer_of, passes}
use Rattle.transcript.specs.Laws.{PlainIsSmall}

-- an integer of a size up to a bound
pub record IsWithin (most : ℕ) (z : ℤ) : Type 0 where
  pub low : pos 0 ≤ℤ (z +ℤ pos most)
  pub high : z ≤ℤ pos most

held_value : (w : Widths) (row : Row) → Holds w row → IsWithin 4294967295 row.value
held_value w row h = record { low = omega (arith, ints, h.value.0); high = h.value.1 }

within_sum : (a b : ℕ) (x y : ℤ) → IsWithin a x → IsWithin b y → IsWithin (a + b) (x +ℤ y)
within_sum a b x y p q = record { low = omega (arith, ints, p.low, q.low); high = omega (arith, ints, p.high, q.high) }

within_more : (a b : ℕ) (x : ℤ) → a ≤ b → IsWithin a x → IsWithin b x
within_more a b x le p = record { low = omega (arith, ints, p.low); high = omega (arith, ints, p.high) }

sum_within : (w : Widths) (p : Row → Bool) (rows : List Row) → All (Holds w) rows
    → IsWithin (length rows * 4294967295) (sum_of (map (λ (row : Row). row.value) (filter p rows)))
sum_within w p [] held = record { low = omega (arith, ints); high = omega (arith, ints) }
sum_within w p (row ∷ rows) held =
    let rest = sum_within w p rows (λ i d b. held (suc i) d (omega arith)) in
    let first = held_value w row (held 0 row (omega arith)) in
    within_next (p row) row rows first rest
  where
    within_next : (b : Bool) (row : Row) (rows : List Row) → IsWithin 4294967295 row.value
        → IsWithin (length rows * 4294967295) (sum_of (map (λ (row : Row). row.value) (filter p rows)))
        → IsWithin (suc (length rows) * 4294967295) (sum_of (map (λ (row : Row). row.value) (cond b (row ∷ filter p rows) (filter p rows))))
    within_next true row rows a b =
        within_more (4294967295 + length rows * 4294967295) (suc (length rows) * 4294967295) _ (omega arith) (within_sum _ _ _ _ a b)
    within_next false row rows a b = within_more (length rows * 4294967295) (suc (length rows) * 4294967295) _ (omega arith) b

answer_within : (a : Aggregate) (w : Widths) (p : Row → Bool) (rows : List Row) → All (Holds w) rows → length rows ≤ 65536
    → IsWithin (65536 * 4294967295) (answer_of a (filter p rows))
answer_within Count w p rows held few =
    let most : length (filter p rows) ≤ 65536 = omega (arith, length-filter p rows, count_by-le-length p rows) in
    record { low = omega (arith, ints); high = omega (arith, ints) }
answer_within Sum w p rows held few =
    within_more (length rows * 4294967295) (65536 * 4294967295) _ (omega arith) (sum_within w p rows held)

small_size : (z : ℤ) → IsWithin (65536 * 4294967295) z → size_of z < 2 ^ 48
small_size (pos n) u = omega (arith, ints, u.high)
small_size (negsuc n) u = omega (arith, ints, u.low)

pub plain_is_small : PlainIsSmall
plain_is_small w query rows held few =
    small_size (answer_of query.aggregate (filter (passes query) rows)) (answer_within query.aggregate w (passes query) rows held few)
