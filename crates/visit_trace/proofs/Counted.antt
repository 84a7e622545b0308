-- The numbers of visits and words of a trace.
use Rattle.std.proofs.Common.{◌≡◌, ◌∙◌, refl, ap, ℕ, zero, suc, ◌+◌, ◌-◌, ◌*◌, List, [], ◌∷◌, ◌++◌, length, map, arith, length-append}
use Rattle.std.proofs.Math.Nat.{mul-suc}
use Rattle.std.specs.List.{range_with_len}
use Rattle.list_facts.specs.Count.{total}
use Rattle.list_facts.proofs.Listed.{length-listed}
use Rattle.scan_chunks.specs.Pieces.{chunks_of}
use Rattle.scan_chunks.specs.declared.visit.Visit.{Visit}
use Rattle.table_schema.specs.declared.shapes.Aggregate.{Aggregate}
use Rattle.table_schema.specs.declared.shapes.Aggregate.TheVariants.{Count, Sum}
use Rattle.visit_trace.specs.Expected.{chunk_visits, product_lengths, query_lengths, run_lengths, visits_over as visits_at}
use Rattle.visit_trace.specs.Sizes.{column_of, count_of, opened_columns, predicate_columns, query_columns, run_columns}
use Rattle.visit_trace.specs.declared.sizes.Sizes.{Sizes}
use Rattle.visit_trace.specs.Counts.{CountsFollow, value_columns, visits_over, words_over}

abbrev sum : List ℕ → ℕ
sum ns = total (λ (n : ℕ). n) ns

sum-append : (xs ys : List ℕ) → sum (xs ++ ys) ≡ sum xs + sum ys
sum-append [] ys = omega arith
sum-append (x ∷ xs) ys = omega (arith, sum-append xs ys)

-- a list of one number again and again
sum-same : (i m n : ℕ) → sum (map (λ (j : ℕ). n) (range_with_len i m)) ≡ n * m
sum-same i zero n = omega arith
sum-same i (suc m) n = omega (arith, sum-same (i + 1) m n, mul-suc n m)

-- the visits of columns
length-visits : (n : ℕ) (columns : List ℕ) → length (visits_at n columns) ≡ chunks_of n * length columns
length-visits n [] = omega arith
length-visits n (c ∷ cs) =
    omega (arith, length-append (chunk_visits n c) (visits_at n cs), length-listed {A = Visit} (chunks_of n) (λ (k : ℕ). record { column = c; chunk = k }), length-visits n cs, mul-suc (chunks_of n) (length cs))

length-opened : (a : Aggregate) (value : ℕ) → length (opened_columns a value) ≡ value_columns a
length-opened Count value = refl
length-opened Sum value = refl

length-run : (z : Sizes) → length (run_columns z) ≡ count_of z + value_columns z.shape.aggregate
length-run z = omega (
  arith,
  length-append (predicate_columns z) (opened_columns z.shape.aggregate z.widths.columns),
  length-listed (count_of z) (column_of z),
  length-opened z.shape.aggregate z.widths.columns,
)

twice : (c r q : ℕ) → q ≡ r + r → c * q ≡ 2 * (c * r)
twice c r q e = let two : c * (r + r) ≡ 2 * (c * r) = grind arith in ap (λ (x : ℕ). c * x) e ∙ two

length-all : (z : Sizes) → length (visits_at z.rows (query_columns z)) ≡ visits_over z.rows z.shape
length-all z =
    let run = length (run_columns z) in
    let all : length (query_columns z) ≡ run + run = length-append (run_columns z) (run_columns z) in
    length-visits z.rows (query_columns z) ∙ twice (chunks_of z.rows) run (length (query_columns z)) all
    ∙ ap (λ (x : ℕ). 2 * (chunks_of z.rows * x)) (length-run z)

-- the words of the messages
swap : (n m : ℕ) → n * (2 * m) ≡ 2 * n * m
swap n m = grind arith

words-run : (z : Sizes) → sum (run_lengths z) ≡ 2 * z.rows * (2 * count_of z - 1) + 1
words-run z =
    let m = 2 * count_of z - 1 in
    omega (arith, sum-append (product_lengths z (count_of z)) (1 ∷ []), sum-same 0 (2 * m) z.rows, swap z.rows m)

words-all : (z : Sizes) → sum (query_lengths z) ≡ words_over z.widths.bits z.rows z.shape
words-all z = omega (arith, sum-append (run_lengths z) (run_lengths z), words-run z)

pub counts_follow : CountsFollow
counts_follow z zero few some = record { visits = length-all z; words = words-all z }
counts_follow z (suc zero) few some = record { visits = length-all z; words = words-all z }
counts_follow z (suc (suc zero)) few some = record { visits = length-all z; words = words-all z }
counts_follow z (suc (suc (suc k))) few some = absurd (omega (arith, few))
