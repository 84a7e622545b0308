-- What the servers read from their key messages, and when it is what a query needs.
use Rattle.std.specs.Prelude.{ℕ, zero, suc, ◌≡◌, ◌<◌, ◌+◌, ◌%◌, ◌^◌, ◌&&◌, Bool, nat_le, if◌then◌else◌, List, length, slice_index}
use Rattle.list_facts.specs.Listed.{listed}
use Rattle.prg_chacha.specs.declared.seed.Seed.{Seed}
use Rattle.ring128.specs.Ring.{times, sums}
use Rattle.query_plan.specs.declared.query.Predicate.{Predicate}
use Rattle.query_plan.specs.declared.query.Query.{Query}
use Rattle.query_plan.specs.Query.{predicate_at}

-- what a server reads: its seed of zero parts and the next server's, and by run and predicate the tables of its two keys
pub record View : Type 0 where
  pub own : Seed
  pub next : Seed
  pub party0 : ℕ → ℕ → List ℕ
  pub party1 : ℕ → ℕ → List ℕ

-- whether a bucket is from a predicate's low to its high
abbrev pub is_inside : Predicate → ℕ → Bool
is_inside p bucket = nat_le p.low bucket && nat_le bucket p.high

-- the weight at the buckets inside, and 0 elsewhere
abbrev pub weight_inside : Predicate → ℕ → ℕ → ℕ
weight_inside p weight bucket = if is_inside p bucket then weight else 0

-- the key: the product of the weights of the first predicates
abbrev pub key_from : (ℕ → ℕ) → ℕ → ℕ
key_from weights zero = 1
key_from weights (suc n) = times (key_from weights n) (weights n)

-- two tables, of a column of this width, that add up to a function
pub record IsTablePair (width : ℕ) (table0 table1 : List ℕ) (whole : ℕ → ℕ) : Type 0 where
  pub long0 : length table0 ≡ width
  pub long1 : length table1 ≡ width
  pub adds_up : sums table0 table1 ≡ listed width whole

-- the servers read the keys of this query with these weights, by run and predicate: neighbours have a seed in common, and of the key
-- pair of share k server k has the table of party 0, and the server before it that of party 1
pub record AreKeys (bits : List ℕ) (views : ℕ → View) (query : Query) (weights : ℕ → ℕ → ℕ) : Type 0 where
  pub seeds : (k : ℕ) → k < 3 → (views k).next ≡ (views ((k + 1) % 3)).own
  pub pairs : (run j k : ℕ) → run < 2 → j < query.count → k < 3
      → let p = predicate_at query j in
      IsTablePair (2 ^ slice_index bits p.column)
      ((views ((k + 1) % 3)).party0 run j) ((views k).party1 run j) (weight_inside p (weights run j))
