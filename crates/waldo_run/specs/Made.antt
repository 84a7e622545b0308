-- Rows that are made by a number.
use Rattle.std.specs.Prelude.{ℕ, ◌+◌, ◌*◌, ◌%◌, ◌^◌, List, length, get_or, pos}
use Rattle.list_facts.specs.Listed.{listed}
use Rattle.table_schema.specs.declared.rows.Row.{Row}

-- row i of columns of these bits: the bucket of column c is the number plus i times c + 1, modulo 2^bits, so 0 past the columns; the value
-- is 1000 times the number plus i, modulo 2^32
abbrev pub made_row : List ℕ → ℕ → ℕ → Row
made_row bits number i = record {
  columns = length bits;
  buckets = listed 6 (λ (c : ℕ). (number + i * (c + 1)) % 2 ^ get_or bits c 0);
  value = pos ((1000 * number + i) % 2 ^ 32);
}

-- `count` rows
abbrev pub made_rows : List ℕ → ℕ → ℕ → List Row
made_rows bits number count = listed count (made_row bits number)
