-- Rows that were agreed on.
use Rattle.std.specs.Prelude.{ℕ, ◌≤◌, List, All, length, take}
use Rattle.prg_chacha.specs.declared.seed.Seed.{Seed}
use Rattle.scan_chunks.specs.Shelf.{Held}
use Rattle.table_schema.specs.Widths.{Holds}
use Rattle.table_schema.specs.declared.rows.Row.{Row}
use Rattle.table_schema.specs.declared.widths.Widths.{Widths}
use Rattle.agreed_rows.specs.Servers.{KeepsFirst}

-- the widths of the rows, and the rows, each with the seed that splits it
pub record Entries : Type 0 where
  pub widths : Widths
  pub all : List (Row × Seed)

-- the first n rows of an order
abbrev pub first_rows : Widths → List (Row × Seed) → ℕ → Entries
first_rows w order n = record { widths = w; all = take n order }

-- there are at most 65,536 rows, which the widths hold
pub record Sound (e : Entries) : Type 0 where
  pub few : length e.all ≤ 65536
  pub rows : All (λ (entry : Row × Seed). Holds e.widths entry.0) e.all

-- three shelves keep the same first n rows of an order
pub record IsAgreed (w : Widths) (order : List (Row × Seed)) (n : ℕ) (h0 h1 h2 : Held) : Type 0 where
  pub few : n ≤ 65536
  pub zero : KeepsFirst w 0 order n h0
  pub one : KeepsFirst w 1 order n h1
  pub two : KeepsFirst w 2 order n h2
