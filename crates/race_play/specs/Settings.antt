-- What a race is run over.
use Rattle.std.specs.Prelude.{ℕ, ◌<◌, ◌≤◌, List, All, length, max}
use Rattle.prg_chacha.specs.declared.seed.Seed.{Seed}
use Rattle.query_plan.specs.Query.{Suits}
use Rattle.query_plan.specs.declared.query.Query.{Query}
use Rattle.table_schema.specs.Widths.{Fits, Holds, column_bits}
use Rattle.table_schema.specs.declared.rows.Row.{Row}
use Rattle.table_schema.specs.declared.widths.Widths.{Widths}
use Rattle.race_play.specs.declared.setting.Race.{Race}

-- the input rows of these widths, the queries, the master seed, and how many writers, askers and rounds there are
pub record Setting : Type 0 where
  pub widths : Widths
  pub rows : List Row
  pub queries : List Query
  pub master : Seed
  pub writers : ℕ
  pub askers : ℕ
  pub rounds : ℕ

-- a race as it is seen
abbrev pub setting_of : Race → Setting
setting_of r = record {
  widths = r.widths;
  rows = r.rows.now;
  queries = r.queries.now;
  master = r.master;
  writers = r.crew.writers;
  askers = r.crew.askers;
  rounds = r.crew.rounds;
}

-- how many rows the table takes: all that there are, and never none
abbrev pub room_of : Setting → ℕ
room_of s = max 1 (length s.rows)

-- 1 to 16 queries that are legal over these widths
pub record AreLegal (w : Widths) (queries : List Query) : Type 0 where
  pub some : 0 < length queries
  pub few : length queries ≤ 16
  pub suits : All (λ (q : Query). Suits w.columns w.bits q) queries

-- rows that the widths hold, for which there is room; some writers and askers; and some queries, which are legal
pub record IsSetting (s : Setting) : Type 0 where
  pub held : All (Holds s.widths) s.rows
  pub fits : Fits (column_bits s.widths) (room_of s)
  pub writers : 0 < s.writers
  pub askers : (0 < s.askers) × (s.askers ≤ 16)
  pub queries : AreLegal s.widths s.queries
