-- What a command does once its rows are known: which steps, over which rows and queries, and how they are reported.
use Rattle.std.specs.Prelude.{ℕ, ◌≡◌, List, [], ◌∷◌, ◌++◌, All, length, max}
use Rattle.std.specs.List.{flat_map, range_with_len}
use Rattle.prg_chacha.specs.declared.seed.Seed.{Seed}
use Rattle.query_plan.specs.Query.{Suits}
use Rattle.query_plan.specs.declared.query.Query.{Query}
use Rattle.table_schema.specs.Widths.{Fits, Holds, column_bits}
use Rattle.table_schema.specs.declared.rows.Row.{Row}
use Rattle.table_schema.specs.declared.widths.Widths.{Widths}
use Rattle.waldo_words.specs.declared.schedule.Step.{Step}
use Rattle.waldo_words.specs.declared.schedule.Step.TheVariants as steps
use Rattle.schedule_play.specs.declared.style.Style.{Style}
use Rattle.schedule_play.specs.declared.style.Style.TheVariants.{Queries, Rounds}

-- the rows, the queries and the master seed
pub record Setting : Type 0 where
  pub rows : List Row
  pub queries : List Query
  pub master : Seed

-- how many rows the machine takes: all that there are, and never none
abbrev pub room_of : Setting → ℕ
room_of s = max 1 (length s.rows)

-- rows that the widths hold, for which the machine has room, and legal queries
pub record IsSetting (w : Widths) (s : Setting) : Type 0 where
  pub held : All (Holds w) s.rows
  pub fits : Fits (column_bits w) (room_of s)
  pub places : All (λ (q : Query). length q.predicates ≡ 4) s.queries
  pub suits : All (λ (q : Query). Suits w.columns w.bits q) s.queries

-- a setting, how its steps are reported, and the steps
pub record Task : Type 0 where
  pub setting : Setting
  pub style : Style
  pub steps : List Step

-- actor 0 draws the next row and places it at each server
abbrev pub append_steps : List Step
append_steps = steps.Draw 0 ∷ steps.Place 0 0 ∷ steps.Place 0 1 ∷ steps.Place 0 2 ∷ []

-- actor 0 fixes three times and asks a query
abbrev pub ask_steps : ℕ → List Step
ask_steps query = steps.Fix 0 ∷ steps.Fix 0 ∷ steps.Fix 0 ∷ steps.Answer 0 query ∷ []

-- all rows are appended, and then each query is asked
abbrev pub all_steps : ℕ → ℕ → List Step
all_steps rows queries = flat_map (λ (row : ℕ). append_steps) (range_with_len 0 rows) ++ flat_map ask_steps (range_with_len 0 queries)

-- rows that are appended one after another, and then asked each query
abbrev pub asking : Setting → Task
asking s = record { setting = s; style = Queries; steps = all_steps (length s.rows) (length s.queries) }

-- a schedule of steps
abbrev pub scheduled : Setting → List Step → Task
scheduled s schedule = record { setting = s; style = Rounds; steps = schedule }
