-- The printed order of a race: which input row stands at each place.
use Rattle.std.specs.Prelude.{◌≡◌, ℕ, ◌-◌, ◌%◌, ◌<◌, ◌≤◌, Some, List, length, slice_get}
use Rattle.list_facts.specs.Count.{times}
use Rattle.report_lines.specs.declared.lines.Line.{Line}
use Rattle.report_lines.specs.declared.lines.Line.TheVariants as lines

-- row i stands at a place
abbrev pub At : List ℕ → ℕ → ℕ → Type 0
At order place i = slice_get order place ≡ Some i

-- an order of n input rows that this number of writers may come to: each row stands in it once; and of two rows of one writer, those
-- i and j with the same remainder, the one that was read first stands first
pub record IsOrder (n writers : ℕ) (order : List ℕ) : Type 0 where
  pub long : length order ≡ n
  pub once : (i : ℕ) → i < n → times i order ≡ 1
  pub rising : (a b i j : ℕ) → a < b → At order a i → At order b j → i % writers ≡ j % writers → i < j

-- 1 plus the last place of a writer's rows, or 0 where it has none
pub record IsPast (writers w : ℕ) (order : List ℕ) (past : ℕ) : Type 0 where
  pub above : (place i : ℕ) → At order place i → i % writers ≡ w → place < past
  pub last : 0 < past → (i : ℕ) × At order (past - 1) i × (i % writers ≡ w)

-- a writer's line: Back, with at least its own rows and at most all; or BackAgain, where a server lacked a place below 1 plus the writer's
-- last one, at which another writer's row stands
abbrev pub IsBackLine : ℕ → ℕ → List ℕ → ℕ → Line → Type 0
IsBackLine n writers order w (lines.Back writer rows) =
    (writer ≡ w) × ((past : ℕ) × IsPast writers w order past × (past ≤ rows)) × (rows ≤ n)
IsBackLine n writers order w (lines.BackAgain writer server had floor) =
    (writer ≡ w) × (server < 3) × IsPast writers w order floor × (had < floor) × ((i : ℕ) × At order had i × ¬ (i % writers ≡ w))
IsBackLine n writers order w line = ⊥
