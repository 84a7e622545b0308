-- The order that is filled from what the writers wrote.
use Rattle.std.specs.Prelude.{◌≡◌, ℕ, suc, ◌≤◌, ◌<◌, ⊤, List, [], ◌∷◌, ◌++◌, length, slice_set}
use Rattle.list_facts.specs.Count.{once_below, times}
use Rattle.prg_chacha.specs.declared.seed.Seed.{Seed}
use Rattle.table_schema.specs.declared.rows.Row.{Row}
use Rattle.race_play.specs.Turns.{IsRising, turns}
use Rattle.race_play.specs.Writes.{AreEntries}

-- rows put at places, one after another
abbrev pub filled : List ℕ → List ℕ → List ℕ → List ℕ
filled xs [] places = xs
filled xs (i ∷ is) [] = xs
filled xs (i ∷ is) (place ∷ places) = filled (slice_set xs place i) is places

-- the rows of the writers from one on put at their places, of n rows
abbrev pub filled_all : ℕ → ℕ → List ℕ → ℕ → List (List ℕ) → List ℕ
filled_all writers n xs w [] = xs
filled_all writers n xs w (places ∷ more) = filled_all writers n (filled xs (turns w writers n) places) (suc w) more

-- the places of all writers
abbrev pub all_places : List (List ℕ) → List ℕ
all_places [] = []
all_places (places ∷ more) = places ++ all_places more

-- the writers from one on wrote their rows at these places of the order
abbrev pub HaveWritten : List Row → Seed → ℕ → List (Row × Seed) → ℕ → List (List ℕ) → Type 0
HaveWritten rows master writers order w [] = ⊤
HaveWritten rows master writers order w (places ∷ more) =
    AreEntries rows master w order (turns w writers (length rows)) places × IsRising 0 places
    × HaveWritten rows master writers order (suc w) more

-- what is known once all passes are gathered: each writer's rows stand at its places, which rise; no place is in two writers' lists; and
-- the order is no longer than there are rows
pub record IsGathered (rows : List Row) (master : Seed) (writers : ℕ) (order : List (Row × Seed)) (places : List (List ℕ)) : Type 0 where
  pub some : 0 < writers
  pub each : length places ≡ writers
  pub wrote : HaveWritten rows master writers order 0 places
  pub apart : (x : ℕ) → times x (all_places places) ≤ once_below x (length order)
  pub few : length order ≤ length rows
