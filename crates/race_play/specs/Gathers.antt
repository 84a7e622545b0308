-- What was gathered so far.
use Rattle.std.specs.Prelude.{◌≡◌, ℕ, List, map}
use Rattle.prg_chacha.specs.declared.seed.Seed.{Seed}
use Rattle.table_schema.specs.declared.rows.Row.{Row}
use Rattle.waldo_table.specs.Tables.{PassView}
use Rattle.race_play.specs.Filled.{all_places}
use Rattle.race_play.specs.Jobs.{HaveEnded}
use Rattle.race_play.specs.declared.gather.Gathered.{Gathered}

-- the places of each writer
abbrev pub places_in : Gathered → List (List ℕ)
places_in g = map (λ v. v.items) g.places.items

-- the first writers ended with these places and lines, and the pass has their places as its own
pub record IsAll (rows : List Row) (master : Seed) (writers : ℕ) (p : PassView) (g : Gathered) : Type 0 where
  pub own : p.sight.own ≡ all_places (places_in g)
  pub ended : HaveEnded rows master writers p 0 (places_in g) g.lines.items
