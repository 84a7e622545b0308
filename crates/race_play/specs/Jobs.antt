-- The jobs of writers, before and after their threads ran, and what is gathered from them.
use Rattle.std.specs.Prelude.{◌≡◌, ℕ, suc, ◌<◌, ◌≤◌, ⊤, All, IfSome, List, [], ◌∷◌, length}
use Rattle.prg_chacha.specs.declared.seed.Seed.{Seed}
use Rattle.report_lines.specs.declared.lines.Line.{Line}
use Rattle.table_schema.specs.declared.rows.Row.{Row}
use Rattle.waldo_table.specs.Tables.{Grows, IsLegal, IsOf, PassView, TableView}
use Rattle.race_play.specs.Turns.{turns}
use Rattle.race_play.specs.Writes.{Wrote_back}
use Rattle.race_play.specs.declared.jobs.WriterJob.{WriterJob}
use Rattle.race_play.specs.declared.write.Written.{Written}

-- a pass that has written nothing and learned nothing
pub record IsFresh (p : PassView) : Type 0 where
  pub own : p.sight.own ≡ []
  pub floor : p.floor ≡ 0

-- a writer's job, with room for its rows, of n
pub record IsReady (t : TableView) (n writers : ℕ) (j : WriterJob) : Type 0 where
  pub of : IsOf t j.pass
  pub number : j.number < writers
  pub fresh : IsFresh j.pass
  pub room : length (turns j.number writers n) ≤ j.pass.sight.room

-- it began with a fresh pass, and wrote its rows and agreed with it
pub record Ended (rows : List Row) (master : Seed) (writers w : ℕ) (places : List ℕ) (line : Line) (q : PassView) : Type 0 where
  pub began : PassView
  pub fresh : IsFresh began
  pub wrote : Wrote_back rows master w (turns w writers (length rows)) began places line q
  pub legal : IsLegal q

pub record IsDone (t : TableView) (rows : List Row) (master : Seed) (writers : ℕ) (j : WriterJob) : Type 0 where
  pub of : IsOf t j.pass
  pub ended : IfSome j.written (λ (w : Written). Ended rows master writers j.number w.places w.line j.pass)

-- the jobs have these numbers, from one on
abbrev pub AreNumbered : ℕ → List WriterJob → Type 0
AreNumbered w [] = ⊤
AreNumbered w (j ∷ js) = (j.number ≡ w) × AreNumbered (suc w) js

-- the writers from one on ended, each with a pass that had seen no more than this one
abbrev pub HaveEnded : List Row → Seed → ℕ → PassView → ℕ → List (List ℕ) → List Line → Type 0
HaveEnded rows master writers p w [] [] = ⊤
HaveEnded rows master writers p w [] (line ∷ lines) = ⊥
HaveEnded rows master writers p w (places ∷ more) [] = ⊥
HaveEnded rows master writers p w (places ∷ more) (line ∷ lines) =
    ((q : PassView) × Ended rows master writers w places line q × Grows q p) × HaveEnded rows master writers p (suc w) more lines

-- the jobs of all writers, before and after their threads ran
pub record AllDone (t : TableView) (rows : List Row) (master : Seed) (writers : ℕ) (old new : List WriterJob) : Type 0 where
  pub done : All (IsDone t rows master writers) new
  pub numbered : AreNumbered 0 old → AreNumbered 0 new
  pub long : length new ≡ length old
