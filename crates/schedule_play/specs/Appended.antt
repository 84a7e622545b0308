-- Rows that were appended one after another, before any other step.
use Rattle.std.specs.Prelude.{ℕ, ◌+◌, List, [], ◌∷◌}
use Rattle.prefix_log.specs.declared.bulk.Entry.{Entry}
use Rattle.prg_chacha.specs.Prg.{derive_of}
use Rattle.prg_chacha.specs.declared.seed.Seed.{Seed}
use Rattle.table_schema.specs.declared.rows.Row.{Row}
use Rattle.waldo_core.specs.InBulk.{core_after}
use Rattle.schedule_play.specs.Stages.{Stage, first_stage}
use Rattle.schedule_play.specs.Tasks.{Setting}

-- a row whose own seed was not derived yet
abbrev pub unseeded : Seed → Row → Entry
unseeded master row = record { row = row; seed = master }

-- each row with its seed; the first one has this number
abbrev pub seeded_rows : Seed → ℕ → List Row → List (Row × Seed)
seeded_rows master i [] = []
seeded_rows master i (row ∷ rows) = (row, derive_of master 1 0 i) ∷ seeded_rows master (i + 1) rows

-- the stage once all rows were appended: there are no lines yet
abbrev pub stage_with_rows : Setting → Stage
stage_with_rows s = record first_stage { core = core_after (seeded_rows s.master 0 s.rows) }
