-- The core once actor 0 appended all rows and then fixed at the servers in turn.
use Rattle.std.specs.Prelude.{ℕ, None, List, ◌∷◌, length}
use Rattle.list_facts.specs.Listed.{listed}
use Rattle.prg_chacha.specs.declared.seed.Seed.{Seed}
use Rattle.table_schema.specs.declared.rows.Row.{Row}
use Rattle.waldo_core.specs.Core.{Core, Fixes, fresh}
use Rattle.waldo_core.specs.Core.Fixes.{Agreed}
use Rattle.waldo_core.specs.InBulk.{core_after}

-- as after the rows were appended, with these fixes of actor 0
abbrev pub core_fixed : List (Row × Seed) → Fixes → Core
core_fixed entries fixes = record (core_after entries) {
  actors = record { floor = length entries; draw = None; fixes = fixes } ∷ listed 15 (λ (actor : ℕ). fresh);
}

-- actor 0 agreed on all rows
abbrev pub core_agreed : List (Row × Seed) → Core
core_agreed entries = core_fixed entries (Agreed (length entries))
