-- Rows that are appended one after another by actor 0, and the core after them.
use Rattle.std.specs.Prelude.{ℕ, ◌≡◌, ◌≤◌, Some, None, List, [], ◌∷◌, length}
use Rattle.std.specs.List.{flat_map, range_with_len}
use Rattle.list_facts.specs.Listed.{listed}
use Rattle.prefix_log.specs.Logs.{Log}
use Rattle.prefix_log.specs.declared.bulk.Entry.{Entry}
use Rattle.table_schema.specs.declared.widths.Widths.{Widths}
use Rattle.prg_chacha.specs.declared.seed.Seed.{Seed}
use Rattle.server_rounds.specs.declared.opened.OpenedPair.{OpenedPair}
use Rattle.table_schema.specs.declared.rows.Row.{Row}
use Rattle.waldo_core.specs.Core.{Core, empty_core, fresh}
use Rattle.waldo_core.specs.Core.Fixes.{Unfixed}
use Rattle.waldo_core.specs.Step.{step}
use Rattle.waldo_core.specs.declared.events.Event.{Event}
use Rattle.waldo_core.specs.declared.events.Event.TheVariants as events
use Rattle.waldo_core.specs.declared.events.Reply.{Reply}

-- the events that append a row: it is drawn, and placed at each server
abbrev pub appending : Row × Seed → List Event
appending entry = events.Draw 0 entry.0 entry.1 ∷ events.Place 0 0 ∷ events.Place 0 1 ∷ events.Place 0 2 ∷ []

-- these events have cases one after another, whatever answers would open, and lead from a core to another one
abbrev pub Leads : ℕ → Core → List Event → Core → Type 0
Leads capacity core [] last = core ≡ last
Leads capacity core (e ∷ es) last =
    (next : Core × Reply) × ((pair : OpenedPair) → step capacity core e pair ≡ Some next) × Leads capacity next.0 es last

-- the core after these rows and no other events
abbrev pub core_after : List (Row × Seed) → Core
core_after entries = record {
  order = entries;
  zero = range_with_len 0 (length entries);
  one = range_with_len 0 (length entries);
  two = range_with_len 0 (length entries);
  actors = record { floor = length entries; draw = None; fixes = Unfixed } ∷ listed 15 (λ (actor : ℕ). fresh);
}

-- a row and its seed
abbrev pub pair_of : Entry → Row × Seed
pair_of e = (e.row, e.seed)

-- as many rows as there is room for lead there
abbrev pub RowsLead : Type 0
RowsLead = (capacity : ℕ) (entries : List (Row × Seed)) → length entries ≤ capacity
    → Leads capacity empty_core (flat_map appending entries) (core_after entries)

-- a log of server k without pieces
pub record IsBlank (k : ℕ) (w : Widths) (n : ℕ) (log : Log) : Type 0 where
  pub number : log.server ≡ k
  pub wide : log.widths ≡ w
  pub places : log.capacity ≡ n
  pub none : log.journal ≡ []
