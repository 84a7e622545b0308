-- What lies behind a server's lock.
use Rattle.std.specs.Prelude.{◌≡◌, ℕ, ◌<◌, ◌≤◌, true, List, length}
use Rattle.list_facts.specs.Count.{has, times}
use Rattle.prefix_log.specs.Logs.{Log}
use Rattle.prg_chacha.specs.declared.seed.Seed.{Seed}
use Rattle.table_schema.specs.declared.rows.Row.{Row}
use Rattle.table_schema.specs.declared.widths.Widths.{Widths}
use Rattle.ticket_place.specs.Sights.{Named}
use Rattle.agreed_rows.specs.Servers.{IsServer}
use Rattle.waldo_table.specs.declared.tag.VaultTag.{VaultTag}

-- a server's log, and the order of a book as far as it was seen there
pub record Behind : Type 0 where
  pub log : Log
  pub book : Named
  pub order : List (Row × Seed)

-- the log has pieces of the order alone
abbrev pub IsVault : Log → List (Row × Seed) → Type 0
IsVault log order = IsServer log.server log.widths log.capacity order log

-- a journal has each place once, and just places of the order
pub record IsJournal (journal : List ℕ) (order : List (Row × Seed)) : Type 0 where
  pub once : (place : ℕ) → times place journal ≤ 1
  pub known : (place : ℕ) → has place journal ≡ true → place < length order

-- what never changes of a vault: its server, the widths, the capacity and the book
abbrev pub tag_for : ℕ → Widths → ℕ → Named → VaultTag
tag_for k w most book = record { server = k; widths = w; capacity = most; book = record { marker = record {}; value = book } }

abbrev pub tag_of : Behind → VaultTag
tag_of v = tag_for v.log.server v.log.widths v.log.capacity v.book
