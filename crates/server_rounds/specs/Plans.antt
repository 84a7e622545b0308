-- What a run goes by: numbers within the limits, and keys for them.
use Rattle.std.specs.Prelude.{ℕ, ◌≡◌, ◌<◌, List, length}
use Rattle.onehot_column.specs.Code.{width_of}
use Rattle.query_plan.specs.KeyMessages.{Asked, KeysRead, message_words, view_from, view_of}
use Rattle.query_plan.specs.Query.{shaped}
use Rattle.query_plan.specs.Views.{View}
use Rattle.transcript.specs.Setup.{Sizes, count_of, column_of}
use Rattle.server_rounds.specs.declared.keys.ThreeKeys.{ThreeKeys}
use Rattle.zero_share.specs.declared.seeds.ZeroSeeds.{ZeroSeeds}
use Rattle.server_rounds.specs.Groups.{by_server}
-- the limits
pub use Rattle.visit_trace.specs.Sizes.{AreLegal}

-- keys of each predicate in both runs, with tables as long as the predicate's column is wide
pub record HasTables (z : Sizes) (keys : KeysRead) : Type 0 where
  pub run0 : length keys.run0 ≡ count_of z
  pub run1 : length keys.run1 ≡ count_of z
  pub party0 : (run j : ℕ) → j < count_of z → length ((view_from keys).party0 run j) ≡ width_of z.widths (column_of z j)
  pub party1 : (run j : ℕ) → j < count_of z → length ((view_from keys).party1 run j) ≡ width_of z.widths (column_of z j)

pub record HaveTables (z : Sizes) (keys : ThreeKeys) : Type 0 where
  pub zero : HasTables z keys.zero
  pub one : HasTables z keys.one
  pub two : HasTables z keys.two

-- these are the seeds of the servers' zero parts
pub record AreZeros (keys : ThreeKeys) (zero one two : ZeroSeeds) : Type 0 where
  pub zero_own : zero.own ≡ keys.zero.own
  pub zero_next : zero.next ≡ keys.zero.next
  pub one_own : one.own ≡ keys.one.own
  pub one_next : one.next ≡ keys.one.next
  pub two_own : two.own ≡ keys.two.own
  pub two_next : two.next ≡ keys.two.next

-- what each server read
abbrev pub views_of : ThreeKeys → ℕ → View
views_of keys = by_server (view_from keys.zero) (view_from keys.one) (view_from keys.two)

-- of a query that keys were made for, over this many rows: its sizes, the key words for each server, and what a server reads from words
abbrev pub sizes_for : Asked → ℕ → Sizes
sizes_for asked rows = record { rows = rows; widths = asked.widths; shape = shaped asked.query }

abbrev pub words_for : Asked → ℕ → List ℕ
words_for asked = message_words asked.query asked.widths.bits asked.seed

abbrev pub read_for : Asked → List ℕ → View
read_for asked = view_of (shaped asked.query) asked.widths.bits
