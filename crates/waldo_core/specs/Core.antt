-- The core: one order of draws, the journals of three servers, and what sixteen actors have seen and have under way.
use Rattle.std.specs.Prelude.{ℕ, zero, suc, Bool, true, false, Option, None, List, [], slice_set}
use Rattle.list_facts.specs.Listed.{listed}
pub use Rattle.prefix_log.specs.Journal.{gap_from, prefix}
use Rattle.prg_chacha.specs.declared.seed.Seed.{Seed}
use Rattle.table_schema.specs.declared.rows.Row.{Row}

-- a draw that is not closed yet: its place, and whether its piece was placed at each server
pub record Open : Type 0 where
  pub place : ℕ
  pub zero : Bool
  pub one : Bool
  pub two : Bool

-- the fixes of an actor: none; the prefix that it found at server 0; those at servers 0 and 1; or how many rows it agreed on
pub data Fixes : Type 0 where
  Unfixed : Fixes
  First : ℕ → Fixes
  Second : ℕ → ℕ → Fixes
  Agreed : ℕ → Fixes

-- an actor: the greatest number of rows that it has seen, its open draw, and its fixes
pub record Actor : Type 0 where
  pub floor : ℕ
  pub draw : Option Open
  pub fixes : Fixes

-- the rows in the order of draws, each with the seed that splits it; the servers' journals; and the actors
pub record Core : Type 0 where
  pub order : List (Row × Seed)
  pub zero : List ℕ
  pub one : List ℕ
  pub two : List ℕ
  pub actors : List Actor

-- an actor that has seen nothing
abbrev pub fresh : Actor
fresh = record { floor = 0; draw = None; fixes = Unfixed }

-- nothing was drawn
abbrev pub empty_core : Core
empty_core = record { order = []; zero = []; one = []; two = []; actors = listed 16 (λ (actor : ℕ). fresh) }

-- the journal of server k
abbrev pub journal_of : Core → ℕ → List ℕ
journal_of core zero = core.zero
journal_of core (suc zero) = core.one
journal_of core (suc (suc k)) = core.two

-- the core with another journal of server k
abbrev pub with_journal : Core → ℕ → List ℕ → Core
with_journal core zero journal = record core { zero = journal }
with_journal core (suc zero) journal = record core { one = journal }
with_journal core (suc (suc k)) journal = record core { two = journal }

-- the core with another actor of this number
abbrev pub with_actor : Core → ℕ → Actor → Core
with_actor core number actor = record core { actors = slice_set core.actors number actor }

-- whether some fixes are under way
abbrev pub is_pending : Fixes → Bool
is_pending Unfixed = false
is_pending (First p) = true
is_pending (Second p q) = true
is_pending (Agreed n) = false
