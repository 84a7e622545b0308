-- Which chunks of a server's shelves a call visits.
use Rattle.std.specs.Prelude.{ℕ, ◌≡◌, ◌≤◌, ◌-◌, List, [], ◌++◌, length, drop, All, Result, Ok, Err}
use Rattle.std.specs.List.{AllZip, flat_map}
use Rattle.ring128.specs.declared.memory.Memory.{Memory}
use Rattle.scan_chunks.specs.Pieces.{chunks_of}
use Rattle.scan_chunks.specs.Shelf.{Held}
use Rattle.scan_chunks.specs.Scan.{visits_of, VisitsPart}
use Rattle.scan_chunks.specs.declared.visit.Visit.{Visit}
use Rattle.visit_trace.specs.Seen.{AllSeen}
use Rattle.server_rounds.specs.declared.servers.Servers.{Servers}
-- the columns of a step, of a run and of a query
pub use Rattle.visit_trace.specs.Sizes.{opened_columns, predicate_columns, run_columns, query_columns}

-- each chunk of these columns once, rising, one column after another
abbrev pub visits_at : Held → List ℕ → List Visit
visits_at h columns = flat_map (visits_of h) columns

-- the shelves of a server before and after a call that visits these columns: each shelf has all these visits more, or, out of memory,
-- the first of them
abbrev pub AreVisited : {S T : Type 0} → (S → Held) → (S → List Visit) → List ℕ → List S → List S → Result T Memory → Type 0
AreVisited held visited columns old new (Ok x) = AllZip (λ s t. visited t ≡ visited s ++ visits_at (held s) columns) old new
AreVisited held visited columns old new (Err e) = AllZip (λ s t. VisitsPart (visited s) (visited t) (visits_at (held s) columns)) old new

-- the shelves of the three servers before and after a call that visits these columns at each server
pub record AllVisited {S T : Type 0} (held : S → Held) (visited : S → List Visit) (columns : List ℕ) (old new : Servers S)
    (result : Result T Memory) : Type 0 where
  pub zero : AreVisited held visited columns old.zero.items new.zero.items result
  pub one : AreVisited held visited columns old.one.items new.one.items result
  pub two : AreVisited held visited columns old.two.items new.two.items result

-- as many of a shelf's last visits as it has chunks
abbrev pub last_visits : Held → List Visit → List Visit
last_visits h visits = drop (length visits - chunks_of h.rows) visits

-- each shelf has as many visits as chunks
abbrev pub HaveVisits : {S : Type 0} → (S → Held) → (S → List Visit) → List S → Type 0
HaveVisits held visited shelves = All (λ s. chunks_of (held s).rows ≤ length (visited s)) shelves

-- the last visits of a server's shelves, one shelf after another
abbrev pub shelves_last : {S : Type 0} → (S → Held) → (S → List Visit) → List S → List Visit
shelves_last held visited shelves = flat_map (λ s. last_visits (held s) (visited s)) shelves

-- those of the three servers
abbrev pub servers_last : {S : Type 0} → (S → Held) → (S → List Visit) → Servers S → AllSeen
servers_last held visited servers = record {
  zero = record { visits = shelves_last held visited servers.zero.items; lengths = [] };
  one = record { visits = shelves_last held visited servers.one.items; lengths = [] };
  two = record { visits = shelves_last held visited servers.two.items; lengths = [] };
}
