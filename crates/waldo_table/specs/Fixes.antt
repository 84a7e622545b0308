-- Why a server was not fixed.
use Rattle.std.specs.Prelude.{◌≡◌, ℕ, ◌<◌, ⊤, List}
use Rattle.prefix_log.specs.Journal.{prefix}
use Rattle.waldo_table.specs.declared.faults.FixFault.{FixFault}
use Rattle.waldo_table.specs.declared.faults.FixFault.TheVariants as fix

-- the journal has just `had` of the first places, fewer than the floor; out of memory may come at any time
abbrev pub IsFixFault : ℕ → List ℕ → FixFault → Type 0
IsFixFault floor journal (fix.Below had) = (had ≡ prefix journal) × (had < floor)
IsFixFault floor journal fix.Memory = ⊤
