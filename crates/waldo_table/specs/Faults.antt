-- Faults of a fix and of an agreement.
use Rattle.std.specs.Prelude.{ℕ}
use Rattle.waldo_table.specs.declared.faults.AgreeFault.{AgreeFault}
use Rattle.waldo_table.specs.declared.faults.AgreeFault.TheVariants as agree
use Rattle.waldo_table.specs.declared.faults.AskFault.{AskFault}
use Rattle.waldo_table.specs.declared.faults.AskFault.TheVariants as ask
use Rattle.waldo_table.specs.declared.faults.FixFault.{FixFault}
use Rattle.waldo_table.specs.declared.faults.FixFault.TheVariants as fix

abbrev pub at_server : ℕ → ℕ → FixFault → AgreeFault
at_server server floor (fix.Below had) = agree.Again server had floor
at_server server floor fix.Memory = agree.Memory

abbrev pub as_asked : AgreeFault → AskFault
as_asked (agree.Again server had floor) = ask.Again server had floor
as_asked agree.Memory = ask.Memory
