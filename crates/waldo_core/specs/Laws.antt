-- What the definitions say together.
use Rattle.std.specs.Prelude.{◌≡◌, ℕ, Some}
use Rattle.server_rounds.specs.declared.opened.OpenedPair.{OpenedPair}
use Rattle.waldo_core.specs.Core.{Core, empty_core}
use Rattle.waldo_core.specs.Legal.{IsLegal}
use Rattle.waldo_core.specs.Step.{step}
use Rattle.waldo_core.specs.declared.events.Event.{Event}
use Rattle.waldo_core.specs.declared.events.Reply.{Reply}

-- a core in which nothing was drawn is legal, and each step that an event has leads from a legal core to a legal one
abbrev pub LegalStays : Type 0
LegalStays = IsLegal empty_core
    × ((capacity : ℕ) (core next : Core) (event : Event) (pair : OpenedPair) (reply : Reply) → IsLegal core
    → step capacity core event pair ≡ Some (next, reply) → IsLegal next)
