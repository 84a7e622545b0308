-- What contracts see of a wire.
use Rattle.std.specs.Prelude.{ℕ, List, [], ◌++◌, Option}
use Rattle.fault_count.specs.Causes.{Rose}
use Rattle.wire_line.specs.declared.message.Message.{Message}

-- the messages that a wire has carried, where it reports them; its count of alterations; and what wires of its kind say besides: of a
-- wire, messages that it then carried, and the wire after them
pub record Sight (S : Type 0) : Type 1 where
  pub reported : S → Option (List Message)
  pub alterations : S → ℕ
  pub passes : S → List Message → S → Type 0

-- the count of alterations rose
abbrev pub HasAltered : {S : Type 0} → Sight S → S → S → Type 0
HasAltered sight before after = Rose (sight.alterations before) (sight.alterations after)

-- no message leaves nothing to be said
abbrev pub NonePasses : {S : Type 0} → Sight S → Type 0
NonePasses {S = S} sight = (s : S) → sight.passes s [] s

-- what was carried in two calls was carried in one go
abbrev pub BothPass : {S : Type 0} → Sight S → Type 0
BothPass {S = S} sight = (s t u : S) (ms ns : List Message) → sight.passes s ms t → sight.passes t ns u → sight.passes s (ms ++ ns) u
