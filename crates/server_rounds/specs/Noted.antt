-- What the three servers see of the messages of a step.
use Rattle.std.specs.Prelude.{ℕ, List, [], ◌∷◌, Option, Some, None}
use Rattle.table_schema.specs.declared.shapes.Aggregate.{Aggregate}
use Rattle.table_schema.specs.declared.shapes.Aggregate.TheVariants.{Count, Sum}
use Rattle.visit_trace.specs.Seen.{AllSeen, alike, nothing}
use Rattle.visit_trace.specs.Expected.{product_part}
use Rattle.visit_trace.specs.declared.sizes.Sizes.{Sizes}
use Rattle.server_rounds.specs.declared.way.Way.{Way}
use Rattle.server_rounds.specs.declared.way.Way.TheVariants.{ToServers, Around, ToClient}

-- lengths, the lists of the three servers
abbrev pub lengths_seen : List ℕ → List ℕ → List ℕ → AllSeen
lengths_seen zero one two = record {
  zero = record { visits = []; lengths = zero };
  one = record { visits = []; lengths = one };
  two = record { visits = []; lengths = two };
}

-- of messages of these lengths each server sees its own, and where they go around that of the next server too
abbrev pub group_seen : Way → ℕ → ℕ → ℕ → AllSeen
group_seen ToServers n0 n1 n2 = lengths_seen (n0 ∷ []) (n1 ∷ []) (n2 ∷ [])
group_seen Around n0 n1 n2 = lengths_seen (n0 ∷ n1 ∷ []) (n1 ∷ n2 ∷ []) (n0 ∷ n2 ∷ [])
group_seen ToClient n0 n1 n2 = lengths_seen (n0 ∷ []) (n1 ∷ []) (n2 ∷ [])

-- a product, for which no message is carried where there is no chain yet
abbrev pub product_of : {A : Type 0} → Sizes → Option A → AllSeen
product_of z None = alike nothing
product_of z (Some chain) = product_part z

-- the last visits of the servers, where an opening visits the values
abbrev pub values_last : Aggregate → AllSeen → AllSeen
values_last Count last = alike nothing
values_last Sum last = last
