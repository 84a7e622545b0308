-- The steps of a run, three messages each, and where they stand.
use Rattle.std.specs.Prelude.{ℕ, zero, suc, ◌<◌, ◌+◌, ◌*◌, ◌-◌, ◌%◌}
use Rattle.wire_line.specs.declared.message.Peer.{Peer}
use Rattle.wire_line.specs.declared.message.Peer.TheVariants.{Client, Server0, Server1, Server2}

-- the bits of predicate j, the product with the bits of predicate j, further step e of the servers among themselves after all
-- products, the opening; predicates and further steps are numbered from 0
pub data Step : Type 0 where
  bits : ℕ → Step
  product : ℕ → Step
  further : ℕ → Step
  opening : Step

-- the steps of a run with `count` predicates and `more` further steps
abbrev pub IsStep : ℕ → ℕ → Step → Type 0
IsStep count more (bits j) = j < count
IsStep count more (product j) = (0 < j) × (j < count)
IsStep count more (further e) = (0 < count) × (e < more)
IsStep count more opening = 0 < count

-- the number of a step in its run: bits 0; bits 1, product 1; bits 2, product 2; ..; the further steps; opening
abbrev pub group_of : ℕ → ℕ → Step → ℕ
group_of count more (bits j) = 2 * j - 1
group_of count more (product j) = 2 * j
group_of count more (further e) = 2 * count - 1 + e
group_of count more opening = 2 * count - 1 + more

-- the step after which a server holds the product of the bits through predicate j
abbrev pub chain_step : ℕ → Step
chain_step zero = bits 0
chain_step (suc j) = product (suc j)

-- the step before further step e, or before the opening where there are e further steps
abbrev pub step_before : ℕ → ℕ → Step
step_before count zero = chain_step (count - 1)
step_before count (suc e) = further e

-- where the message of server k stands: after three key messages, run 0 and then run 1, each of 2 * count + more groups
abbrev pub place_of : ℕ → ℕ → ℕ → Step → ℕ → ℕ
place_of count more run step k = 3 + 3 * (2 * count * run + more * run + group_of count more step) + k

-- the counter of the first zero part of the bits and products, and of the opening of a total: each group has 65536 of its own
abbrev pub counter_of : ℕ → ℕ → Step → ℕ
counter_of count run step = (2 * count * run + group_of count 0 step) * 65536

-- the server after k, and the one before it
abbrev pub after : ℕ → ℕ
after k = (k + 1) % 3

abbrev pub before : ℕ → ℕ
before k = (k + 2) % 3

abbrev pub peer_of : ℕ → Peer
peer_of zero = Server0
peer_of (suc zero) = Server1
peer_of (suc (suc k)) = Server2

-- who receives the message of server k: the server before it, or the client
abbrev pub receiver_of : Step → ℕ → Peer
receiver_of (bits j) k = peer_of (before k)
receiver_of (product j) k = peer_of (before k)
receiver_of (further e) k = peer_of (before k)
receiver_of opening k = Client
