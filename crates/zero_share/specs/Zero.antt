-- Parts of zero.
use Rattle.std.specs.Prelude.{ℕ, ◌+◌, List}
use Rattle.list_facts.specs.Listed.{listed}
use Rattle.prg_chacha.specs.declared.seed.Seed.{Seed}
use Rattle.prg_chacha.specs.Prg.{pad_of}
use Rattle.ring128.specs.Ring.{minus}

-- the part at a counter of a server with its own seed and the next server's
abbrev pub part_of : Seed → Seed → ℕ → ℕ
part_of own next c = minus (pad_of own c) (pad_of next c)

-- the parts at `n` counters from `start` on
abbrev pub parts_of : Seed → Seed → ℕ → ℕ → List ℕ
parts_of own next start n = listed n (λ i. part_of own next (start + i))
