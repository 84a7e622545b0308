-- Three lists that add up to a list, two of them at each of three servers.
use Rattle.std.specs.Prelude.{ℕ, zero, suc, ◌≡◌, ◌<◌, ◌+◌, ◌*◌, ◌%◌, List, length, slice_index}
use Rattle.list_facts.specs.Listed.{listed}
use Rattle.prg_chacha.specs.declared.seed.Seed.{Seed}
use Rattle.prg_chacha.specs.Prg.{pad_of}
use Rattle.ring128.specs.Ring.{minus, sums3}
use Rattle.ring128.specs.Laws.{IsThree}

-- share 0, 1 or 2 of a list under a seed: two lists of pads, and what they leave of the list
abbrev pub share_of : ℕ → Seed → List ℕ → List ℕ
share_of zero s values = listed (length values) (λ i. pad_of s (2 * i))
share_of (suc zero) s values = listed (length values) (λ i. pad_of s (2 * i + 1))
share_of (suc (suc k)) s values =
    listed (length values) (λ i. minus (minus (slice_index values i) (pad_of s (2 * i))) (pad_of s (2 * i + 1)))

-- servers 0, 1 and 2 share a list: each one's second list is the next one's first, and the firsts add up to the list
pub record AreShares (first second : ℕ → List ℕ) (whole : List ℕ) : Type 0 where
  pub next : (k : ℕ) → k < 3 → second k ≡ first ((k + 1) % 3)
  pub long : IsThree (length whole) (first 0) (first 1) (first 2)
  pub adds_up : sums3 (first 0) (first 1) (first 2) ≡ whole
