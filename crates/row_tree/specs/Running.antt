-- Running sums: at each place of a row the sum of that cell over this row and all rows before it.
use Rattle.std.specs.Prelude.{ℕ, zero, suc, ◌+◌, ◌-◌, ◌*◌, ◌≡◌, ◌++◌, ltb, if◌then◌else◌, List, length, get_or}
use Rattle.list_facts.specs.Listed.{listed}
use Rattle.ring128.specs.Ring.{minus}

-- the sum that stands one row before place i, or 0 in the first row
abbrev pub last_of : ℕ → List ℕ → ℕ → ℕ
last_of width sums i = if ltb i width then 0 else get_or sums (i - width) 0

-- the cells of which these are the running sums: each is a sum less that of the row before
abbrev pub cell_in : ℕ → List ℕ → ℕ → ℕ
cell_in width sums i = minus (get_or sums i 0) (last_of width sums i)

abbrev pub cells_in : ℕ → List ℕ → List ℕ
cells_in width sums = listed (length sums) (cell_in width sums)

-- cell b of the sum of the first k rows
abbrev pub before_of : ℕ → List ℕ → ℕ → ℕ → ℕ
before_of width sums zero b = 0
before_of width sums (suc k) b = get_or sums (k * width + b) 0

-- a list that was appended to
abbrev pub GrownFrom : List ℕ → List ℕ → Type 0
GrownFrom old new = (more : List ℕ) × (new ≡ old ++ more)
