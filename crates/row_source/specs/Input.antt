-- How an input is met, and what each answer of a reader says of its source.
use Rattle.std.specs.Prelude.{◌≡◌, ℕ, ◌+◌, ◌≤◌, List, length}
use Rattle.std.specs.Io.KnownBytes.{Keeps, Consumes, IsAtEnd}
use Rattle.fault_count.specs.Causes.{Rose}
use Rattle.fault_count.specs.Streams.{Change}
use Rattle.row_source.specs.declared.input.ReadFault.{ReadFault}
use Rattle.row_source.specs.declared.input.ReadFault.TheVariants.{Failed, TooLong, Memory}

-- the most bytes of an input
abbrev pub most_bytes : ℕ
most_bytes = 16777216

-- how an input was met: nothing was read, all its bytes were read, it was too long, or a read failed
pub data Reading : Type 0 where
  Untouched : Reading
  Whole : List ℕ → Reading
  Long : Reading
  Broken : Reading

-- what each of these says of a source that is read up to a limit
abbrev pub Reads : ℕ → Reading → Change → Type 0
Reads limit Untouched c = Keeps c.old c.new × (c.now ≡ c.before)
Reads limit (Whole bytes) c = (length bytes ≤ limit) × Consumes c.old c.new bytes × IsAtEnd c.new × (c.now ≡ c.before)
Reads limit Long c = (bytes : List ℕ) × (length bytes ≡ limit + 1) × Consumes c.old c.new bytes × (c.now ≡ c.before)
Reads limit Broken c = Rose c.before c.now

-- what a fault of reading says of the source
abbrev pub HasReadFault : ℕ → ReadFault → Change → Type 0
HasReadFault limit Failed c = Reads limit Broken c
HasReadFault limit TooLong c = Reads limit Long c
HasReadFault limit Memory c = c.now ≡ c.before
