-- What contracts see of a source or a sink of bytes.
use Rattle.std.specs.Prelude.{ℕ, List, Option}
use Rattle.fault_count.specs.Causes.{Rose}

-- the bytes that a source has left or that a sink has taken, where it reports them; and its count of faults
pub record ByteSight (S : Type 0) : Type 0 where
  pub bytes : S → Option (List ℕ)
  pub faults : S → ℕ

-- the count of faults rose
abbrev pub HasFailed : {S : Type 0} → ByteSight S → S → S → Type 0
HasFailed sight before after = Rose (sight.faults before) (sight.faults after)

-- a source or a sink over a call: its bytes and its count of faults, each before and after
pub record Change : Type 0 where
  pub old : Option (List ℕ)
  pub new : Option (List ℕ)
  pub before : ℕ
  pub now : ℕ

abbrev pub change : {S : Type 0} → ByteSight S → S → S → Change
change sight before after =
    record { old = sight.bytes before; new = sight.bytes after; before = sight.faults before; now = sight.faults after }
