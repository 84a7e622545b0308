-- The bucket of a raw number, case by case.
use Rattle.std.proofs.Common.{◌≡◌, refl, ℕ, ◌-◌, ◌/◌, ◌^◌, ◌<◌, ◌≤◌, List, length, get_or, Some, None}
use Rattle.std.proofs.lemmas.Bool.{le-ltb, lt-ltb, le-leb, lt-leb}
use Rattle.std.proofs.lemmas.Option.{slice_get_read}
use Rattle.table_schema.specs.Column.{bucket_of, bucket_at}
use Rattle.table_schema.specs.declared.schema.Column.{Column}

pub bucket_read : (columns : List Column) (i raw : ℕ) (k : Column) → i < length columns → k ≡ get_or columns i k → bucket_at columns i raw ≡ bucket_of k raw
bucket_read columns i raw k lt e = rw (slice_get_read columns (length columns) i k refl lt e) refl

pub below : (k : Column) (raw : ℕ) → raw < k.start → bucket_of k raw ≡ None
below k raw h = rw (lt-leb k.start raw h) refl

pub inside : (k : Column) (raw : ℕ) → k.start ≤ raw → (raw - k.start) / k.step < 2 ^ k.bits → bucket_of k raw ≡ Some ((raw - k.start) / k.step)
inside k raw le lt = rw (le-leb k.start raw le, lt-ltb ((raw - k.start) / k.step) (2 ^ k.bits) lt) refl

pub past : (k : Column) (raw : ℕ) → k.start ≤ raw → 2 ^ k.bits ≤ (raw - k.start) / k.step → bucket_of k raw ≡ None
past k raw le ge = rw (le-leb k.start raw le, le-ltb ((raw - k.start) / k.step) (2 ^ k.bits) ge) refl
