-- The logs by their servers' numbers, and what is found in them.
use Rattle.std.proofs.Common.{◌≡◌, refl, ℕ, zero, suc, ◌≤◌, arith}
use Rattle.std.specs.Prelude.{Result, Ok, Err, IfOk}
use Rattle.waldo_core.specs.Held.{log_of}
use Rattle.waldo_core.specs.declared.logs.Logs.{Logs}

pub log_two : (logs : Logs) (k : ℕ) → 2 ≤ k → log_of logs k ≡ logs.two
log_two logs zero le = absurd (omega arith)
log_two logs (suc zero) le = absurd (omega arith)
log_two logs (suc (suc k)) le = refl

-- what follows from three clauses of a result
pub all_ok : {T E : Type 0} (r : Result T E) (P Q R S : T → Type 0) → ((x : T) → P x → Q x → R x → S x) → IfOk r P → IfOk r Q → IfOk r R → IfOk r S
all_ok (Ok x) P Q R S f p q s = f x p q s
all_ok (Err e) P Q R S f p q s = tt
