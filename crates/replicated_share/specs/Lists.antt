-- The lists of a sharing.
use Rattle.std.specs.Prelude.{ℕ, zero, suc, List}
use Rattle.replicated_share.specs.declared.three.Three.{Three}

-- list 0, 1 or 2
abbrev pub list_at : Three → ℕ → List ℕ
list_at t zero = t.x0
list_at t (suc zero) = t.x1
list_at t (suc (suc k)) = t.x2
