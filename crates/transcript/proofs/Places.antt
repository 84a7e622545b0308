-- Where messages stand.
use Rattle.std.proofs.Common.{◌≡◌, ℕ, zero, suc, ◌+◌, ◌*◌, ◌-◌, ◌<◌, ◌≤◌, refl, arith, ap, ◌∙◌}
use Rattle.transcript.specs.Steps.{Step, bits, product, further, opening, IsStep, group_of, place_of, chain_step, step_before}

pub group_within : (count more : ℕ) (step : Step) → IsStep count more step → group_of count more step < 2 * count + more
group_within count more (bits j) h = omega arith
group_within count more (product j) h = omega arith
group_within count more (further e) h = omega arith
group_within count more opening h = omega arith

pub place_within : (count more run : ℕ) (step : Step) (k : ℕ) → run < 2 → IsStep count more step → k < 3 → place_of count more run step k < 3 + 12 * count + 6 * more
place_within count more zero step k r h b = omega (arith, group_within count more step h)
place_within count more (suc zero) step k r h b = omega (arith, group_within count more step h)
place_within count more (suc (suc run)) step k r h b = omega arith

pub IsStep-chain : (count more j : ℕ) → j < count → IsStep count more (chain_step j)
IsStep-chain count more zero h = h
IsStep-chain count more (suc j) h = (omega arith, h)

pub group-chain : (count more j : ℕ) → group_of count more (chain_step j) ≡ 2 * j
group-chain count more zero = refl
group-chain count more (suc j) = refl

-- the step before a further step, or before the opening
pub IsStep-before : (count more e : ℕ) → 0 < count → e ≤ more → IsStep count more (step_before count e)
IsStep-before count more zero some h = IsStep-chain count more (count - 1) (omega arith)
IsStep-before count more (suc e) some h = (some, omega arith)

pub group-before : (count more e : ℕ) → 0 < count → group_of count more (step_before count e) + 1 ≡ 2 * count - 1 + e
group-before count more zero some = omega (arith, group-chain count more (count - 1))
group-before count more (suc e) some = omega arith
