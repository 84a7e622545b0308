-- Buckets of columns that there are, and of columns past them.
use Rattle.std.proofs.Common.{◌≡◌, ◌∙◌, sym, inl, inr, ℕ, ◌*◌, ◌%◌, ◌^◌, ◌<◌, ◌≤◌, get_or, arith}
use Rattle.std.proofs.lemmas.List.{get_or-take, get_or_past, length-take}
use Rattle.std.proofs.lemmas.Nat.{mod_below, one_shl, pow_pos}
use Rattle.std.proofs.lemmas.Bool.{cases_lt}
use Rattle.std.proofs.Math.Pow.{pow_mono}
use Rattle.table_schema.specs.Widths.{column_bits}
use Rattle.table_schema.specs.declared.widths.Widths.{Widths}

pub small : (w : Widths) (c : ℕ) → get_or w.bits c 0 ≤ 8
small w c = elim (cases_lt c w.columns) [
  | inl there ↦ (w.legal.2 c there).1
  | inr past ↦ omega (arith, w.legal.3 c past)
]

pub same_bits : (w : Widths) (c : ℕ) → get_or (column_bits w) c 0 ≡ get_or w.bits c 0
same_bits w c = elim (cases_lt c w.columns) [
  | inl there ↦ get_or-take w.columns w.bits c 0 there
  | inr past ↦ get_or_past (column_bits w) c 0 (omega (arith, length-take w.columns w.bits, past)) ∙ sym (w.legal.3 c past)
]

-- the number of buckets of a column, as the code has it
pub shifted : (w : Widths) (c : ℕ) → (1 * 2 ^ get_or w.bits c 0) % 2 ^ 64 ≡ 2 ^ get_or w.bits c 0
shifted w c = one_shl (get_or w.bits c 0) 64 (omega (arith, small w c))

pub below : (w : Widths) (c n : ℕ) → n % 2 ^ get_or w.bits c 0 < 2 ^ get_or w.bits c 0
below w c n = mod_below n (2 ^ get_or w.bits c 0) (pow_pos (get_or w.bits c 0))

pub narrow : (w : Widths) (c n : ℕ) → n % 2 ^ get_or w.bits c 0 < 256
narrow w c n = let p : 2 ^ get_or w.bits c 0 ≤ 2 ^ 8 = pow_mono (small w c) in omega (arith, below w c n, p)
