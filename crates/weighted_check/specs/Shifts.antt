-- What alterations did to the two totals that are opened.
use Rattle.std.specs.Prelude.{ℕ, ℤ}
use Rattle.ring128.specs.Ring.{plus, minus, times}
use Rattle.ring128.specs.Signed.{word_of}
use Rattle.weighted_check.specs.Check.{Accepts}

-- by how much the opened total is off: it, minus the plain total
abbrev pub total_shift : ℕ → ℤ → ℕ
total_shift total plain = minus total (word_of plain)

-- by how much the opened weighted total is off: it, minus the key times the plain total
abbrev pub weighted_shift : ℕ → ℕ → ℤ → ℕ
weighted_shift weighted key plain = minus weighted (times key (word_of plain))

-- the total that is opened where a plain one is shifted
abbrev pub shifted_total : ℤ → ℕ → ℕ
shifted_total plain d = plus (word_of plain) d

-- the weighted total that is opened where the key times a plain total is shifted
abbrev pub shifted_weighted : ℕ → ℤ → ℕ → ℕ
shifted_weighted key plain e = plus (times key (word_of plain)) e

-- the check accepts the pair that is opened where the total is shifted by d and the weighted total by e
abbrev pub Passes : ℤ → ℕ → ℕ → ℕ → Type 0
Passes plain d e key = Accepts (shifted_total plain d) (shifted_weighted key plain e) key
