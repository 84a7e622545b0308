-- Integers as numbers modulo 2 ^ 128, and back.
use Rattle.std.specs.Prelude.{ℕ, ℤ, pos, negsuc, ◌+◌, ◌-◌, ◌%◌, ◌^◌, nat_lt, if◌then◌else◌}
use Rattle.ring128.specs.Ring.{negative}

-- an integer modulo 2 ^ 128
abbrev pub word_of : ℤ → ℕ
word_of (pos n) = n % 2 ^ 128
word_of (negsuc n) = negative (n + 1)

-- the signed reading of a number below 2 ^ 128: itself below 2 ^ 127, and from there on itself minus 2 ^ 128
abbrev pub signed_of : ℕ → ℤ
signed_of word = if nat_lt word (2 ^ 127) then pos word else negsuc (2 ^ 128 - 1 - word)

-- the size of an integer
abbrev pub size_of : ℤ → ℕ
size_of (pos n) = n
size_of (negsuc n) = n + 1
