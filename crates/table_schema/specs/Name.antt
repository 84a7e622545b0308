-- The names of columns.
use Rattle.std.specs.Prelude.{ℕ, ◌&&◌, ◌||◌, ◌==◌, not, Bool, false, List, [], ◌∷◌, length, nat_le, codes}
use Rattle.std.specs.List.{list_all}
use Rattle.std.specs.Str.{bytes_eq}
use Rattle.std.specs.Char.{is_ascii_digit, is_ascii_lowercase}

-- a byte that may follow the first of a name: a small letter, a digit or an underscore
abbrev pub is_word : ℕ → Bool
is_word b = is_ascii_lowercase b || is_ascii_digit b || (b == 95)

-- 1 to 16 bytes, a small letter first, then small letters, digits and underscores, and not `value`
unfoldable pub is_name : List ℕ → Bool
is_name [] = false
is_name (b ∷ bs) = is_ascii_lowercase b && list_all is_word bs && nat_le (length bs) 15 && not (bytes_eq (b ∷ bs) (codes "value"))
