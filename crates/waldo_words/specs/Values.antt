-- Numbers, seeds and capacities, as the values of options say them.
use Rattle.std.specs.Prelude.{ℕ, ◌^◌, ◌&&◌, List, length, map, replicate, Option, Some, None, option_map, if◌then◌else◌, nat_lt, nat_le}
use Rattle.std.specs.Option.{option_and_then}
use Rattle.std.specs.Result.{result_ok}
use Rattle.std.specs.Str.{all_ascii_digits}
use Rattle.hex.specs.Hex.{decode_sized}
use Rattle.prg_chacha.specs.declared.seed.Seed.{Seed}
use Rattle.rand_chacha.specs.ChaCha.{key_of}
use Rattle.table_schema.specs.Widths.{fits_in}
use Rattle.table_schema.specs.declared.schema.Column.{Column}
use Rattle.text_reading.specs.Number.{number_of, value_after}

-- a step that is made where there is a value
infixl 10 ◌>>=◌
abbrev pub ◌>>=◌ : {A B : Type 0} → Option A → (A → Option B) → Option B
o >>= f = option_and_then f o

-- the number of a text, where it is from low to high
unfoldable pub number_within : ℕ → ℕ → List ℕ → Option ℕ
number_within low high text = number_of text >>= λ n. if nat_le low n && nat_le n high then Some n else None

-- the value of digits that follow those of n, where it is below 2^128
abbrev pub wide_digits_of : ℕ → List ℕ → Option ℕ
wide_digits_of n text = if all_ascii_digits text && nat_lt (value_after n text) (2 ^ 128) then Some (value_after n text) else None

-- the number that 1 to 39 digits are, where it is below 2^128; leading zeros are allowed
unfoldable pub decimal_of : List ℕ → Option ℕ
decimal_of text = if nat_le 1 (length text) && nat_le (length text) 39 then wide_digits_of 0 text else None

-- the seed of 32 bytes: four a word, the least significant first
abbrev pub seed_of_bytes : List ℕ → Seed
seed_of_bytes bytes = record { words = key_of bytes }

-- the seed of 64 hexadecimal digits in either case: two a byte, the high four bits first
unfoldable pub seed_of : List ℕ → Option Seed
seed_of text = option_map seed_of_bytes (result_ok (decode_sized text 32))

-- the seed where none is given: 32 bytes 0
abbrev pub zero_seed : Seed
zero_seed = record { words = replicate 8 0 }

-- how many bits each column has
abbrev pub bits_in : List Column → List ℕ
bits_in columns = map (λ (k : Column). k.bits) columns

-- the number of rows of a text, where a table of these columns may have room for as many
unfoldable pub capacity_of : List Column → List ℕ → Option ℕ
capacity_of columns text = number_of text >>= λ n. if fits_in (bits_in columns) n then Some n else None
