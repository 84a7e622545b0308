-- What the text of a shift means.
use Rattle.std.specs.Prelude.{ℕ, List, Option, Some, None, option_map, if◌then◌else◌, codes}
use Rattle.std.specs.Str.{bytes_eq}
use Rattle.text_reading.specs.Cut.{cut_at}
use Rattle.waldo_words.specs.Values.{◌>>=◌, number_within, decimal_of}
use Rattle.waldo_words.specs.declared.shifts.Amount.{Amount}
use Rattle.waldo_words.specs.declared.shifts.Amount.TheVariants.{Plain, TimesKey}
use Rattle.waldo_words.specs.declared.shifts.ShiftWord.{ShiftWord}

-- what stands before the first `*`, and after it: a decimal, or `key` and a decimal
abbrev pub amount_of_sides : List ℕ × Option (List ℕ) → Option Amount
amount_of_sides (digits, None) = option_map Plain (decimal_of digits)
amount_of_sides (front, Some digits) = if bytes_eq front (codes "key") then option_map TimesKey (decimal_of digits) else None

unfoldable pub amount_of : List ℕ → Option Amount
amount_of text = amount_of_sides (cut_at 42 text)

-- a message, a word of it and an amount, with colons between them. No amount has a colon
unfoldable pub shift_of : List ℕ → Option ShiftWord
shift_of text =
    (cut_at 58 text).1 >>= λ rest.
    (cut_at 58 rest).1 >>= λ last.
    number_within 0 50 (cut_at 58 text).0 >>= λ message.
    number_within 0 65535 (cut_at 58 rest).0 >>= λ word.
    amount_of last >>= λ amount.
    Some (record { message = message; word = word; amount = amount })
