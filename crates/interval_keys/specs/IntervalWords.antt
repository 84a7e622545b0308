-- Interval keys as lists of words: the words of the upper key and then those of the lower one.
use Rattle.std.specs.Prelude.{ℕ, ◌<◌, ⊤, ◌+◌, ◌-◌, ◌*◌, cond, nat_lt, List, ◌++◌, take, drop}
use Rattle.key_tree.specs.declared.fault.KeyFault.{KeyFault}
use Rattle.key_tree.specs.declared.fault.KeyFault.TheVariants.{Length, Bits, Memory}
use Rattle.compare_keys.specs.CompareWords as compares
use Rattle.interval_keys.specs.Keys.{Key}

-- how many words the key of `bits` bits has
abbrev pub length_of : ℕ → ℕ
length_of bits = 6 + 8 * bits

-- the words of a key
abbrev pub words_of_key : Key → List ℕ
words_of_key k = compares.words_of_key k.upper ++ compares.words_of_key k.lower

-- the key of `bits` bits that a list of words is
abbrev pub key_of_words : ℕ → List ℕ → Key
key_of_words bits ws = record {
  upper = compares.key_of_words bits (take (compares.length_of bits) ws);
  lower = compares.key_of_words bits (drop (compares.length_of bits) ws);
}

-- the control words of a list: first those of the upper key, level by level, then those of the lower one
abbrev pub controls : ℕ → List ℕ → ℕ → ℕ
controls bits ws i =
    cond (nat_lt i bits)
    (compares.controls (take (compares.length_of bits) ws) i)
    (compares.controls (drop (compares.length_of bits) ws) (i - bits))

-- a fault with its level counted after `levels` others
abbrev pub later : ℕ → KeyFault → KeyFault
later levels (Length had wanted) = Length had wanted
later levels (Bits level) = Bits (levels + level)
later levels Memory = Memory

-- the level that a fault names, if it names one, is below a number
abbrev pub IsBelow : ℕ → KeyFault → Type 0
IsBelow n (Length had wanted) = ⊤
IsBelow n (Bits level) = level < n
IsBelow n Memory = ⊤
