-- Comparison keys as lists of words, of which each level has four.
use Rattle.std.specs.Prelude.{ℕ, List, [], ◌∷◌, ◌++◌, slice_index}
use Rattle.key_tree.specs.Keys.{Key}
use Rattle.key_tree.specs.KeyWords as tree
use Rattle.compare_keys.specs.declared.level.CompareLevel.{CompareLevel}

-- the words of a level: those of the tree's level, and the value correction
abbrev pub level_words : CompareLevel → List ℕ
level_words l = tree.level_words l.level ++ l.value ∷ []

-- the level that a list begins with
abbrev pub level_read : List ℕ → CompareLevel
level_read ws = record { level = tree.level_read ws; value = slice_index ws 3 }

-- how many words the key of `bits` bits has
abbrev pub length_of : ℕ → ℕ
length_of = tree.length_of 4

-- the words of a key
abbrev pub words_of_key : Key CompareLevel → List ℕ
words_of_key = tree.key_words level_words

-- the key of `bits` bits that a list of words is
abbrev pub key_of_words : ℕ → List ℕ → Key CompareLevel
key_of_words = tree.key_read level_read 4

-- the control words of a list, level by level
abbrev pub controls : List ℕ → ℕ → ℕ
controls = tree.control_at 4
