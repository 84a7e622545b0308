-- Point keys as lists of words, of which each level has three.
use Rattle.std.specs.Prelude.{ℕ, List}
use Rattle.key_tree.specs.declared.level.Level.{Level}
use Rattle.key_tree.specs.Keys.{Key}
use Rattle.key_tree.specs.KeyWords as tree

-- how many words the key of `bits` bits has
abbrev pub length_of : ℕ → ℕ
length_of = tree.length_of 3

-- the words of a key
abbrev pub words_of_key : Key Level → List ℕ
words_of_key = tree.key_words tree.level_words

-- the key of `bits` bits that a list of words is
abbrev pub key_of_words : ℕ → List ℕ → Key Level
key_of_words = tree.key_read tree.level_read 3

-- the control words of a list, level by level
abbrev pub controls : List ℕ → ℕ → ℕ
controls = tree.control_at 3
