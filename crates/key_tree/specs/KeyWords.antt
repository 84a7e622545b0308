-- Keys as lists of words, and when a list is no key.
use Rattle.std.specs.Prelude.{ℕ, ◌≡◌, ◌≢◌, ◌<◌, ◌≤◌, ◌+◌, ◌*◌, ◌/◌, ◌%◌, ◌==◌, ⊤, cond, List, [], ◌∷◌, ◌++◌, slice_index, take, drop}
use Rattle.std.specs.List.{flat_map}
use Rattle.list_facts.specs.Listed.{listed}
use Rattle.prg_chacha.specs.Prg.{low_of, high_of, from_halves_of}
use Rattle.key_tree.specs.Keys.{Key}
use Rattle.key_tree.specs.declared.level.Level.{Level}
use Rattle.key_tree.specs.declared.fault.KeyFault.{KeyFault}
use Rattle.key_tree.specs.declared.fault.KeyFault.TheVariants.{Length, Bits, Memory}

-- the control word of a level: the left bit, and twice the right one
abbrev pub control_word : Level → ℕ
control_word l = cond l.left 1 0 + cond l.right 2 0

-- the words of a level: its seed in two, and its control word
abbrev pub level_words : Level → List ℕ
level_words l = low_of l.seed ∷ high_of l.seed ∷ control_word l ∷ []

-- the level that a list begins with
abbrev pub level_read : List ℕ → Level
level_read ws = record {
  seed = from_halves_of (slice_index ws 0) (slice_index ws 1);
  left = slice_index ws 2 % 2 == 1;
  right = slice_index ws 2 / 2 % 2 == 1;
}

-- how many words a key of `bits` bits has, of which each level has `width`
abbrev pub length_of : ℕ → ℕ → ℕ
length_of width bits = 3 + width * bits

-- the words of a key: its root in two, those of each level, and the last word
abbrev pub key_words : {L : Type 0} → (L → List ℕ) → Key L → List ℕ
key_words words k = low_of k.root ∷ high_of k.root ∷ (flat_map words k.levels ++ k.last ∷ [])

-- the words of level i
abbrev pub words_at : ℕ → List ℕ → ℕ → List ℕ
words_at width ws i = take width (drop (2 + width * i) ws)

-- the first levels that a list of words has
abbrev pub levels_read : {L : Type 0} → (List ℕ → L) → ℕ → List ℕ → ℕ → List L
levels_read read width ws n = listed n (λ i. read (words_at width ws i))

-- the key of `bits` bits that a list of words is
abbrev pub key_read : {L : Type 0} → (List ℕ → L) → ℕ → ℕ → List ℕ → Key L
key_read read width bits ws = record {
  root = from_halves_of (slice_index ws 0) (slice_index ws 1);
  levels = levels_read read width ws bits;
  last = slice_index ws (2 + width * bits);
}

-- the control word of level i
abbrev pub control_at : ℕ → List ℕ → ℕ → ℕ
control_at width ws i = slice_index ws (2 + width * i + 2)

-- when each fault comes, for a list of `had` words where a key has `wanted`, and for the control words of its levels
abbrev pub HasFault : ℕ → ℕ → ℕ → (ℕ → ℕ) → KeyFault → Type 0
HasFault had wanted levels controls (Length h w) = (h ≡ had) × (w ≡ wanted) × (had ≢ wanted)
HasFault had wanted levels controls (Bits level) =
    (had ≡ wanted) × (level < levels) × (3 < controls level) × ((i : ℕ) → i < level → controls i ≤ 3)
HasFault had wanted levels controls Memory = ⊤

-- when none comes
pub record HasNoFault (had wanted levels : ℕ) (control : ℕ → ℕ) : Type 0 where
  pub length : had ≡ wanted
  pub controls : (i : ℕ) → i < levels → control i ≤ 3
