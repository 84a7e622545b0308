-- A journal: what was done to a server's places, in that order. An entry below 65,536 is a place that was put there; one of 4,294,967,296 + s
-- is a mark: the places below s were retired.
use Rattle.std.specs.Prelude.{◌≡◌, ℕ, zero, suc, ◌+◌, ◌-◌, ◌*◌, ◌/◌, ◌%◌, ◌<◌, ◌≤◌, ◌⊎◌, ⊤, Bool, true, false, if◌then◌else◌}
use Rattle.std.specs.Prelude.{List, [], ◌∷◌, ◌++◌, length, min, nat_le, nat_lt}
use Rattle.list_facts.specs.Count.{has}

-- n is the prefix of a journal, the largest number such that each place below it is there: each is, and n is not
pub record IsPrefixOf (journal : List ℕ) (n : ℕ) : Type 0 where
  pub below : (place : ℕ) → place < n → has place journal ≡ true
  pub next : has n journal ≡ false

-- the first number from n on that is not in the journal, where the first argument says how many are tried
abbrev pub gap_from : ℕ → ℕ → List ℕ → ℕ
gap_from zero n journal = n
gap_from (suc more) n journal = if has n journal then gap_from more (n + 1) journal else n

-- the prefix of a journal, the first number that is not in it; as its places are apart it is at most the journal's length
abbrev pub prefix : List ℕ → ℕ
prefix journal = gap_from (length journal) 0 journal

-- the prefix is the largest number such that each place below it is there
abbrev pub PrefixIsLargest : Type 0
PrefixIsLargest = (journal : List ℕ) → IsPrefixOf journal (prefix journal)

-- ---- marks

-- the mark of a start
abbrev pub mark_of : ℕ → ℕ
mark_of start = 4294967296 + start

-- the start after one more entry
abbrev pub start_after : ℕ → ℕ → ℕ
start_after before entry = if nat_le 4294967296 entry then entry - 4294967296 else before

abbrev pub start_from : ℕ → List ℕ → ℕ
start_from before [] = before
start_from before (entry ∷ rest) = start_from (start_after before entry) rest

-- the start of a journal: that of its last mark, or 0
abbrev pub start : List ℕ → ℕ
start journal = start_from 0 journal

-- whether a place is there and not retired
abbrev pub is_kept : ℕ → List ℕ → Bool
is_kept place journal = if nat_lt place (start journal) then false else has place journal

-- the start that a retirement of the places below a number comes to: whole chunks of 64 places, and none from the prefix on
abbrev pub start_for : ℕ → List ℕ → ℕ
start_for before journal = 64 * (min before (prefix journal) / 64)

-- the journal after a place was put there, unless it is there already
abbrev pub with_place : ℕ → List ℕ → List ℕ
with_place place journal = if has place journal then journal else journal ++ place ∷ []

-- the journal after the places below a number were retired: where the start rises, its mark stands at the end
abbrev pub with_mark : ℕ → List ℕ → List ℕ
with_mark before journal = if nat_lt (start journal) (start_for before journal) then journal ++ mark_of (start_for before journal) ∷ [] else journal

-- ---- legal journals

-- a place that may stand behind some entries: one below the capacity that is not there yet
pub record IsNewPlace (capacity : ℕ) (before : List ℕ) (place : ℕ) : Type 0 where
  pub below : place < capacity
  pub new : has place before ≡ false

-- a mark that may: that of whole chunks, above the start before it and at most the prefix before it
pub record IsNewMark (before : List ℕ) (entry : ℕ) : Type 0 where
  pub start_at : ℕ
  pub mark : entry ≡ mark_of start_at
  pub whole : start_at % 64 ≡ 0
  pub above : start before < start_at
  pub within : start_at ≤ prefix before

-- each of some more entries is a place or a mark that may stand behind those before it
abbrev pub GoesOn : ℕ → List ℕ → List ℕ → Type 0
GoesOn capacity before [] = ⊤
GoesOn capacity before (entry ∷ rest) = (IsNewPlace capacity before entry ⊎ IsNewMark before entry) × GoesOn capacity (before ++ entry ∷ []) rest

-- a journal of a server with this many places: each place is there once, and the start rises with each mark
abbrev pub IsJournal : ℕ → List ℕ → Type 0
IsJournal capacity journal = GoesOn capacity [] journal

-- there are places below the capacity alone
abbrev pub HasNoMark : ℕ → List ℕ → Type 0
HasNoMark capacity journal = (entry : ℕ) → has entry journal ≡ true → entry < capacity
