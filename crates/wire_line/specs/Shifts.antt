-- What a wire does that shifts words.
use Rattle.std.specs.Prelude.{ℕ, ◌≡◌, ◌+◌, ◌-◌, ◌^◌, ◌==◌, ◌&&◌, min, if◌then◌else◌, Bool}
use Rattle.std.specs.Prelude.{List, [], ◌∷◌, ◌++◌, length, map, filter, nat_eq, Some}
use Rattle.std.specs.Cmp.Lexicographic.{pointwise}
use Rattle.list_facts.specs.Listed.{listed}
use Rattle.ring128.specs.Ring.{sums, total_of}
use Rattle.wire_line.specs.declared.message.Message.{Message}
use Rattle.wire_line.specs.declared.shifts.Shift.{Shift}
use Rattle.wire_line.specs.Messages.{Went}
use Rattle.wire_line.specs.Sights.{Sight}

-- this shift names this word of this message
abbrev pub names : ℕ → ℕ → Shift → Bool
names message word s = s.message == message && s.word == word

-- what is to be added to a word: the amounts of the shifts that name it, added up
abbrev pub amount_at : List Shift → ℕ → ℕ → ℕ
amount_at shifts message word = total_of (map (λ (s : Shift). s.amount) (filter (names message word) shifts))

-- the words of a message after the shifts
abbrev pub shifted : List Shift → ℕ → List ℕ → List ℕ
shifted shifts message words = sums words (listed (length words) (amount_at shifts message))

-- messages after the shifts, the first of which has this number
abbrev pub all_shifted : List Shift → ℕ → List Message → List Message
all_shifted shifts number [] = []
all_shifted shifts number (m ∷ ms) = record m { received = shifted shifts number m.received } ∷ all_shifted shifts (number + 1) ms

-- how many messages of two lists were received otherwise, place by place
abbrev pub changes : List Message → List Message → ℕ
changes [] ns = 0
changes (m ∷ ms) [] = 0
changes (m ∷ ms) (n ∷ ns) = (if pointwise nat_eq m.received n.received then 0 else 1) + changes ms ns

-- a wire that shifts: the wire below it, its shifts, the messages that it carried, and how many of them it changed
pub record Shifting (S : Type 0) : Type 0 where
  pub inner : S
  pub shifts : List Shift
  pub messages : List Message
  pub changed : ℕ

-- messages went through a wire that shifts: others went through the wire below it, and these are those after the shifts
pub record PassesShifted {S : Type 0} (sight : Sight S) (before : Shifting S) (ms : List Message) (after : Shifting S) : Type 0 where
  pub below : List Message
  pub went : Went sight before.inner below after.inner
  pub these : ms ≡ all_shifted before.shifts (length before.messages) below
  pub kept : after.shifts ≡ before.shifts
  pub list : after.messages ≡ before.messages ++ ms
  pub count : min after.changed (2 ^ 64 - 1) ≡ min (before.changed + changes below ms) (2 ^ 64 - 1)

-- what is seen of such a wire: its own list; the count of the wire below and the messages that it changed, which stops at the end of its
-- type; and that its messages are those of the wire below after the shifts
abbrev pub sight_shifted : {S : Type 0} → Sight S → Sight (Shifting S)
sight_shifted sight = record {
  reported = λ w. Some w.messages;
  alterations = λ w. min (sight.alterations w.inner + w.changed) (2 ^ 64 - 1);
  passes = PassesShifted sight;
}
