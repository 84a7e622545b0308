-- What the command that alters messages adds to them, and what a command's messages did to the wires.
use Rattle.std.specs.Prelude.{ℕ, ◌≡◌, ◌<◌, ⊤, false, Option, Some, None, Result, Ok, Err, List, [], ◌∷◌, length, map}
use Rattle.prg_chacha.specs.Prg.{derive_of}
use Rattle.prg_chacha.specs.declared.seed.Seed.{Seed}
use Rattle.query_plan.specs.Seeds.{weights_of}
use Rattle.query_plan.specs.Views.{key_from}
use Rattle.query_plan.specs.declared.query.Query.{Query}
use Rattle.ring128.specs.Ring.{times}
use Rattle.schedule_play.specs.History.{Done, has_answer, sent_by}
use Rattle.schedule_play.specs.Tasks.{Setting}
use Rattle.schedule_play.specs.Wires.{Carried, Unaltered}
use Rattle.waldo_words.specs.declared.command.Command.{Command}
use Rattle.waldo_words.specs.declared.command.Command.TheVariants as commands
use Rattle.waldo_words.specs.declared.faults.WordFault.{WordFault}
use Rattle.waldo_words.specs.declared.shifts.Amount.{Amount}
use Rattle.waldo_words.specs.declared.shifts.Amount.TheVariants.{Plain, TimesKey}
use Rattle.waldo_words.specs.declared.shifts.ShiftWord.{ShiftWord}
use Rattle.wire_line.specs.Messages.{Went, message_at}
use Rattle.wire_line.specs.Shifts.{all_shifted, shifted}
use Rattle.wire_line.specs.Sights.{HasAltered, Sight}
use Rattle.wire_line.specs.declared.message.Message.{Message}
use Rattle.wire_line.specs.declared.shifts.Shift.{Shift}
use Rattle.waldo_run.specs.Tasks.{setting_of}

-- a number, or a number times the key
abbrev pub amount_by : ℕ → Amount → ℕ
amount_by key (Plain amount) = amount
amount_by key (TimesKey amount) = times amount key

abbrev pub shift_by : ℕ → ShiftWord → Shift
shift_by key s = record { message = s.message; word = s.word; amount = amount_by key s.amount }

-- the key of the first query, with its seed
abbrev pub first_key : List Query → Seed → ℕ
first_key [] seed = 1
first_key (query ∷ queries) seed = key_from (weights_of seed 1) query.count

-- the shifts that words name, over a setting whose first query has the master seed's seed for 2, 0 and 0
abbrev pub shifts_over : Setting → List ShiftWord → List Shift
shifts_over s words = map (shift_by (first_key s.queries (derive_of s.master 2 0 0))) words

-- the shifts of a command that alters messages
abbrev pub shifts_of : Result Command WordFault → Option (List Shift)
shifts_of (Err fault) = None
shifts_of (Ok (commands.Ask common)) = None
shifts_of (Ok (commands.Replay common schedule)) = None
shifts_of (Ok (commands.Race common writers askers rounds)) = None
shifts_of (Ok (commands.Make common number count)) = None
shifts_of (Ok (commands.Trace common)) = None
shifts_of (Ok (commands.Tree common low high)) = None
shifts_of (Ok (commands.Groups common groups)) = None
shifts_of (Ok (commands.Tamper common words)) = Some (shifts_over (setting_of common []) words)

-- each message was received as it was sent, plus the amounts of the shifts that name it
abbrev pub AreShifted : List Shift → List Message → Type 0
AreShifted shifts ms = (i : ℕ) → i < length ms → (message_at ms i).received ≡ shifted shifts i (message_at ms i).sent

-- A wire carried other messages, and those of the history are these after the shifts; unless the wire's count rose, each of the history's
-- was received as it was sent plus the shifts. Without an answer the wire is as it was.
pub record WireShifted {W : Type 0} (sight : Sight W) (shifts : List Shift) (history : List Done) (before after : W) : Type 0 where
  pub below : List Message
  pub went : Went sight before below after
  pub these : sent_by 0 history ≡ all_shifted shifts 0 below
  pub exact : ¬ HasAltered sight before after → AreShifted shifts (sent_by 0 history)
  pub still : has_answer 0 history ≡ false → after ≡ before

-- the same of the first wire of a list; the other wires are as they were
abbrev pub FirstShifted : {W : Type 0} → Sight W → List Shift → List W → List W → List Done → Type 0
FirstShifted sight shifts [] [] history = ⊤
FirstShifted sight shifts [] (w ∷ ws) history = ⊥
FirstShifted sight shifts (v ∷ vs) [] history = ⊥
FirstShifted sight shifts (v ∷ vs) (w ∷ ws) history = WireShifted sight shifts history v w × (ws ≡ vs)

-- what steps did to the wires: each answer's messages went over its actor's; where there are shifts, they were added to what came out of
-- the first wire
abbrev pub CarriedWith : {W : Type 0} → Sight W → Option (List Shift) → List W → List W → List Done → Type 0
CarriedWith sight None before after history = Carried sight before after history
CarriedWith sight (Some shifts) before after history = FirstShifted sight shifts before after history

-- an actor's wire altered nothing; nobody says so where there are shifts
abbrev pub UnalteredWith : {W : Type 0} → Sight W → Option (List Shift) → List W → List W → ℕ → Type 0
UnalteredWith sight None before after actor = Unaltered sight before after actor
UnalteredWith sight (Some shifts) before after actor = ⊥

-- the command alters no message
abbrev pub AltersNothing : Result Command WordFault → Type 0
AltersNothing command = shifts_of command ≡ None

-- what a command's steps did to the wires, and whose wires altered nothing
abbrev pub CarriedBy : {W : Type 0} → Sight W → Result Command WordFault → List W → List W → List Done → Type 0
CarriedBy sight command before after history = CarriedWith sight (shifts_of command) before after history

abbrev pub UnalteredBy : {W : Type 0} → Sight W → Result Command WordFault → List W → List W → ℕ → Type 0
UnalteredBy sight command before after actor = UnalteredWith sight (shifts_of command) before after actor
