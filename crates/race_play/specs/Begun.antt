-- What was carried, as far as askers came before memory ran out: the messages of the first questions, and perhaps the first messages of
-- the next one.
use Rattle.std.specs.Prelude.{◌≡◌, ℕ, suc, ◌≤◌, ◌⊎◌, ⊤, List, [], ◌∷◌, ◌++◌, length}
use Rattle.prg_chacha.specs.declared.seed.Seed.{Seed}
use Rattle.query_plan.specs.declared.query.Query.{Query}
use Rattle.report_lines.specs.declared.lines.Line.{Line}
use Rattle.table_schema.specs.declared.rows.Row.{Row}
use Rattle.table_schema.specs.declared.widths.Widths.{Widths}
use Rattle.transcript.specs.Transcript.{IsPart}
use Rattle.wire_line.specs.declared.message.Message.{Message}
use Rattle.agreed_rows.specs.Answers.{setup_over}
use Rattle.race_play.specs.Askers.{AreAsked, more_over_first}
use Rattle.race_play.specs.Questions.{Gave, Question, ends_of, first, rounds_of}
use Rattle.race_play.specs.Settings.{Setting}

-- none, or the first messages of the first of these questions, over at least `low` first rows of an order
abbrev pub IsFront : Widths → List (Row × Seed) → ℕ → List Question → List Message → Type 0
IsFront w order low [] ms = ms ≡ []
IsFront w order low (x ∷ xs) ms =
    (ms ≡ []) ⊎ ((n : ℕ) × (low ≤ n) × (n ≤ length order) × IsPart (setup_over (first w order n) x.query x.seed) ms)

-- The first of some questions were answered, in order and each over at least `low` rows, and of the next one the first messages may have
-- been carried: these are all the messages.
pub record Began (w : Widths) (order : List (Row × Seed)) (low : ℕ) (xs : List Question) (ms : List Message) : Type 0 where
  pub done : List Question
  pub rest : List Question
  pub all : xs ≡ done ++ rest
  pub said : List Line
  pub whole : List Message
  pub gave : Gave w order low done whole said
  pub front : List Message
  pub next : IsFront w order gave.high rest front
  pub messages : ms ≡ whole ++ front

-- the askers from one on: so much of each one's rounds, over one order
abbrev pub AreBegun : Widths → List Query → Seed → ℕ → List (Row × Seed) → ℕ → List (List Message) → Type 0
AreBegun w queries master rounds order asker [] = ⊤
AreBegun w queries master rounds order asker (ms ∷ sent) =
    Began w order 0 (rounds_of queries master asker rounds) ms × AreBegun w queries master rounds order (suc asker) sent

-- The messages of a race, as far as it came: there is an order of entries so that each asker's wire carried so much of its rounds; and,
-- only once all rounds were answered, the first wire so much of the last queries, each over no fewer rows than there are. An asker that
-- had not begun has no list, or an empty one.
pub record IsCarried (s : Setting) (sent : List (List Message)) : Type 0 where
  pub entries : List (Row × Seed)
  pub rounds : List (List Message)
  pub last : List Message
  pub askers : length rounds ≤ s.askers
  pub begun : AreBegun s.widths s.queries s.master s.rounds entries 0 rounds
  pub ended : Began s.widths entries (length s.rows) (ends_of s.queries s.master (length s.queries)) last
  pub behind : (last ≡ []) ⊎ ((asks : List Line) × AreAsked s.widths s.queries s.master s.rounds entries 0 rounds asks)
  pub over : sent ≡ more_over_first last rounds
