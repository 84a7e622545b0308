-- What askers ask, and what they are answered.
use Rattle.std.specs.Prelude.{◌≡◌, ℕ, zero, suc, ◌%◌, ◌≤◌, Option, Some, None, List, [], ◌∷◌, ◌++◌, length, take, slice_get}
use Rattle.prg_chacha.specs.Prg.{derive_of}
use Rattle.prg_chacha.specs.declared.seed.Seed.{Seed}
use Rattle.query_plan.specs.declared.query.Query.{Query}
use Rattle.report_lines.specs.declared.lines.Line.{Line}
use Rattle.report_lines.specs.declared.lines.Line.TheVariants as lines
use Rattle.report_lines.specs.declared.lines.Who.{Who}
use Rattle.report_lines.specs.declared.lines.Who.TheVariants as who
use Rattle.server_rounds.specs.declared.opened.OpenedPair.{OpenedPair}
use Rattle.table_schema.specs.declared.rows.Row.{Row}
use Rattle.table_schema.specs.declared.widths.Widths.{Widths}
use Rattle.wire_line.specs.Messages.{IsHonest}
use Rattle.wire_line.specs.declared.message.Message.{Message}
use Rattle.agreed_rows.specs.Agreed.{Entries}
use Rattle.agreed_rows.specs.Answers.{Opens, judged, plain_total}
use Rattle.race_play.specs.Lines.{answer_line}

-- a query with its seed, and whose line it gets
pub record Question : Type 0 where
  pub by : Who
  pub query : Query
  pub seed : Seed

-- the question of a query that is there
abbrev pub question_of : Option Query → (Query → Question) → List Question
question_of None make = []
question_of (Some query) make = make query ∷ []

-- a query in a round of an asker
abbrev pub in_round : Seed → ℕ → ℕ → Query → Question
in_round master asker round query = record { by = who.Round asker round; query = query; seed = derive_of master 2 asker round }

-- what an asker asks in its first rounds: the queries in turn, so query `round mod Q` of Q
abbrev pub rounds_of : List Query → Seed → ℕ → ℕ → List Question
rounds_of queries master asker zero = []
rounds_of queries master asker (suc round) =
    rounds_of queries master asker round ++ question_of (slice_get queries (round % length queries)) (in_round master asker round)

-- a query once all writers and askers have ended
abbrev pub at_end : Seed → ℕ → Query → Question
at_end master q query = record { by = who.End q; query = query; seed = derive_of master 4 0 q }

-- the first queries, once all have ended
abbrev pub ends_of : List Query → Seed → ℕ → List Question
ends_of queries master zero = []
ends_of queries master (suc q) = ends_of queries master q ++ question_of (slice_get queries q) (at_end master q)

-- what was answered to a question: over how many rows, the messages that were carried, and the pair that they opened
pub record Opening : Type 0 where
  pub rows : ℕ
  pub messages : List Message
  pub pair : OpenedPair

-- the first entries of an order
abbrev pub first : Widths → List (Row × Seed) → ℕ → Entries
first w order n = record { widths = w; all = take n order }

-- An answer over the first rows of an order: the messages are those of the query over these rows, and open the pair; the line is what the
-- check says of the pair; and where each message was received as it was sent, it is the plain answer.
pub record IsAnswer (w : Widths) (order : List (Row × Seed)) (x : Question) (t : Opening) (line : Line) : Type 0 where
  pub most : t.rows ≤ length order
  pub opens : Opens (first w order t.rows) x.query x.seed t.messages t.pair
  pub says : line ≡ answer_line x.by t.rows x.query.aggregate (judged x.query x.seed t.pair)
  pub honest : IsHonest t.messages → line ≡ lines.Answer x.by t.rows x.query.aggregate (plain_total (first w order t.rows) x.query)

-- questions were answered one after another, the first over at least `low` rows, the last over at most `high`, and none over fewer than the
-- one before
abbrev pub AreAnswers : Widths → List (Row × Seed) → ℕ → List Question → List Opening → List Line → ℕ → Type 0
AreAnswers w order low [] [] [] high = low ≤ high
AreAnswers w order low [] [] (line ∷ said) high = ⊥
AreAnswers w order low [] (t ∷ openings) said high = ⊥
AreAnswers w order low (x ∷ xs) [] said high = ⊥
AreAnswers w order low (x ∷ xs) (t ∷ openings) [] high = ⊥
AreAnswers w order low (x ∷ xs) (t ∷ openings) (line ∷ said) high =
    (low ≤ t.rows) × IsAnswer w order x t line × AreAnswers w order t.rows xs openings said high

-- all messages, in order
abbrev pub messages_of : List Opening → List Message
messages_of [] = []
messages_of (t ∷ openings) = t.messages ++ messages_of openings

-- the questions were answered by these messages and with these lines, each over at least `low` rows
pub record Gave (w : Widths) (order : List (Row × Seed)) (low : ℕ) (xs : List Question) (ms : List Message)
    (said : List Line) : Type 0 where
  pub openings : List Opening
  pub high : ℕ
  pub answers : AreAnswers w order low xs openings said high
  pub messages : ms ≡ messages_of openings
