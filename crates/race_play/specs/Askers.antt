-- What askers did, each over a wire of its own.
use Rattle.std.specs.Prelude.{◌≡◌, ℕ, suc, List, [], ◌∷◌, ◌++◌}
use Rattle.prg_chacha.specs.declared.seed.Seed.{Seed}
use Rattle.query_plan.specs.declared.query.Query.{Query}
use Rattle.report_lines.specs.declared.lines.Line.{Line}
use Rattle.table_schema.specs.declared.rows.Row.{Row}
use Rattle.table_schema.specs.declared.widths.Widths.{Widths}
use Rattle.wire_line.specs.Messages.{Went}
use Rattle.wire_line.specs.Sights.{Sight}
use Rattle.wire_line.specs.declared.message.Message.{Message}
use Rattle.race_play.specs.Questions.{Gave, rounds_of}

-- the first wires carried these messages, a list each, and the other wires are as they were
abbrev pub WentEach : {W : Type 0} → Sight W → List (List Message) → List W → List W → Type 0
WentEach sight [] vs ws = ws ≡ vs
WentEach sight (ms ∷ sent) [] ws = ⊥
WentEach sight (ms ∷ sent) (v ∷ vs) [] = ⊥
WentEach sight (ms ∷ sent) (v ∷ vs) (w ∷ ws) = Went sight v ms w × WentEach sight sent vs ws

abbrev pub CarriedEach : {W : Type 0} → Sight W → List W → List W → List (List Message) → Type 0
CarriedEach sight before after sent = WentEach sight sent before after

-- the askers from one on: the messages of each one's rounds over an order, and their lines, those of one asker after those of another
abbrev pub AreAsked : Widths → List Query → Seed → ℕ → List (Row × Seed) → ℕ → List (List Message) → List Line → Type 0
AreAsked w queries master rounds order asker [] said = said ≡ []
AreAsked w queries master rounds order asker (ms ∷ sent) said =
    (own : List Line) × (more : List Line) × (said ≡ own ++ more) × Gave w order 0 (rounds_of queries master asker rounds) ms own
    × AreAsked w queries master rounds order (suc asker) sent more

-- more messages over the first wire
abbrev pub more_over_first : List Message → List (List Message) → List (List Message)
more_over_first ms [] = []
more_over_first ms (first ∷ sent) = (first ++ ms) ∷ sent
