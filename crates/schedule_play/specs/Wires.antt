-- What steps did to the wires: each answer's messages went over its actor's.
use Rattle.std.specs.Prelude.{ℕ, ◌≡◌, ◌+◌, ⊤, false, List, [], ◌∷◌}
use Rattle.wire_line.specs.Messages.{Went}
use Rattle.wire_line.specs.Lists.{RoseAt}
use Rattle.schedule_play.specs.History.{Done, has_answer, sent_by}
use Rattle.wire_line.specs.Sights.{Sight}

-- the wire of an actor carried the messages of its answers, and without an answer it is as it was
pub record WireWent {W : Type 0} (sight : Sight W) (history : List Done) (actor : ℕ) (before after : W) : Type 0 where
  pub went : Went sight before (sent_by actor history) after
  pub still : has_answer actor history ≡ false → after ≡ before

-- each wire of a list, the first of which is this actor's
abbrev pub WiresWent : {W : Type 0} → Sight W → List Done → ℕ → List W → List W → Type 0
WiresWent sight history actor [] [] = ⊤
WiresWent sight history actor [] (w ∷ ws) = ⊥
WiresWent sight history actor (v ∷ vs) [] = ⊥
WiresWent sight history actor (v ∷ vs) (w ∷ ws) =
    WireWent sight history actor v w × WiresWent sight history (actor + 1) vs ws

-- these steps were done over the wires of the actors from 0 on
abbrev pub Carried : {W : Type 0} → Sight W → List W → List W → List Done → Type 0
Carried sight before after history = WiresWent sight history 0 before after

-- the count of alterations of an actor's wire did not rise
abbrev pub Unaltered : {W : Type 0} → Sight W → List W → List W → ℕ → Type 0
Unaltered sight before after actor = ¬ RoseAt sight actor before after
