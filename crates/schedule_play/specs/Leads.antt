-- What some steps did from one stage on: all of them, up to another stage, or those before the first that was not done.
use Rattle.std.specs.Prelude.{ℕ, ◌≡◌, ◌+◌, ◌<◌, IsSomeAnd, List, [], ◌∷◌, length}
use Rattle.table_schema.specs.declared.widths.Widths.{Widths}
use Rattle.waldo_words.specs.declared.schedule.Step.{Step}
use Rattle.schedule_play.specs.History.{AreHonest, Breaks, Done, IsCarried, IsHistory}
use Rattle.schedule_play.specs.Plain.{ArePlain}
use Rattle.schedule_play.specs.Stages.{Stage, next_stage}
use Rattle.schedule_play.specs.Tasks.{Setting}
use Rattle.schedule_play.specs.Wires.{Carried, Unaltered}
use Rattle.schedule_play.specs.declared.play.PlayFault.{PlayFault}
use Rattle.schedule_play.specs.declared.play.PlayFault.TheVariants.{NotAllowed, Memory}
use Rattle.schedule_play.specs.declared.style.Style.{Style}
use Rattle.wire_line.specs.Sights.{Sight}

-- all steps were done, with their messages, and they lead from one stage to another
abbrev pub Advances : Widths → Setting → Style → Stage → List Step → List Done → Stage → Type 0
Advances w s style stage [] [] end = end ≡ stage
Advances w s style stage [] (d ∷ ds) end = ⊥
Advances w s style stage (x ∷ xs) [] end = ⊥
Advances w s style stage (x ∷ xs) (d ∷ ds) end =
    (d.step ≡ x) × IsCarried w s stage d
    × IsSomeAnd (next_stage s style stage x d.pair) (λ (next : Stage). Advances w s style next xs ds end)

-- the steps were done over these wires; an unaltered one changed no message; where none was altered, no check refused a pair
pub record Leads {W : Type 0} (sight : Sight W)
    (w : Widths) (s : Setting) (style : Style) (stage : Stage) (before : List W) (xs : List Step) (end : Stage)
    (after : List W) : Type 0 where
  pub history : List Done
  pub sent : Carried sight before after history
  pub honest : AreHonest (Unaltered sight before after) history
  pub plain : ArePlain s style stage history
  pub advances : Advances w s style stage xs history end
  pub calm : ((actor : ℕ) → Unaltered sight before after actor) → end.altered ≡ stage.altered

-- the first step without a case, by its number, where the first one has number t; or some first steps, and then it was out of memory
abbrev pub EndsAt : Widths → Setting → Style → ℕ → Stage → List Step → List Done → PlayFault → Type 0
EndsAt w s style t stage xs history (NotAllowed index) = IsHistory w s style stage xs history × (length history < length xs)
    × (index ≡ t + length history)
EndsAt w s style t stage xs history Memory = Breaks w s style stage xs history

-- not all of the steps were done
pub record Stops {W : Type 0} (sight : Sight W)
    (w : Widths) (s : Setting) (style : Style) (t : ℕ) (stage : Stage) (before : List W) (xs : List Step) (after : List W)
    (fault : PlayFault) : Type 0 where
  pub history : List Done
  pub sent : Carried sight before after history
  pub honest : AreHonest (Unaltered sight before after) history
  pub plain : ArePlain s style stage history
  pub ends : EndsAt w s style t stage xs history fault
