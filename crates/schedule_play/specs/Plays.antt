-- What a task comes to: its messages over the wires, and its lines or the first step without a case.
use Rattle.std.specs.Prelude.{ℕ, ◌≡◌, false, IfOk, Result, Ok, Err, List}
use Rattle.table_schema.specs.declared.widths.Widths.{Widths}
use Rattle.schedule_play.specs.History.{AreHonest, Done, HasBroken, HasHistory, opened_in}
use Rattle.schedule_play.specs.Plain.{ArePlain}
use Rattle.schedule_play.specs.Stages.{Stage, first_stage, played}
use Rattle.schedule_play.specs.Tasks.{Task, Setting as Seen}
use Rattle.schedule_play.specs.declared.play.PlayFault.{PlayFault}
use Rattle.schedule_play.specs.declared.play.PlayFault.TheVariants.{NotAllowed, Memory}
use Rattle.schedule_play.specs.declared.play.Played.{Played}
use Rattle.schedule_play.specs.declared.setting.Setting.{Setting}

-- a setting as it is seen
abbrev pub seen : Setting → Seen
seen s = record { rows = s.rows.now; queries = s.queries.now; master = s.master }

-- the last stage has this report, and says whether a check refused a pair
abbrev pub EndsWith : Played → Result Stage ℕ → Type 0
EndsWith p (Ok stage) = (p.report ≡ stage.lines) × (p.altered ≡ stage.altered)
EndsWith p (Err t) = ⊥

-- All steps were done and give this report; or a step has no case, the first one with this number; or, out of memory, some first
-- steps were done, the last of which may have sent just the first of its messages.
abbrev pub Ended : Widths → Task → List Done → Result Played PlayFault → Type 0
Ended w task history (Ok p) = HasHistory w task history × EndsWith p (played (opened_in history) task)
Ended w task history (Err (NotAllowed t)) = HasHistory w task history × (played (opened_in history) task ≡ Err t)
Ended w task history (Err Memory) = HasBroken w task history

-- The steps sent these messages over the wires, of which an unaltered one changed none; each answer whose messages were not changed
-- opened the plain one; this is what they came to; and where no wire was altered no check refused a pair.
pub record Plays (w : Widths) (task : Task) (carried : List Done → Type 0) (unaltered : ℕ → Type 0)
    (result : Result Played PlayFault) : Type 0 where
  pub history : List Done
  pub sent : carried history
  pub honest : AreHonest unaltered history
  pub plain : ArePlain task.setting task.style first_stage history
  pub ended : Ended w task history result
  pub accepted : ((actor : ℕ) → unaltered actor) → IfOk result (λ (p : Played). p.altered ≡ false)
