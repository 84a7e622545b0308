-- The steps of a command.
use Rattle.std.proofs.Common.{◌≡◌, ◌∙◌, sym, ap, subst, ℕ, List}
use Rattle.std.specs.Prelude.{Result}
use Rattle.table_schema.specs.declared.rows.Row.{Row}
use Rattle.table_schema.specs.declared.widths.Widths.{Widths}
use Rattle.schedule_play.specs.History.{Done}
use Rattle.schedule_play.specs.Plays.{Plays}
use Rattle.schedule_play.specs.Tasks.{Setting, Task, asking, scheduled}
use Rattle.schedule_play.specs.declared.play.PlayFault.{PlayFault}
use Rattle.schedule_play.specs.declared.play.Played.{Played}
use Rattle.waldo_words.specs.declared.command.Command.{Command}
use Rattle.waldo_words.specs.declared.command.Command.TheVariants as commands
use Rattle.waldo_words.specs.declared.command.Common.{Common}
use Rattle.waldo_words.specs.declared.schedule.Step.{Step}
use Rattle.waldo_run.specs.Tasks.{setting_of, task_over}

module _ (w v : Widths) (rows : List Row) (seen : Setting) (carried : List Done → Type 0) (unaltered : ℕ → Type 0) (r : Result Played PlayFault) (same : v ≡ w) where
  -- the same steps, over the same widths
  moved : (t u : Task) → t ≡ u → Plays v t carried unaltered r → Plays w u carried unaltered r
  moved t u e p = subst (λ (x : Task). Plays w x carried unaltered r) e (subst (λ (x : Widths). Plays x t carried unaltered r) same p)

  over : (command known : Command) (t : Task) → command ≡ known → t ≡ task_over known rows → Plays v t carried unaltered r → Plays w (task_over command rows) carried unaltered r
  over command known t is e p = subst (λ (x : Command). Plays w (task_over x rows) carried unaltered r) (sym is) (moved t (task_over known rows) e p)

  pub ask_plays : (command : Command) (common : Common) → command ≡ commands.Ask common → seen ≡ setting_of common rows
      → Plays v (asking seen) carried unaltered r → Plays w (task_over command rows) carried unaltered r
  ask_plays command common is e p = over command (commands.Ask common) (asking seen) is (ap asking e) p

  pub trace_plays : (command : Command) (common : Common) → command ≡ commands.Trace common → seen ≡ setting_of common rows
      → Plays v (asking seen) carried unaltered r → Plays w (task_over command rows) carried unaltered r
  trace_plays command common is e p = over command (commands.Trace common) (asking seen) is (ap asking e) p

  pub make_plays : (command : Command) (common : Common) (number count : ℕ) → command ≡ commands.Make common number count → seen ≡ setting_of common rows
      → Plays v (asking seen) carried unaltered r → Plays w (task_over command rows) carried unaltered r
  make_plays command common number count is e p = over command (commands.Make common number count) (asking seen) is (ap asking e) p

  pub replay_plays : (command : Command) (common : Common) (schedule steps : List Step) → command ≡ commands.Replay common schedule → seen ≡ setting_of common rows → steps ≡ schedule
      → Plays v (scheduled seen steps) carried unaltered r → Plays w (task_over command rows) carried unaltered r
  replay_plays command common schedule steps is e same_steps p =
      over command (commands.Replay common schedule) (scheduled seen steps) is
      (ap (λ (s : Setting). scheduled s steps) e ∙ ap (scheduled (setting_of common rows)) same_steps) p
