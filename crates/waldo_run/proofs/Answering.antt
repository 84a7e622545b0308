-- The reply to what the steps of a command came to.
use Rattle.std.proofs.Common.{◌≡◌, ◌≢◌, ◌∙◌, refl, sym, ap, subst, ℕ, false, cond, List, arith}
use Rattle.std.specs.Prelude.{Result, Ok, Err, IfOk, OnErr}
use Rattle.ring128.specs.declared.memory.Memory.{Memory}
use Rattle.table_schema.specs.declared.rows.Row.{Row}
use Rattle.table_schema.specs.declared.widths.Widths.{Widths}
use Rattle.schedule_play.specs.History.{Done, HasBroken, HasHistory, opened_in}
use Rattle.schedule_play.specs.Plays.{Ended, EndsWith, Plays}
use Rattle.schedule_play.specs.Stages.{Stage, first_stage, played}
use Rattle.schedule_play.specs.Tasks.{IsSetting, Task}
use Rattle.schedule_play.specs.declared.play.PlayFault.{PlayFault}
use Rattle.schedule_play.specs.declared.play.PlayFault.TheVariants as faults
use Rattle.schedule_play.specs.declared.play.Played.{Played}
use Rattle.waldo_words.specs.declared.command.Command.{Command}
use Rattle.waldo_run.specs.Replies.{IsReplyOf, Reply, checked_answer, ended, reported, rows_reply}
use Rattle.waldo_run.specs.Run.{AskedOver, BegunOver}
use Rattle.waldo_run.specs.Tasks.{AreWidthsIn, task_over}
use Rattle.waldo_run.specs.Works.{Begins, IsDone, IsPlainly, IsWork, PlaysSteps, Work}
use Rattle.waldo_run.specs.Works.Work.{Steps}
use Rattle.waldo_run.proofs.Begun.{all_begun}
use Rattle.waldo_run.proofs.Tracing.{reported_status}

-- the steps that were done are the first ones
broken : (w : Widths) (task : Task) (history : List Done) (r : Result Played PlayFault) → Ended w task history r → HasBroken w task history
broken w task history (Ok p) e = all_begun w task.setting task.style first_stage task.steps history e.0
broken w task history (Err (faults.NotAllowed t)) e = all_begun w task.setting task.style first_stage task.steps history e.0
broken w task history (Err faults.Memory) e = e

pub begun : (command : Command) (w : Widths) (rows : List Row) (history : List Done) (r : Result Played PlayFault) → AreWidthsIn command w
    → PlaysSteps command rows → Ended w (task_over command rows) history r → (result : Result Reply Memory) → OnErr result (BegunOver command history rows)
begun command w rows history r of steps e (Ok reply) = tt
begun command w rows history r of steps e (Err memory) =
    record { widths = w; of = of; begun = subst (λ (work : Work). Begins w work history) (sym steps) (broken w (task_over command rows) history r e) }

-- what there is of a reply
record Replied (w : Widths) (task : Task) (history : List Done) (unaltered : ℕ → Type 0) (reply : Reply) : Type 0 where
  done : HasHistory w task history
  is : reply ≡ checked_answer history (Steps task)
  accepted : ((actor : ℕ) → unaltered actor) → reply.status ≢ 7

at_end : (p : Played) (r : Result Stage ℕ) → EndsWith p r → ended r ≡ record { status = cond p.altered 7 0; report = p.report }
at_end p (Ok stage) e = rw (e.0, e.1) refl
at_end p (Err t) e = absurd e

not_seven : (reply : Reply) (p : Played) → reply ≡ record { status = cond p.altered 7 0; report = p.report } → p.altered ≡ false → reply.status ≢ 7
not_seven reply p is e seven =
    let status : ◌≡◌ {A = ℕ} reply.status (cond p.altered 7 0) = ap (λ (r : Reply). r.status) is in
    let zero : ◌≡◌ {A = ℕ} (cond p.altered 7 0) 0 = rw e refl in
    omega (arith, status, zero, seven)

replied : (w : Widths) (task : Task) (history : List Done) (unaltered : ℕ → Type 0) (r : Result Played PlayFault) → Ended w task history r
    → (((actor : ℕ) → unaltered actor) → IfOk r (λ (p : Played). p.altered ≡ false)) → (reply : Reply) → IsReplyOf r reply → Replied w task history unaltered reply
replied w task history unaltered (Ok p) e accepted reply is = record {
  done = e.0;
  is = is ∙ sym (at_end p (played (opened_in history) task) e.1);
  accepted = λ still. not_seven reply p is (accepted still);
}
replied w task history unaltered (Err (faults.NotAllowed t)) e accepted reply is = record {
  done = e.0;
  is = is ∙ sym (ap ended e.1);
  accepted = λ still seven. let two : reply.status ≡ 2 = ap (λ (x : Reply). x.status) is in omega (arith, two, seven);
}
replied w task history unaltered (Err faults.Memory) e accepted reply is = absurd is

pub answered : (command : Command) (w : Widths) (rows : List Row) (carried : List Done → Type 0) (unaltered : ℕ → Type 0) (r : Result Played PlayFault) → AreWidthsIn command w
    → PlaysSteps command rows → IsSetting w (task_over command rows).setting → (p : Plays w (task_over command rows) carried unaltered r) → (first : Reply) → IsReplyOf r first
    → (result : Result Reply Memory) → IfOk result (λ (reply : Reply). reply ≡ reported command rows first)
    → IfOk result (λ (reply : Reply). AskedOver unaltered command p.history rows × (reply ≡ rows_reply (checked_answer p.history) command rows)
    × (((actor : ℕ) → unaltered actor) → reply.status ≢ 7))
answered command w rows carried unaltered r of steps legal p first from (Err memory) is = tt
answered command w rows carried unaltered r of steps legal p first from (Ok reply) is =
    let said = replied w (task_over command rows) p.history unaltered r p.ended p.accepted first from in
    let status : reply.status ≡ first.status = ap (λ (x : Reply). x.status) is ∙ reported_status command rows first in (
      record {
        widths = w;
        of = of;
        legal = subst (IsWork w) (sym steps) legal;
        done = subst (λ (work : Work). IsDone w work p.history) (sym steps) said.done;
        honest = p.honest;
        plain = subst (λ (work : Work). IsPlainly work p.history) (sym steps) p.plain;
      },
      is ∙ ap (reported command rows) (said.is ∙ ap (checked_answer p.history) (sym steps)),
      λ still seven. said.accepted still (sym status ∙ seven),
    )
