-- What is kept between two steps.
use Rattle.std.specs.Prelude.{ℕ, ◌≡◌, ◌≤◌, Bool, true, false, length, slice_index_or}
use Rattle.table_schema.specs.declared.widths.Widths.{Widths}
use Rattle.waldo_core.specs.declared.events.Reply.{Reply}
use Rattle.waldo_core.specs.declared.events.Reply.TheVariants as replies
use Rattle.schedule_play.specs.Stages.{Stage}
use Rattle.schedule_play.specs.Tasks.{Setting, room_of}
use Rattle.schedule_play.specs.declared.progress.Progress.{Progress}

-- the stage that was reached
abbrev pub stage_of : Progress → Stage
stage_of p = record { core = p.machine.core; rounds = p.rounds; lines = p.report; altered = p.altered }

-- the machine is of these widths, has room for all rows and has 16 actors; the rows that were drawn are counted; and they are no more
-- than the steps that were done, as are each actor's `ask` lines
pub record IsReady (w : Widths) (s : Setting) (p : Progress) : Type 0 where
  pub widths : p.machine.widths ≡ w
  pub capacity : p.machine.capacity ≡ room_of s
  pub actors : length p.machine.core.actors ≡ 16
  pub drawn : p.drawn ≡ length p.machine.core.order
  pub few : p.drawn ≤ p.done
  pub rounds : (actor : ℕ) → slice_index_or p.rounds actor 0 ≤ p.done

-- the replies of a draw
abbrev pub is_drawn : Reply → Bool
is_drawn (replies.Drew place) = true
is_drawn (replies.Full capacity) = false
is_drawn replies.Placed = false
is_drawn (replies.Looked prefix) = false
is_drawn (replies.Fixed prefix) = false
is_drawn (replies.Agreed rows) = false
is_drawn (replies.Again server had floor) = false
is_drawn (replies.Answered rows total) = false
is_drawn (replies.Altered rows total weighted) = false
