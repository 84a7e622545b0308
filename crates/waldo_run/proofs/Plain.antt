-- Where nothing was altered the reply is the plain one.
use Rattle.std.proofs.Common.{◌≡◌, ◌∙◌, refl, ap, ℕ, List, [], ◌∷◌, length}
use Rattle.std.proofs.lemmas.Bool.{lt-ltb}
use Rattle.std.specs.Prelude.{⊤, Result, Ok, Err}
use Rattle.row_source.specs.Input.{Reading}
use Rattle.row_source.specs.Input.Reading.{Untouched, Whole, Long, Broken}
use Rattle.row_source.specs.declared.faults.RowFault.{RowFault}
use Rattle.report_lines.specs.declared.lines.Line.{Line}
use Rattle.table_schema.specs.declared.rows.Row.{Row}
use Rattle.schedule_play.specs.History.{AreHonest, Done, HasHistory}
use Rattle.schedule_play.specs.Laws.{AskedPlainly, EndsPlainly, PlainlyPlayed}
use Rattle.schedule_play.specs.Plain.{ArePlain, plain_lines, plainly}
use Rattle.schedule_play.specs.Stages.{Stage, first_stage, played}
use Rattle.schedule_play.specs.Tasks.{IsSetting, Setting, Task, asking, scheduled}
use Rattle.schedule_play.specs.declared.style.Style.TheVariants.{Queries}
use Rattle.table_schema.specs.declared.widths.Widths.{Widths}
use Rattle.waldo_words.specs.declared.command.Command.{Command}
use Rattle.waldo_words.specs.declared.command.Command.TheVariants as commands
use Rattle.waldo_words.specs.declared.faults.WordFault.{WordFault}
use Rattle.waldo_run.specs.Replies.{checked_answer, ended, lines_reply, plain_answer, range_reply, reply_over, reply_to, reported}
use Rattle.waldo_run.specs.Run.{Asked, AskedIn}
use Rattle.waldo_run.specs.Tasks.{bits_of, common_in, rows_in, rows_made, setting_of}
use Rattle.waldo_run.proofs.Grouping.{lines_plain}
use Rattle.waldo_run.specs.Trees.{HasRange, IsPlainRange}
use Rattle.waldo_run.specs.Works.{IsDone, IsPlainly, IsWork, work_over}
use Rattle.waldo_run.specs.Works.Work.{Steps, Range}

-- what holds of all wires holds without a condition
all_honest : (unaltered : ℕ → Type 0) (ds : List Done) → ((actor : ℕ) → unaltered actor) → AreHonest unaltered ds → AreHonest (λ actor. ⊤) ds
all_honest unaltered [] still honest = tt
all_honest unaltered (d ∷ ds) still honest = ((λ _. honest.0 (still _)), all_honest unaltered ds still honest.1)

-- a range whose messages were received as they were sent
range_plain : (unaltered : ℕ → Type 0) → ((actor : ℕ) → unaltered actor) → (w : Widths) (s : Setting) (low high : ℕ) (history : List Done) → HasRange w s low high history
    → AreHonest unaltered history → IsPlainRange s low high history → checked_answer history (Range s low high) ≡ plain_answer (Range s low high)
range_plain unaltered still w s low high [] done honest plain = rw (lt-ltb (length s.rows) high done) refl
range_plain unaltered still w s low high (d ∷ []) done honest plain = ap (range_reply s low high) (plain (honest.0 (still _)))
range_plain unaltered still w s low high (d ∷ e ∷ ds) done honest plain = absurd done

-- rows that are asked plainly
plain_end : (r : Result Stage ℕ) (lines : List Line) → EndsPlainly lines r → ended r ≡ record { status = 0; report = lines }
plain_end (Ok stage) lines e = rw (e.0, e.1) refl
plain_end (Err t) lines e = absurd e

asked : AskedPlainly → (s : Setting) (w : _) → IsSetting w s → ended (played (plainly s) (asking s)) ≡ plain_answer (Steps (asking s))
asked law s w legal = plain_end (played (plainly s) (asking s)) (plain_lines s.rows 0 s.queries) (law w s legal)

-- the work of a command, all of whose messages were received as they were sent
module _ (same : PlainlyPlayed) (law : AskedPlainly) (unaltered : ℕ → Type 0) (still : (actor : ℕ) → unaltered actor) (w : Widths) (history : List Done)
    (honest : AreHonest unaltered history) where
  steps_plain : (task : Task) → ended (played (plainly task.setting) task) ≡ plain_answer (Steps task) → HasHistory w task history
      → ArePlain task.setting task.style first_stage history → checked_answer history (Steps task) ≡ plain_answer (Steps task)
  steps_plain task end done plain = ap ended (same w task history done (all_honest unaltered history still honest) plain) ∙ end

  asking_plain : (s : Setting) → IsSetting w s → HasHistory w (asking s) history → ArePlain s Queries first_stage history
      → checked_answer history (Steps (asking s)) ≡ plain_answer (Steps (asking s))
  asking_plain s legal = steps_plain (asking s) (asked law s w legal)

  work_plain : (command : Command) (rows : List Row) → IsWork w (work_over command rows) → IsDone w (work_over command rows) history → IsPlainly (work_over command rows) history
      → checked_answer history (work_over command rows) ≡ plain_answer (work_over command rows)
  work_plain (commands.Ask c) rows legal done plain = asking_plain (setting_of c rows) legal done plain
  work_plain (commands.Replay c schedule) rows legal done plain = steps_plain (scheduled (setting_of c rows) schedule) refl done plain
  work_plain (commands.Race c writers askers rounds) rows legal done plain = asking_plain (setting_of c rows) legal done plain
  work_plain (commands.Make c number count) rows legal done plain = asking_plain (setting_of c rows) legal done plain
  work_plain (commands.Trace c) rows legal done plain = asking_plain (setting_of c rows) legal done plain
  work_plain (commands.Tamper c shifts) rows legal done plain = asking_plain (setting_of c rows) legal done plain
  work_plain (commands.Tree c low high) rows legal done plain = range_plain unaltered still w (setting_of c rows) low high history done honest plain
  work_plain (commands.Groups c groups) rows legal done plain =
      ap lines_reply (lines_plain unaltered still w (bits_of c) (setting_of c rows) 0 groups history done honest plain)

over_rows : PlainlyPlayed → AskedPlainly → (unaltered : ℕ → Type 0) → ((actor : ℕ) → unaltered actor) → (command : Command) (history : List Done) (rows : Result (List Row) RowFault)
    → AskedIn unaltered command history rows → reply_over (checked_answer history) command rows ≡ reply_over plain_answer command rows
over_rows same law unaltered still command history (Err fault) asked = refl
over_rows same law unaltered still command history (Ok rows) asked =
    ap (reported command rows)
    (work_plain same law unaltered still asked.widths history asked.honest command rows asked.legal asked.done asked.plain)

pub plain_reply_to : PlainlyPlayed → AskedPlainly → (unaltered : ℕ → Type 0) → ((actor : ℕ) → unaltered actor) → (command : Result Command WordFault) (history : List Done) (reading : Reading)
    → Asked unaltered command history reading → reply_to (checked_answer history) command reading ≡ reply_to plain_answer command reading
plain_reply_to same law unaltered still (Err fault) history reading asked = refl
plain_reply_to same law unaltered still (Ok command) history Untouched asked = over_rows same law unaltered still command history (Ok (rows_made command)) asked
plain_reply_to same law unaltered still (Ok command) history Broken asked = refl
plain_reply_to same law unaltered still (Ok command) history Long asked = refl
plain_reply_to same law unaltered still (Ok command) history (Whole bytes) asked = over_rows same law unaltered still command history (rows_in (common_in command) bytes) asked
