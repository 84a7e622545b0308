-- What a run says of each status.
use Rattle.std.proofs.lemmas.Bool.{ltb-true}
use Rattle.std.proofs.Common.{rules, ◌≡◌, ◌≢◌, ◌<◌, ◌⊎◌, inl, inr, ℕ, ℤ, zero, suc, Bool, true, false, cond, ltb, length, List, refl, sym, ◌∙◌, subst, arith}
use Rattle.std.specs.Prelude.{⊤, Option, None, Some, Result, Ok, Err, IfSome, IsErr}
use Rattle.std.specs.List.{list_any}
use Rattle.race_play.specs.Reports.{is_altered}
use Rattle.fault_count.specs.Causes.{Rose}
use Rattle.row_source.specs.Input.{Reading, Reads, most_bytes}
use Rattle.row_source.specs.Input.Reading.{Untouched, Whole, Long, Broken}
use Rattle.row_source.specs.declared.faults.RowFault.{RowFault}
use Rattle.row_source.specs.declared.faults.RowFault.TheVariants as row
use Rattle.report_lines.specs.declared.lines.Line.{Line}
use Rattle.report_lines.specs.declared.lines.Line.TheVariants as lines
use Rattle.table_schema.specs.declared.rows.Row.{Row}
use Rattle.schedule_play.specs.History.{Done, opened_in, pair_at}
use Rattle.schedule_play.specs.Laws.{AskedInOrder, AskedPlainly, EndsInLines, PlainlyPlayed, asked_lines, pair_of_query}
use Rattle.schedule_play.specs.Stages.{Stage, played}
use Rattle.schedule_play.specs.Tasks.{IsSetting, Setting, asking}
use Rattle.waldo_words.specs.declared.command.Command.{Command}
use Rattle.waldo_words.specs.declared.command.Command.TheVariants as commands
use Rattle.waldo_words.specs.declared.faults.WordFault.{WordFault}
use Rattle.waldo_words.specs.declared.faults.WordFault.TheVariants as faults
use Rattle.waldo_run.specs.Replies.{Answering, Reply, Suits, after_failed_put, checked_answer, ended, plain_answer, range_line, range_reply, reply_over, reply_to, single}
use Rattle.waldo_run.specs.Run.{Asked, AskedIn, HasSchedule, IsRefusedBy, LacksRows, Puts, Refuses, RefusesInput, Replies, Runs, plain_reply}
use Rattle.waldo_run.specs.Buckets.{checked_lines}
use Rattle.waldo_run.specs.Tasks.{bits_of, common_in, rows_in, rows_made, setting_of, task_over}
use Rattle.waldo_run.specs.Trees.{judged_in}
use Rattle.waldo_run.specs.Works.{IsWork, work_over}
use Rattle.waldo_run.specs.Works.Work.{Steps}
use Rattle.waldo_run.proofs.Plain.{plain_reply_to}
use Rattle.waldo_run.proofs.Reported.{long_reported, over_reported, whole_reported}
use Rattle.waldo_run.proofs.Tracing.{reported_status}
use Rattle.weighted_check.specs.declared.Altered.{Altered}
use Rattle.fault_count.specs.Streams.{Change}

kept : (n v : ℕ) → v ≢ 4 → v ≡ after_failed_put n → v ≡ n
kept zero v other e = absurd (other e)
kept (suc n) v other e = e

-- any status but 4 is the reply's
pub own_status : (reply : Reply) (sink : Change) (v : ℕ) → v ≢ 4 → Puts reply sink v → v ≡ reply.status
own_status reply sink v other puts = elim puts [ inl p ↦ p.0 | inr p ↦ kept reply.status v other p.0 ]

-- what a status says of a reply to rows: 2 only for a schedule, 5 only for rows that have a fault, and none of 3 and 4
record OfRows (scheduled refused : Type 0) (status : ℕ) : Type 0 where
  two : status ≡ 2 → scheduled
  three : status ≢ 3
  four : status ≢ 4
  five : status ≡ 5 → refused

by_altered : (scheduled refused : Type 0) (altered : Bool) → OfRows scheduled refused (cond altered 7 0)
by_altered scheduled refused true = record { two = λ e. absurd (omega (arith, e)); three = omega arith; four = omega arith; five = λ e. absurd (omega (arith, e)) }
by_altered scheduled refused false = record { two = λ e. absurd (omega (arith, e)); three = omega arith; four = omega arith; five = λ e. absurd (omega (arith, e)) }

ended_status : (scheduled refused : Type 0) (r : Result Stage ℕ) → ((t : ℕ) → r ≡ Err t → scheduled) → OfRows scheduled refused (ended r).status
ended_status scheduled refused (Ok stage) f = by_altered scheduled refused stage.altered
ended_status scheduled refused (Err t) f = record { two = λ e. f t refl; three = omega arith; four = omega arith; five = λ e. absurd (omega (arith, e)) }

-- rows that are asked have no step without a case
never : (report : List Line) (r : Result Stage ℕ) (t : ℕ) → EndsInLines report r → r ≡ Err t → ⊥
never report (Ok stage) t e f = cc
never report (Err u) t e f = e

asking_status : AskedInOrder → (refused : Type 0) (w : _) (s : Setting) (history : List Done) → IsSetting w s → OfRows ⊥ refused (checked_answer history (Steps (asking s))).status
asking_status order refused w s history legal =
    ended_status ⊥ refused (played (opened_in history) (asking s))
    (λ t e. never (asked_lines s (pair_of_query s history) 0 s.queries) (played (opened_in history) (asking s)) t (order w s history legal) e)

five_status : (scheduled refused : Type 0) → refused → OfRows scheduled refused 5
five_status scheduled refused r = record { two = λ e. absurd (omega (arith, e)); three = omega arith; four = omega arith; five = λ _. r }

-- a range
line_status : (refused : Type 0) (low high : ℕ) (said : Result ℤ Altered) → OfRows ⊥ refused (range_line low high said).status
line_status refused low high (Ok total) = by_altered ⊥ refused false
line_status refused low high (Err pair) = by_altered ⊥ refused true

range_status : (s : Setting) (low high : ℕ) (said : Result ℤ Altered) → OfRows ⊥ (length s.rows < high) (range_reply s low high said).status
range_status s low high said = by (ltb (length s.rows) high) refl
  where
    by : (t : Bool) → ltb (length s.rows) high ≡ t → OfRows ⊥ (length s.rows < high) (cond t (single 5 (lines.TooFew high)) (range_line low high said)).status
    by true e = five_status ⊥ _ (ltb-true (length s.rows) high e)
    by false e = line_status _ low high said

work_status : AskedInOrder → (command : Command) (history : List Done) (rows : List Row) (w : _) → IsWork w (work_over command rows)
    → OfRows (HasSchedule (Ok command)) (LacksRows command rows) (checked_answer history (work_over command rows)).status
work_status order (commands.Ask c) history rows w legal = asking_status order ⊥ w (setting_of c rows) history legal
work_status order (commands.Replay c schedule) history rows w legal = ended_status ⊤ ⊥ (played (opened_in history) (task_over (commands.Replay c schedule) rows)) (λ t e. tt)
work_status order (commands.Race c writers askers rounds) history rows w legal = asking_status order ⊥ w (setting_of c rows) history legal
work_status order (commands.Make c number count) history rows w legal = asking_status order ⊥ w (setting_of c rows) history legal
work_status order (commands.Trace c) history rows w legal = asking_status order ⊥ w (setting_of c rows) history legal
work_status order (commands.Tamper c shifts) history rows w legal = asking_status order ⊥ w (setting_of c rows) history legal
work_status order (commands.Tree c low high) history rows w legal = range_status (setting_of c rows) low high (judged_in (setting_of c rows) (pair_at history 0))
work_status order (commands.Groups c groups) history rows w legal = by_altered ⊥ ⊥ (list_any is_altered (checked_lines (bits_of c) (setting_of c rows) 0 groups history))

rows_status : AskedInOrder → (unaltered : ℕ → Type 0) (command : Command) (history : List Done) (rows : Result (List Row) RowFault) → AskedIn unaltered command history rows
    → OfRows (HasSchedule (Ok command)) (IsRefusedBy command rows) (reply_over (checked_answer history) command rows).status
rows_status order unaltered command history (Ok rows) asked =
    subst (OfRows (HasSchedule (Ok command)) (LacksRows command rows)) (sym (reported_status command rows (checked_answer history (work_over command rows))))
    (work_status order command history rows asked.widths asked.legal)
rows_status order unaltered command history (Err row.Header) asked = five_status _ _ (λ e. cc)
rows_status order unaltered command history (Err (row.BadRecord number why)) asked = five_status _ _ (λ e. cc)
rows_status order unaltered command history (Err (row.TooMany capacity)) asked = five_status _ _ (λ e. cc)
rows_status order unaltered command history (Err row.Memory) asked =
    record { two = λ e. absurd (omega (arith, e)); three = omega arith; four = omega arith; five = λ e. absurd (omega (arith, e)) }

-- an input without rows, or with too few
abbrev Faulty : Command → Reading → Type 0
Faulty command Untouched = LacksRows command (rows_made command)
Faulty command (Whole bytes) = RefusesInput command bytes
Faulty command Long = ⊤
Faulty command Broken = ⊥

-- what a status says of an accepted command and of how its input was met
record Known (command : Command) (reading : Reading) (status : ℕ) : Type 0 where
  two : status ≡ 2 → HasSchedule (Ok command)
  three : status ≡ 3 → reading ≡ Broken
  four : status ≢ 4
  five : status ≡ 5 → Faulty command reading

of_rows : (command : Command) (reading : Reading) (status : ℕ) → OfRows (HasSchedule (Ok command)) (Faulty command reading) status → Known command reading status
of_rows command reading status h = record { two = h.two; three = λ e. absurd (h.three e); four = h.four; five = h.five }

known : AskedInOrder → (unaltered : ℕ → Type 0) (command : Command) (history : List Done) (reading : Reading) → Asked unaltered (Ok command) history reading
    → Known command reading (reply_to (checked_answer history) (Ok command) reading).status
known order unaltered command history Untouched asked = of_rows command Untouched _ (rows_status order unaltered command history (Ok (rows_made command)) asked)
known order unaltered command history (Whole bytes) asked = of_rows command (Whole bytes) _ (rows_status order unaltered command history (rows_in (common_in command) bytes) asked)
known order unaltered command history Long asked = of_rows command Long 5 (five_status _ _ tt)
known order unaltered command history Broken asked = record { two = λ e. absurd (omega (arith, e)); three = λ _. refl; four = omega arith; five = λ e. absurd (omega (arith, e)) }

refusal_status : (answer : Answering) (fault : WordFault) (v : ℕ) → (reply_to answer (Err fault) Untouched).status ≡ v → (v ≡ 2) ⊎ (v ≡ 6)
refusal_status answer (faults.Word index) v e = inl (sym e)
refusal_status answer (faults.Missing name) v e = inl (sym e)
refusal_status answer faults.Memory v e = inr (sym e)

-- what a status says of the words and of how the input was met
record Says (command : Result Command WordFault) (reading : Reading) (status : ℕ) : Type 0 where
  two : status ≡ 2 → IsErr command ⊎ HasSchedule command
  three : status ≡ 3 → reading ≡ Broken
  four : status ≢ 4
  five : status ≡ 5 → (source : Change) (reported : List ℕ) → Reads most_bytes reading source → source.old ≡ Some reported → Refuses command reported

refused_says : (fault : WordFault) (reading : Reading) (status : ℕ) → (status ≡ 2) ⊎ (status ≡ 6) → Says (Err fault) reading status
refused_says fault reading status which = record {
  two = λ e. inl (search rules);
  three = λ e. absurd (elim which [ inl p ↦ omega (arith, e, p) | inr p ↦ omega (arith, e, p) ]);
  four = λ e. elim which [ inl p ↦ omega (arith, e, p) | inr p ↦ omega (arith, e, p) ];
  five = λ e. absurd (elim which [ inl p ↦ omega (arith, e, p) | inr p ↦ omega (arith, e, p) ]);
}

-- rows that are made are never too few
none_lacking : (command : Command) → Suits (Ok command) Untouched → LacksRows command (rows_made command) → ⊥
none_lacking (commands.Ask c) suits f = f
none_lacking (commands.Replay c schedule) suits f = f
none_lacking (commands.Race c writers askers rounds) suits f = f
none_lacking (commands.Make c number count) suits f = f
none_lacking (commands.Trace c) suits f = f
none_lacking (commands.Tamper c shifts) suits f = f
none_lacking (commands.Tree c low high) suits f = suits refl
none_lacking (commands.Groups c groups) suits f = f

faulty_reported : (command : Command) (reading : Reading) (source : Change) (reported : List ℕ) → Suits (Ok command) reading
    → Reads most_bytes reading source → Faulty command reading → source.old ≡ Some reported → Refuses (Ok command) reported
faulty_reported command Untouched source reported suits reads f e = absurd (none_lacking command suits f)
faulty_reported command (Whole bytes) source reported suits reads f e = inr (subst (λ bs. RefusesInput command bs) (whole_reported source.old source.new bytes reported reads.1 reads.2 e) f)
faulty_reported command Long source reported suits reads f e = inl (omega (arith, long_reported source.old source.new reads.0 reported reads.2 e, reads.1))
faulty_reported command Broken source reported suits reads f e = absurd f

says : AskedInOrder → (unaltered : ℕ → Type 0) (command : Result Command WordFault) (history : List Done) (reading : Reading) → Suits command reading → Asked unaltered command history reading
    → Says command reading (reply_to (checked_answer history) command reading).status
says order unaltered (Err fault) history reading suits asked = refused_says fault reading _ (refusal_status (checked_answer history) fault _ refl)
says order unaltered (Ok command) history reading suits asked =
    let k = known order unaltered command history reading asked in
    record { two = λ e. inr (k.two e); three = k.three; four = k.four; five = λ e source reported reads is. faulty_reported command reading source reported suits reads (k.five e) is }

module _ (order : AskedInOrder) (command : Result Command WordFault) (source sink : Change) (carried : List Done → Type 0) (unaltered : ℕ → Type 0) (status : ℕ)
    (run : Runs command source carried unaltered sink status) where
  -- of the reply's status
  here : Says command run.replies.reading run.reply.status
  here = subst (λ (reply : Reply). Says command run.replies.reading reply.status) (sym run.replies.is)
      (says order unaltered command run.replies.history run.replies.reading run.replies.suits run.replies.asked)

  own : status ≢ 4 → run.reply.status ≡ status
  own written = sym (own_status run.reply sink status written run.puts)

  pub refused_of : status ≡ 2 → IsErr command ⊎ HasSchedule command
  refused_of e = here.two (own (λ four. omega (arith, e, four)) ∙ e)

  pub read_fault_of : status ≡ 3 → Rose source.before source.now
  read_fault_of e =
      subst (λ (reading : Reading). Reads most_bytes reading source) (here.three (own (λ four. omega (arith, e, four)) ∙ e)) run.replies.reads

  pub write_fault_of : status ≡ 4 → Rose sink.before sink.now
  write_fault_of e = elim run.puts [ inl p ↦ absurd (here.four (sym p.0 ∙ e)) | inr p ↦ p.2 ]

  pub refuses_of : status ≡ 5 → (reported : List ℕ) → source.old ≡ Some reported → Refuses command reported
  refuses_of e reported is = here.five (own (λ four. omega (arith, e, four)) ∙ e) source reported run.replies.reads is

  pub seven_of : status ≡ 7 → ((actor : ℕ) → unaltered actor) → ⊥
  seven_of e still = run.replies.accepted still (own (λ four. omega (arith, e, four)) ∙ e)

-- a reply that was put is that of a run
pub runs : PlainlyPlayed → AskedPlainly → (command : Result Command WordFault) (source sink : Change) (carried : List Done → Type 0) (unaltered : ℕ → Type 0) (status : ℕ) (reply : Reply)
    → Replies command source carried unaltered reply → Puts reply sink status → Runs command source carried unaltered sink status
runs same law command source sink carried unaltered status reply r puts = record {
  reply = reply;
  replies = r;
  plain = λ still. r.is ∙ plain_reply_to same law unaltered still command r.history r.reading r.asked;
  puts = puts;
}

pub plain_of : (command : Result Command WordFault) (source sink : Change) (carried : List Done → Type 0) (unaltered : ℕ → Type 0) (status : ℕ)
    → Runs command source carried unaltered sink status → (Rose source.before source.now → ⊥) → ((actor : ℕ) → unaltered actor)
    → (reported : List ℕ) → source.old ≡ Some reported → Puts (plain_reply command reported) sink status
plain_of command source sink carried unaltered status run sure still reported e =
    let r = run.replies in
    subst (λ reply. Puts reply sink status) (run.plain still ∙ over_reported plain_answer command r.reading source reported r.suits r.reads sure e) run.puts

pub if_some : (o : Option (List ℕ)) (P : List ℕ → Type 0) → ((x : List ℕ) → o ≡ Some x → P x) → IfSome o P
if_some None P f = tt
if_some (Some x) P f = f x refl
