-- What was carried and answered over the rows of a command, or over the first fault of its input.
use Rattle.std.proofs.Common.{rules, ◌≡◌, ◌≢◌, ◌∙◌, refl, sym, ap, subst, ℕ, ◌+◌, ◌⊎◌, inl, inr, true, false, Bool, List, [], ◌∷◌, arith}
use Rattle.std.specs.Prelude.{IsSomeAnd, Option, Some, None, Result, Ok, Err, OnErr, IfOk, IsErr, MatchBool}
use Rattle.query_plan.specs.declared.group.GroupQuery.{GroupQuery}
use Rattle.ring128.specs.declared.memory.Memory.{Memory}
use Rattle.row_source.specs.Input.{HasReadFault, Reading, Reads, most_bytes}
use Rattle.row_source.specs.Input.Reading.{Untouched, Whole, Long, Broken}
use Rattle.row_source.specs.declared.faults.RowFault.{RowFault}
use Rattle.row_source.specs.declared.faults.RowFault.TheVariants as row
use Rattle.row_source.specs.declared.input.ReadFault.{ReadFault}
use Rattle.row_source.specs.declared.input.ReadFault.TheVariants as input
use Rattle.report_lines.specs.declared.lines.Line.TheVariants as lines
use Rattle.table_schema.specs.declared.rows.Row.{Row}
use Rattle.table_schema.specs.declared.widths.Widths.{Widths}
use Rattle.schedule_play.specs.History.{Breaks as BreaksFrom, Done, IsHistory}
use Rattle.schedule_play.specs.Stages.{Stage, next_stage}
use Rattle.schedule_play.specs.Tasks.{Setting}
use Rattle.schedule_play.specs.declared.style.Style.{Style}
use Rattle.waldo_words.specs.declared.command.Command.{Command}
use Rattle.waldo_words.specs.declared.faults.WordFault.{WordFault}
use Rattle.waldo_words.specs.declared.faults.WordFault.TheVariants as faults
use Rattle.waldo_words.specs.declared.schedule.Step.{Step}
use Rattle.waldo_run.specs.Buckets.{BeginsBuckets, HasBuckets}
use Rattle.waldo_run.specs.Replies.{Reply, Suits, checked_answer, refusal, reply_over, row_refusal, rows_reply, single, unread}
use Rattle.waldo_run.specs.Run.{Answers, Asked, AskedIn, AskedOver, Begun, BegunAt, BegunIn, BegunOver, Breaks, Replies}
use Rattle.waldo_run.specs.Tasks.{AreWidthsIn, common_in, reads_input, rows_in, rows_made}
use Rattle.waldo_run.specs.Works.{Begins, IsDone, Work, work_over}
use Rattle.waldo_run.specs.Works.Work.{Steps, Range, Buckets}
use Rattle.fault_count.specs.Streams.{Change}

-- without a message nothing was begun
none_begins : (w : Widths) (work : Work) → Begins w work []
none_begins w (Steps task) = tt
none_begins w (Range s low high) = tt
none_begins w (Buckets bits s groups) = tt

pub none_begun : (command : Command) (w : Widths) → AreWidthsIn command w → (rows : Result (List Row) RowFault) → BegunIn command [] rows
none_begun command w of (Err fault) = refl
none_begun command w of (Ok rows) = record { widths = w; of = of; begun = none_begins w (work_over command rows) }

refusal_status : (fault : RowFault) → (row_refusal fault).status ≢ 7
refusal_status row.Header e = omega (arith, e)
refusal_status (row.BadRecord number why) e = omega (arith, e)
refusal_status (row.TooMany capacity) e = omega (arith, e)
refusal_status row.Memory e = omega (arith, e)

-- an input with a fault
pub fault_answers : (command : Command) (w : Widths) → AreWidthsIn command w → (fault : RowFault) (rows : Result (List Row) RowFault) (carried : List Done → Type 0) (unaltered : ℕ → Type 0)
    → carried [] → (fault ≢ row.Memory → rows ≡ Err fault) → (result : Result Reply Memory)
    → IfOk result (λ (reply : Reply). (reply ≡ row_refusal fault) × (fault ≢ row.Memory)) → Answers command rows carried unaltered result
fault_answers command w of fault rows carried unaltered none is (Err memory) said =
    record { history = []; sent = none; begun = none_begun command w of rows; asked = tt; is = tt; accepted = tt }
fault_answers command w of fault rows carried unaltered none is (Ok reply) said =
    let e : rows ≡ Err fault = is said.1 in
    record {
      history = [];
      sent = none;
      begun = tt;
      asked = subst (AskedIn unaltered command []) (sym e) refl;
      is = said.0 ∙ sym (ap (reply_over (checked_answer []) command) e);
      accepted = λ still seven. refusal_status fault (sym (ap (λ (r : Reply). r.status) said.0) ∙ seven);
    }

-- nothing was done, as memory ran out
pub none_answers : (command : Command) (w : Widths) → AreWidthsIn command w → (rows : Result (List Row) RowFault) (carried : List Done → Type 0) (unaltered : ℕ → Type 0)
    → carried [] → (result : Result Reply Memory) → IsErr result → Answers command rows carried unaltered result
none_answers command w of rows carried unaltered none (Err memory) err =
    record { history = []; sent = none; begun = none_begun command w of rows; asked = tt; is = tt; accepted = tt }
none_answers command w of rows carried unaltered none (Ok reply) err = absurd (search rules)

-- rows
pub rows_answers : (command : Command) (rows : List Row) (r : Result (List Row) RowFault) (carried : List Done → Type 0) (unaltered : ℕ → Type 0) (history : List Done)
    → r ≡ Ok rows → carried history → (result : Result Reply Memory) → OnErr result (BegunOver command history rows)
    → IfOk result (λ (reply : Reply). AskedOver unaltered command history rows × (reply ≡ rows_reply (checked_answer history) command rows) × (((actor : ℕ) → unaltered actor) → reply.status ≢ 7))
    → Answers command r carried unaltered result
rows_answers command rows r carried unaltered history e went (Err memory) begun said =
    record { history = history; sent = went; begun = subst (BegunIn command history) (sym e) begun; asked = tt; is = tt; accepted = tt }
rows_answers command rows r carried unaltered history e went (Ok reply) begun said = record {
  history = history;
  sent = went;
  begun = tt;
  asked = subst (AskedIn unaltered command history) (sym e) said.0;
  is = said.1 ∙ sym (ap (reply_over (checked_answer history) command) e);
  accepted = said.2;
}

-- a command that was met in one of two ways
pub read_suits : (command : Command) (reading : Reading) → reads_input command ≡ true → reading ≢ Untouched → Suits (Ok command) reading
read_suits command reading e some = by (reads_input command) e
  where
    by : (b : Bool) → b ≡ true → MatchBool b (reading ≢ Untouched) (reading ≡ Untouched)
    by true e = some
    by false e = cc

pub unread_suits : (command : Command) → reads_input command ≡ false → Suits (Ok command) Untouched
unread_suits command e = by (reads_input command) e
  where
    by : (b : Bool) → b ≡ false → MatchBool b (Untouched ≢ Untouched) (Untouched ≡ Untouched)
    by true e = cc
    by false e = refl

-- the replies over all bytes of an input, and over rows that were made
pub whole_replies : (command : Command) (source : Change) (bytes : List ℕ) (carried : List Done → Type 0) (unaltered : ℕ → Type 0) → reads_input command ≡ true
    → Reads most_bytes (Whole bytes) source → (result : Result Reply Memory)
    → Answers command (rows_in (common_in command) bytes) carried unaltered result → IfOk result (Replies (Ok command) source carried unaltered)
whole_replies command source bytes carried unaltered e reads (Err memory) a = tt
whole_replies command source bytes carried unaltered e reads (Ok reply) a = record {
  reading = Whole bytes;
  suits = read_suits command (Whole bytes) e (λ f. cc);
  reads = reads;
  history = a.history;
  sent = a.sent;
  asked = a.asked;
  is = a.is;
  accepted = a.accepted;
}

pub made_replies : (command : Command) (source : Change) (carried : List Done → Type 0) (unaltered : ℕ → Type 0) → reads_input command ≡ false
    → Reads most_bytes Untouched source → (result : Result Reply Memory)
    → Answers command (Ok (rows_made command)) carried unaltered result → IfOk result (Replies (Ok command) source carried unaltered)
made_replies command source carried unaltered e reads (Err memory) a = tt
made_replies command source carried unaltered e reads (Ok reply) a = record {
  reading = Untouched;
  suits = unread_suits command e;
  reads = reads;
  history = a.history;
  sent = a.sent;
  asked = a.asked;
  is = a.is;
  accepted = a.accepted;
}

-- what was carried when memory was lacking
pub whole_breaks : (command : Command) (source : Change) (bytes : List ℕ) (carried : List Done → Type 0) (unaltered : ℕ → Type 0) → reads_input command ≡ true
    → Reads most_bytes (Whole bytes) source → (result : Result Reply Memory)
    → Answers command (rows_in (common_in command) bytes) carried unaltered result → OnErr result (Breaks (Ok command) source carried)
whole_breaks command source bytes carried unaltered e reads (Ok reply) a = tt
whole_breaks command source bytes carried unaltered e reads (Err memory) a =
    record { history = a.history; sent = a.sent; begun = inr (Whole bytes, read_suits command (Whole bytes) e (λ f. cc), reads, a.begun) }

pub made_breaks : (command : Command) (source : Change) (carried : List Done → Type 0) (unaltered : ℕ → Type 0) → reads_input command ≡ false
    → Reads most_bytes Untouched source → (result : Result Reply Memory)
    → Answers command (Ok (rows_made command)) carried unaltered result → OnErr result (Breaks (Ok command) source carried)
made_breaks command source carried unaltered e reads (Ok reply) a = tt
made_breaks command source carried unaltered e reads (Err memory) a =
    record { history = a.history; sent = a.sent; begun = inr (Untouched, unread_suits command e, reads, a.begun) }

-- replies without a step: to words that are refused, to an input that could not be read, and to one that is too long
refused_status : (fault : WordFault) → (refusal fault).status ≢ 7
refused_status (faults.Word index) e = omega (arith, e)
refused_status (faults.Missing name) e = omega (arith, e)
refused_status faults.Memory e = omega (arith, e)

pub refused_replies : (command : Result Command WordFault) (fault : WordFault) (source : Change) (carried : List Done → Type 0) (unaltered : ℕ → Type 0) (reply : Reply)
    → command ≡ Err fault → Reads most_bytes Untouched source → carried [] → reply ≡ refusal fault
    → Replies command source carried unaltered reply
refused_replies command fault source carried unaltered reply is reads none e =
    subst (λ (m : Result Command WordFault). Replies m source carried unaltered reply) (sym is)
    (record {
      reading = Untouched;
      suits = refl;
      reads = reads;
      history = [];
      sent = none;
      asked = refl;
      is = e;
      accepted = λ still seven. refused_status fault (sym (ap (λ (r : Reply). r.status) e) ∙ seven);
    })

pub broken_replies : (command : Command) (source : Change) (carried : List Done → Type 0) (unaltered : ℕ → Type 0) (reply : Reply) → reads_input command ≡ true
    → Reads most_bytes Broken source → carried [] → reply ≡ single 3 lines.ReadFault
    → Replies (Ok command) source carried unaltered reply
broken_replies command source carried unaltered reply r reads none e = record {
  reading = Broken;
  suits = read_suits command Broken r (λ f. cc);
  reads = reads;
  history = [];
  sent = none;
  asked = refl;
  is = e;
  accepted = λ still seven. let f : 3 ≡ 7 = sym (ap (λ (x : Reply). x.status) e) ∙ seven in absurd (omega (arith, f));
}

pub long_replies : (command : Command) (source : Change) (carried : List Done → Type 0) (unaltered : ℕ → Type 0) (reply : Reply) → reads_input command ≡ true
    → Reads most_bytes Long source → carried [] → reply ≡ single 5 lines.TooLong
    → Replies (Ok command) source carried unaltered reply
long_replies command source carried unaltered reply r reads none e = record {
  reading = Long;
  suits = read_suits command Long r (λ f. cc);
  reads = reads;
  history = [];
  sent = none;
  asked = refl;
  is = e;
  accepted = λ still seven. let f : 5 ≡ 7 = sym (ap (λ (x : Reply). x.status) e) ∙ seven in absurd (omega (arith, f));
}

-- an input that was not read whole
pub unread_replies : (command : Command) (fault : ReadFault) (source : Change) (carried : List Done → Type 0) (unaltered : ℕ → Type 0) (reply : Reply) → reads_input command ≡ true
    → HasReadFault most_bytes fault source → carried [] → (reply ≡ unread fault) × (fault ≢ input.Memory)
    → Replies (Ok command) source carried unaltered reply
unread_replies command input.Failed source carried unaltered reply r reads none e = broken_replies command source carried unaltered reply r reads none e.0
unread_replies command input.TooLong source carried unaltered reply r reads none e = long_replies command source carried unaltered reply r reads none e.0
unread_replies command input.Memory source carried unaltered reply r reads none e = absurd (e.1 refl)

-- all messages of steps are the first ones of them
pub all_begun : (w : Widths) (s : Setting) (style : Style) (stage : Stage) (xs : List Step) (ds : List Done) → IsHistory w s style stage xs ds → BreaksFrom w s style stage xs ds
all_begun w s style stage xs [] h = tt
all_begun w s style stage [] (d ∷ ds) h = absurd h
all_begun w s style stage (x ∷ xs) (d ∷ ds) h = (h.0, inl (h.1, on (next_stage s style stage x d.pair) h.2 (λ next g. all_begun w s style next xs ds g)))
  where
    on : (o : Option Stage) → IsSomeAnd o (λ (next : Stage). IsHistory w s style next xs ds) → ((next : Stage) → IsHistory w s style next xs ds → BreaksFrom w s style next xs ds)
        → IsSomeAnd o (λ (next : Stage). BreaksFrom w s style next xs ds)
    on None g rest = absurd g
    on (Some next) g rest = rest next g

pub all_begins : (w : Widths) (s : Setting) (i : ℕ) (gs : List GroupQuery) (ds : List Done) → HasBuckets w s i gs ds → BeginsBuckets w s i gs ds
all_begins w s i [] [] h = tt
all_begins w s i [] (d ∷ ds) h = absurd h
all_begins w s i (g ∷ gs) [] h = tt
all_begins w s i (g ∷ gs) (d ∷ ds) h = (h.0, inl (h.1, all_begins w s (i + 1) gs ds h.2))

-- all messages of a command's work are the first ones of it
done_begins : (w : Widths) (work : Work) (history : List Done) → IsDone w work history → Begins w work history
done_begins w (Steps task) history h = all_begun w task.setting task.style _ task.steps history h
done_begins w (Range s low high) [] h = tt
done_begins w (Range s low high) (d ∷ []) h = (h.1, h.2.part)
done_begins w (Range s low high) (d ∷ e ∷ ds) h = absurd h
done_begins w (Buckets bits s groups) history h = all_begins w s 0 groups history h

begun_in : (unaltered : ℕ → Type 0) (command : Command) (history : List Done) (r : Result (List Row) RowFault) → AskedIn unaltered command history r → BegunIn command history r
begun_in unaltered command history (Err fault) asked = asked
begun_in unaltered command history (Ok rows) asked =
    record { widths = asked.widths; of = asked.of; begun = done_begins asked.widths (work_over command rows) history asked.done }

begun_at : (unaltered : ℕ → Type 0) (command : Command) (history : List Done) (reading : Reading) → Asked unaltered (Ok command) history reading → BegunAt command history reading
begun_at unaltered command history Untouched asked = begun_in unaltered command history (Ok (rows_made command)) asked
begun_at unaltered command history Broken asked = asked
begun_at unaltered command history Long asked = asked
begun_at unaltered command history (Whole bytes) asked = begun_in unaltered command history (rows_in (common_in command) bytes) asked

begun_of : (command : Result Command WordFault) (source : Change) (unaltered : ℕ → Type 0) (reading : Reading) (history : List Done) → Suits command reading
    → Reads most_bytes reading source → Asked unaltered command history reading → Begun command history source
begun_of (Err fault) source unaltered reading history suits reads asked = asked
begun_of (Ok command) source unaltered reading history suits reads asked = inr (reading, suits, reads, begun_at unaltered command history reading asked)

pub replies_break : (command : Result Command WordFault) (source : Change) (carried : List Done → Type 0) (unaltered : ℕ → Type 0) (reply : Reply)
    → Replies command source carried unaltered reply → Breaks command source carried
replies_break command source carried unaltered reply r =
    record { history = r.history; sent = r.sent; begun = begun_of command source unaltered r.reading r.history r.suits r.reads r.asked }

-- without a step nothing was carried when memory was lacking
pub nothing_breaks : (command : Result Command WordFault) (source : Change) (carried : List Done → Type 0) → carried [] → Breaks command source carried
nothing_breaks (Err fault) source carried none = record { history = []; sent = none; begun = refl }
nothing_breaks (Ok command) source carried none = record { history = []; sent = none; begun = inl refl }

-- what reading gave, where it isn't out of memory
pub refused_words : (command : Result Command WordFault) (fault : WordFault) → (fault ≢ faults.Memory) → (fault ≡ faults.Memory) ⊎ (command ≡ Err fault) → command ≡ Err fault
refused_words command fault other gave = elim gave [ inl memory ↦ absurd (other memory) | inr is ↦ is ]

pub on_err : {A E : Type 0} (r : Result A E) (P : Type 0) → P → OnErr r P
on_err (Ok x) P p = tt
on_err (Err e) P p = p
