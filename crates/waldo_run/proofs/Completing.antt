-- Where nothing failed, accepted words over an accepted input come to their end.
use Rattle.std.proofs.Common.{◌≡◌, ◌≢◌, ◌∙◌, ◌⊎◌, inl, inr, refl, sym, ap, subst, ℕ, ◌≤◌, Bool, true, false, cond, eqb, eq-eqb, ltb, List, length, arith}
use Rattle.std.proofs.lemmas.Bool.{ltb-true}
use Rattle.std.proofs.lemmas.Bool.Decides.{Decides-eqb}
use Rattle.std.specs.Prelude.{IsErr, MatchBool, Option, None, Some, Result, Ok, Err}
use Rattle.std.specs.Io.KnownBytes.{Appends}
use Rattle.std.specs.List.{list_any}
use Rattle.fault_count.specs.Causes.{Rose}
use Rattle.fault_count.specs.Streams.{Change}
use Rattle.race_play.specs.Reports.{is_altered}
use Rattle.race_play.specs.declared.setting.Crew.{Crew}
use Rattle.report_lines.specs.Line.{text_of}
use Rattle.report_lines.specs.declared.lines.Line.TheVariants as lines
use Rattle.row_source.specs.Input.{Reading, Reads, most_bytes}
use Rattle.row_source.specs.Input.Reading.{Untouched, Whole, Long, Broken}
use Rattle.schedule_play.specs.History.{Done, opened_in}
use Rattle.schedule_play.specs.Laws.{AskedInOrder}
use Rattle.schedule_play.specs.Stages.{Stage, played}
use Rattle.schedule_play.specs.Tasks.{Task}
use Rattle.schedule_play.specs.declared.style.Style.{Style}
use Rattle.schedule_play.specs.declared.style.Style.TheVariants.{Queries, Rounds}
use Rattle.table_schema.specs.declared.rows.Row.{Row}
use Rattle.waldo_words.specs.declared.command.Common.{Common}
use Rattle.waldo_words.specs.declared.command.Command.{Command}
use Rattle.waldo_words.specs.declared.command.Command.TheVariants as commands
use Rattle.waldo_words.specs.declared.faults.WordFault.{WordFault}
use Rattle.waldo_words.specs.declared.shifts.ShiftWord.{ShiftWord}
use Rattle.wire_line.specs.declared.message.Message.{Message}
use Rattle.waldo_run.specs.Buckets.{plain_group_lines}
use Rattle.visit_trace.specs.Seen.{AllSeen}
use Rattle.waldo_run.specs.Complete.{EndsChecked, EndsPlainly, EndsRaced, EndsWith, GivesRows, HaveCases, IsAccepted, StepsHaveCases}
use Rattle.waldo_run.specs.Races.{RacedFrom, RacedIn, RacedOver, Races, crew_of}
use Rattle.waldo_run.specs.Replies.{Answering, Reply, checked_answer, ended, plain_answer, plain_in, range_line, reply_over, reply_to, rows_reply, single}
use Rattle.waldo_run.specs.Run.{Asked, AskedIn, AskedOver, HasSchedule, Puts, Runs}
use Rattle.waldo_run.specs.Tampered.{AltersNothing, shifts_of}
use Rattle.waldo_run.specs.Trees.{plain_count}
use Rattle.waldo_run.specs.Works.{Work, work_over}
use Rattle.waldo_run.specs.Works.Work.{Steps, Range, Buckets}
use Rattle.waldo_run.specs.Tasks.{common_in, reads_input, rows_in, rows_made, task_over}
use Rattle.waldo_run.proofs.Reported.{read_reported, short_reading}
use Rattle.waldo_run.proofs.Statuses.{refused_of}
use Rattle.waldo_run.proofs.Tracing.{reported_status}

pub or_six : (n : ℕ) (P : Type 0) → ((n ≢ 6) → P) → (n ≡ 6) ⊎ P
or_six n P f = by (eqb n 6) refl
  where
    by : (b : Bool) → eqb n 6 ≡ b → (n ≡ 6) ⊎ P
    by true e = inl ((Decides-eqb n 6).0 e)
    by false e = inr (f (λ six. let t = eq-eqb n 6 six in cc))

-- ---- how the input was met

-- by these rows, of the whole input or made
abbrev Met : Command → Reading → List Row → Type 0
Met command reading rows =
    ((bytes : List ℕ) × (reading ≡ Whole bytes) × (rows_in (common_in command) bytes ≡ Ok rows)) ⊎ ((reading ≡ Untouched) × (rows ≡ rows_made command))

-- a short input that was read whole
whole_met : (reading : Reading) (source : Change) (bytes : List ℕ) → reading ≢ Untouched → Reads most_bytes reading source → (Rose source.before source.now → ⊥) → source.old ≡ Some bytes
    → length bytes ≤ most_bytes → reading ≡ Whole bytes
whole_met reading source bytes some reads sure e short = read_reported reading source bytes some reads sure e ∙ short_reading bytes _ refl short

met : (command : Command) (reading : Reading) (source : Change) (rows : List Row) (b : Bool) (input : Option (List ℕ)) → source.old ≡ input → MatchBool b (reading ≢ Untouched) (reading ≡ Untouched)
    → Reads most_bytes reading source → (Rose source.before source.now → ⊥) → MatchBool b (GivesRows (common_in command) input rows) (rows ≡ rows_made command) → Met command reading rows
met command reading source rows true None e suits reads sure gives = absurd gives
met command reading source rows true (Some bytes) e suits reads sure gives = inl (bytes, whole_met reading source bytes suits reads sure e gives.0, gives.1)
met command reading source rows false input e suits reads sure gives = inr (suits, gives)

met_reply : (answer : Answering) (command : Command) (reading : Reading) (rows : List Row) → Met command reading rows → reply_to answer (Ok command) reading ≡ rows_reply answer command rows
met_reply answer command reading rows m = elim m [
  | inl w ↦ ap (reply_to answer (Ok command)) w.1 ∙ ap (reply_over answer command) w.2
  | inr u ↦ ap (reply_to answer (Ok command)) u.0 ∙ ap (rows_reply answer command) (sym u.1)
]

met_asked : (unaltered : ℕ → Type 0) (command : Command) (history : List Done) (reading : Reading) (rows : List Row) → Met command reading rows → Asked unaltered (Ok command) history reading
    → AskedOver unaltered command history rows
met_asked unaltered command history reading rows m asked = elim m [
  | inl w ↦ subst (AskedIn unaltered command history) w.2 (subst (Asked unaltered (Ok command) history) w.1 asked)
  | inr u ↦ subst (AskedOver unaltered command history) (sym u.1) (subst (Asked unaltered (Ok command) history) u.0 asked)
]

-- ---- the status

abbrev status_by : Bool → ℕ
status_by altered = cond altered 7 0

not_seven : (b : Bool) → status_by b ≢ 7 → status_by b ≡ 0
not_seven true ne = absurd (ne refl)
not_seven false ne = refl

steps_zero : (style : Style) (task : Task) → StepsHaveCases style task → (plain_in style task).status ≢ 7 → (plain_in style task).status ≡ 0
steps_zero Queries task has ne = refl
steps_zero Rounds task has ne =
    let is = ap (λ (r : Result Stage ℕ). (ended r).status) has.1 in
    is ∙ not_seven has.0.altered (λ seven. ne (is ∙ seven))

plain_zero : (work : Work) → HaveCases work → (plain_answer work).status ≢ 7 → (plain_answer work).status ≡ 0
plain_zero (Steps task) has ne = steps_zero task.style task has ne
plain_zero (Range s low high) has ne = by (ltb (length s.rows) high) refl
  where
    by : (t : Bool) → ltb (length s.rows) high ≡ t → (cond t (single 5 (lines.TooFew high)) (range_line low high (Ok (plain_count s low high)))).status ≡ 0
    by true e = let le : high ≤ length s.rows = has in let lt = ltb-true (length s.rows) high e in absurd (omega arith)
    by false e = refl
plain_zero (Buckets bits s groups) has ne = not_seven (list_any is_altered (plain_group_lines bits s 0 groups)) ne

zero_or_seven : (b : Bool) → (status_by b ≡ 0) ⊎ (status_by b ≡ 7)
zero_or_seven true = inr refl
zero_or_seven false = inl refl

ended_either : (r : Result Stage ℕ) → (ended r).status ≢ 2 → ((ended r).status ≡ 0) ⊎ ((ended r).status ≡ 7)
ended_either (Ok stage) ne = zero_or_seven stage.altered
ended_either (Err t) ne = absurd (ne refl)

-- a command that alters messages has no schedule
never_refused : (c : Common) (shifts : List ShiftWord) → IsErr {T = Command} {E = WordFault} (Ok (commands.Tamper c shifts)) ⊎ HasSchedule (Ok (commands.Tamper c shifts)) → ⊥
never_refused c shifts (inl e) = let f : false ≡ true = e in cc
never_refused c shifts (inr s) = s

-- ---- the put

whole_put : (reply : Reply) (sink : Change) (status : ℕ) → (Rose sink.before sink.now → ⊥) → Puts reply sink status → (status ≡ reply.status) × Appends sink.old sink.new (text_of reply.report)
whole_put reply sink status dry puts = elim puts [ inl p ↦ (p.0, p.1) | inr p ↦ absurd (dry p.2) ]

module _ (order : AskedInOrder) (source sink : Change) (carried : List Done → Type 0) (unaltered : ℕ → Type 0) (status : ℕ) (rows : List Row)
    (sure : Rose source.before source.now → ⊥) (dry : Rose sink.before sink.now → ⊥) where
  met_by : (command : Command) → IsAccepted command source.old rows → (run : Runs (Ok command) source carried unaltered sink status) → Met command run.replies.reading rows
  met_by command has run = met command run.replies.reading source rows (reads_input command) source.old refl run.replies.suits run.replies.reads sure has.gives

  plainly_ended : (command : Command) → IsAccepted command source.old rows → Runs (Ok command) source carried unaltered sink status → ((actor : ℕ) → unaltered actor) → EndsPlainly command rows sink status
  plainly_ended command has run still =
      let work = work_over command rows in
      let is : run.reply ≡ rows_reply plain_answer command rows = run.plain still ∙ met_reply plain_answer command run.replies.reading rows (met_by command has run) in
      let put = whole_put run.reply sink status dry run.puts in
      let own : run.reply.status ≡ (plain_answer work).status = ap (λ (r : Reply). r.status) is ∙ reported_status command rows (plain_answer work) in
      record {
        done = put.0 ∙ own ∙ plain_zero work has.cases (λ seven. run.replies.accepted still (own ∙ seven));
        text = subst (λ (r : Reply). Appends sink.old sink.new (text_of r.report)) is put.1;
      }

  checked_ended : (c : Common) (shifts : List ShiftWord) → IsAccepted (commands.Tamper c shifts) source.old rows → Runs (Ok (commands.Tamper c shifts)) source carried unaltered sink status
      → EndsChecked (commands.Tamper c shifts) rows carried unaltered sink status
  checked_ended c shifts has run =
      let command = commands.Tamper c shifts in
      let history = run.replies.history in
      let m = met_by command has run in
      let is : run.reply ≡ rows_reply (checked_answer history) command rows = run.replies.is ∙ met_reply (checked_answer history) command run.replies.reading rows m in
      let put = whole_put run.reply sink status dry run.puts in
      let own : status ≡ (rows_reply (checked_answer history) command rows).status = put.0 ∙ ap (λ (r : Reply). r.status) is in
      record {
        history = history;
        sent = run.replies.sent;
        asked = met_asked unaltered command history run.replies.reading rows m run.replies.asked;
        either = elim (ended_either (played (opened_in history) (task_over command rows))
            (λ two. never_refused c shifts (refused_of order (Ok command) source sink carried unaltered status run (own ∙ two)))) [
              | inl zero ↦ inl (own ∙ zero)
              | inr seven ↦ inr (own ∙ seven)
            ];
        done = own;
        text = subst (λ (r : Reply). Appends sink.old sink.new (text_of r.report)) is put.1;
      }

  ended_by : (command : Command) → IsAccepted command source.old rows → Runs (Ok command) source carried unaltered sink status → (AltersNothing (Ok command) → (actor : ℕ) → unaltered actor)
      → EndsWith (shifts_of (Ok command)) command rows carried unaltered sink status
  ended_by (commands.Ask c) has run still = plainly_ended (commands.Ask c) has run (still refl)
  ended_by (commands.Replay c schedule) has run still = plainly_ended (commands.Replay c schedule) has run (still refl)
  ended_by (commands.Race c writers askers rounds) has run still = plainly_ended (commands.Race c writers askers rounds) has run (still refl)
  ended_by (commands.Make c number count) has run still = plainly_ended (commands.Make c number count) has run (still refl)
  ended_by (commands.Trace c) has run still = plainly_ended (commands.Trace c) has run (still refl)
  ended_by (commands.Tree c low high) has run still = plainly_ended (commands.Tree c low high) has run (still refl)
  ended_by (commands.Groups c groups) has run still = plainly_ended (commands.Groups c groups) has run (still refl)
  ended_by (commands.Tamper c shifts) has run still = checked_ended c shifts has run

pub completes : AskedInOrder → (said : Result Command WordFault) (source sink : Change) (carried : List Done → Type 0) (unaltered : ℕ → Type 0) (status : ℕ)
    → (Rose source.before source.now → ⊥) → (Rose sink.before sink.now → ⊥) → (AltersNothing said → (actor : ℕ) → unaltered actor)
    → (command : Command) (rows : List Row) → said ≡ Ok command → IsAccepted command source.old rows → Runs said source carried unaltered sink status
    → EndsWith (shifts_of (Ok command)) command rows carried unaltered sink status
completes order said source sink carried unaltered status sure dry still command rows is has run =
    ended_by order source sink carried unaltered status rows sure dry command has
    (subst (λ s. Runs s source carried unaltered sink status) is run) (λ none. still (ap shifts_of is ∙ none))

-- ---- a race

raced_in : (c : Common) (crew : Crew) (rows : List Row) (bytes : List ℕ) (reading : Reading) (sent : List (List Message)) (grew : AllSeen → Type 0) (reply : Reply) → reading ≡ Whole bytes → rows_in c bytes ≡ Ok rows
    → RacedFrom c crew reading sent grew reply → RacedOver c crew rows sent grew reply
raced_in c crew rows bytes reading sent grew reply is gives raced =
    subst (λ r. RacedIn c crew r sent grew reply) gives (subst (λ (r : Reading). RacedFrom c crew r sent grew reply) is raced)

some_reading : (c : Common) (crew : Crew) (reading : Reading) (sent : List (List Message)) (grew : AllSeen → Type 0) (reply : Reply) → RacedFrom c crew reading sent grew reply → reading ≢ Untouched
some_reading c crew Untouched sent grew reply raced e = raced
some_reading c crew (Whole bytes) sent grew reply raced e = cc
some_reading c crew Long sent grew reply raced e = cc
some_reading c crew Broken sent grew reply raced e = cc

race_by : (c : Common) (writers askers rounds : ℕ) (rows : List Row) (source sink : Change) (carried : List (List Message) → Type 0) (grew : AllSeen → Type 0) (status : ℕ) (input : Option (List ℕ)) → source.old ≡ input
    → (Rose source.before source.now → ⊥) → (Rose sink.before sink.now → ⊥) → status ≢ 7 → GivesRows c input rows
    → Races (Ok (commands.Race c writers askers rounds)) source carried grew sink status → EndsRaced c (crew_of c writers askers rounds) rows carried grew sink status
race_by c writers askers rounds rows source sink carried grew status None e sure dry ne gives r = absurd gives
race_by c writers askers rounds rows source sink carried grew status (Some bytes) e sure dry ne gives r =
    let crew = crew_of c writers askers rounds in
    let put = whole_put r.reply sink status dry r.puts in
    let over = raced_in c crew rows bytes r.replies.reading r.replies.sent grew r.reply
    (whole_met r.replies.reading source bytes (some_reading c crew r.replies.reading r.replies.sent grew r.reply r.replies.raced) r.replies.reads sure e gives.0) gives.1 r.replies.raced in
    let own : status ≡ status_by (list_any is_altered r.reply.report) = put.0 ∙ over.status in
    record {
      sent = r.replies.sent;
      went = r.replies.went;
      reply = r.reply;
      raced = over;
      done = own ∙ not_seven (list_any is_altered r.reply.report) (λ seven. ne (own ∙ seven));
      text = put.1;
    }

pub race_completes : (said : Result Command WordFault) (source sink : Change) (carried : List (List Message) → Type 0) (grew : AllSeen → Type 0) (status : ℕ)
    → (Rose source.before source.now → ⊥) → (Rose sink.before sink.now → ⊥) → status ≢ 7
    → (c : Common) (writers askers rounds : ℕ) (rows : List Row) → said ≡ Ok (commands.Race c writers askers rounds) → GivesRows c source.old rows → Races said source carried grew sink status
    → EndsRaced c (crew_of c writers askers rounds) rows carried grew sink status
race_completes said source sink carried grew status sure dry ne c writers askers rounds rows is gives r =
    race_by c writers askers rounds rows source sink carried grew status source.old refl sure dry ne gives (subst (λ s. Races s source carried grew sink status) is r)
