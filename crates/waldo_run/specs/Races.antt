-- What a race does to its source, its wires and its sink, and with what status it ends.
use Rattle.std.specs.Prelude.{◌≡◌, ◌⊎◌, ⊤, ℕ, Bool, false, bytes_eq, codes, if◌then◌else◌, Result, Ok, Err, List, [], ◌∷◌}
use Rattle.std.specs.List.{list_any}
use Rattle.query_plan.specs.Query.{AreWidthsOf}
use Rattle.race_play.specs.Begun.{IsCarried}
use Rattle.race_play.specs.Reports.{Reports, is_altered}
use Rattle.race_play.specs.Questions.{Question}
use Rattle.race_play.specs.Seen.{all_questions, asked_seen, report_seen}
use Rattle.race_play.specs.Settings.{IsSetting, Setting}
use Rattle.race_play.specs.declared.setting.Crew.{Crew}
use Rattle.report_lines.specs.declared.lines.Line.{Line}
use Rattle.report_lines.specs.declared.lines.Line.TheVariants as lines
use Rattle.row_source.specs.Input.{Reading, Reads, most_bytes}
use Rattle.row_source.specs.Input.Reading.{Untouched, Whole, Long, Broken}
use Rattle.row_source.specs.declared.faults.RowFault.{RowFault}
use Rattle.table_schema.specs.declared.rows.Row.{Row}
use Rattle.table_schema.specs.declared.widths.Widths.{Widths}
use Rattle.visit_trace.specs.Seen.{AllSeen, GrewPrefix, alike, nothing}
use Rattle.waldo_words.specs.Words.{command_of}
use Rattle.waldo_words.specs.declared.command.Common.{Common}
use Rattle.waldo_words.specs.declared.command.Command.{Command}
use Rattle.waldo_words.specs.declared.command.Command.TheVariants as commands
use Rattle.waldo_words.specs.declared.faults.WordFault.{WordFault}
use Rattle.wire_line.specs.declared.message.Message.{Message}
use Rattle.waldo_run.specs.Replies.{Reply, refusal, row_refusal, single}
use Rattle.waldo_run.specs.Run.{Puts}
use Rattle.waldo_run.specs.Tasks.{rows_in}
use Rattle.waldo_run.specs.Words.{command_in}
use Rattle.fault_count.specs.Streams.{Change}

-- the words begin with `race`
abbrev pub begin_race : List (List ℕ) → Bool
begin_race [] = false
begin_race (word ∷ words) = bytes_eq word (codes "race")

-- the command that the words say where `race` is built, or why they are refused
abbrev pub command_at : List (List ℕ) → Result Command WordFault
command_at words = if begin_race words then command_of words else command_in words

-- a command that is a race
abbrev pub IsRacing : Command → Type 0
IsRacing (commands.Race common writers askers rounds) = ⊤
IsRacing (commands.Ask common) = ⊥
IsRacing (commands.Replay common schedule) = ⊥
IsRacing (commands.Make common number count) = ⊥
IsRacing (commands.Trace common) = ⊥
IsRacing (commands.Tamper common shifts) = ⊥
IsRacing (commands.Tree common low high) = ⊥
IsRacing (commands.Groups common groups) = ⊥

-- who takes part in a race, as its words say
abbrev pub crew_of : Common → ℕ → ℕ → ℕ → Crew
crew_of common writers askers rounds = record { writers = writers; askers = askers; rounds = rounds; workers = common.workers }

-- a race over rows of these widths
abbrev pub race_over : Common → Crew → Widths → List Row → Setting
race_over common crew w rows = record {
  widths = w;
  rows = rows;
  queries = common.queries;
  master = common.seed;
  writers = crew.writers;
  askers = crew.askers;
  rounds = crew.rounds;
}

-- 7 where the check refused what some answer opened, and else 0
abbrev pub status_of : List Line → ℕ
status_of report = if list_any is_altered report then 7 else 0

-- A race over rows: these messages went over the wires, a list for each of the first ones; the report is one of a race with these messages;
-- the trace of the run grew by what the servers see of that report, where `grew` is said of that part; and the status is the report's.
pub record RacedOver (common : Common) (crew : Crew) (rows : List Row) (sent : List (List Message)) (grew : AllSeen → Type 0)
    (reply : Reply) : Type 0 where
  pub widths : Widths
  pub of : AreWidthsOf common.schema widths
  pub legal : IsSetting (race_over common crew widths rows)
  pub reports : Reports (race_over common crew widths rows) sent reply.report
  pub sees : grew (report_seen (race_over common crew widths rows) reply.report)
  pub status : reply.status ≡ status_of reply.report

-- a race over rows that may have a fault: then nothing was sent or seen, and the reply says the fault
abbrev pub RacedIn : Common → Crew → Result (List Row) RowFault → List (List Message) → (AllSeen → Type 0) → Reply → Type 0
RacedIn common crew (Err fault) sent grew reply = (sent ≡ []) × grew (alike nothing) × (reply ≡ row_refusal fault)
RacedIn common crew (Ok rows) sent grew reply = RacedOver common crew rows sent grew reply

-- a race over what reading gave: a race reads its input
abbrev pub RacedFrom : Common → Crew → Reading → List (List Message) → (AllSeen → Type 0) → Reply → Type 0
RacedFrom common crew Untouched sent grew reply = ⊥
RacedFrom common crew Broken sent grew reply = (sent ≡ []) × grew (alike nothing) × (reply ≡ single 3 lines.ReadFault)
RacedFrom common crew Long sent grew reply = (sent ≡ []) × grew (alike nothing) × (reply ≡ single 5 lines.TooLong)
RacedFrom common crew (Whole bytes) sent grew reply = RacedIn common crew (rows_in common bytes) sent grew reply

-- what words come to, which may be refused: then nothing was read, sent or seen. Words that begin with `race` say no other command
abbrev pub RacedBy : Result Command WordFault → Reading → List (List Message) → (AllSeen → Type 0) → Reply → Type 0
RacedBy (Err fault) reading sent grew reply = (reading ≡ Untouched) × (sent ≡ []) × grew (alike nothing) × (reply ≡ refusal fault)
RacedBy (Ok (commands.Race common writers askers rounds)) reading sent grew reply =
    RacedFrom common (crew_of common writers askers rounds) reading sent grew reply
RacedBy (Ok (commands.Ask common)) reading sent grew reply = ⊥
RacedBy (Ok (commands.Replay common schedule)) reading sent grew reply = ⊥
RacedBy (Ok (commands.Make common number count)) reading sent grew reply = ⊥
RacedBy (Ok (commands.Trace common)) reading sent grew reply = ⊥
RacedBy (Ok (commands.Tamper common shifts)) reading sent grew reply = ⊥
RacedBy (Ok (commands.Tree common low high)) reading sent grew reply = ⊥
RacedBy (Ok (commands.Groups common groups)) reading sent grew reply = ⊥

-- The source was met in one of its ways, these messages went over the wires, the reply is one that a race may come to with them, and the
-- trace grew by what the servers see of its report.
pub record RaceReplies (command : Result Command WordFault) (source : Change) (carried : List (List Message) → Type 0)
    (grew : AllSeen → Type 0) (reply : Reply) : Type 0 where
  pub reading : Reading
  pub reads : Reads most_bytes reading source
  pub sent : List (List Message)
  pub went : carried sent
  pub raced : RacedBy command reading sent grew reply

-- The whole race, unless out of memory: such a reply, put into the sink.
pub record Races (command : Result Command WordFault) (source : Change) (carried : List (List Message) → Type 0)
    (grew : AllSeen → Type 0) (sink : Change) (status : ℕ) : Type 0 where
  pub reply : Reply
  pub replies : RaceReplies command source carried grew reply
  pub puts : Puts reply sink status

-- the messages of a race over rows, which may have a fault, as far as it came
abbrev pub CarriedIn : Common → Crew → Result (List Row) RowFault → List (List Message) → Type 0
CarriedIn common crew (Err fault) sent = sent ≡ []
CarriedIn common crew (Ok rows) sent =
    (widths : Widths) × AreWidthsOf common.schema widths × IsCarried (race_over common crew widths rows) sent

abbrev pub CarriedFrom : Common → Crew → Reading → List (List Message) → Type 0
CarriedFrom common crew Untouched sent = sent ≡ []
CarriedFrom common crew Broken sent = sent ≡ []
CarriedFrom common crew Long sent = sent ≡ []
CarriedFrom common crew (Whole bytes) sent = CarriedIn common crew (rows_in common bytes) sent

-- none, or those of a race over what reading gave
abbrev pub CarriedFor : Result Command WordFault → Change → List (List Message) → Type 0
CarriedFor (Err fault) source sent = sent ≡ []
CarriedFor (Ok (commands.Race common writers askers rounds)) source sent =
    (sent ≡ []) ⊎ ((reading : Reading) × Reads most_bytes reading source
    × CarriedFrom common (crew_of common writers askers rounds) reading sent)
CarriedFor (Ok (commands.Ask common)) source sent = sent ≡ []
CarriedFor (Ok (commands.Replay common schedule)) source sent = sent ≡ []
CarriedFor (Ok (commands.Make common number count)) source sent = sent ≡ []
CarriedFor (Ok (commands.Trace common)) source sent = sent ≡ []
CarriedFor (Ok (commands.Tamper common shifts)) source sent = sent ≡ []
CarriedFor (Ok (commands.Tree common low high)) source sent = sent ≡ []
CarriedFor (Ok (commands.Groups common groups)) source sent = sent ≡ []

-- Whether or not memory ran out, the wires carried the first of the messages that a race over the input's rows has, if any.
pub record RaceCarries (command : Result Command WordFault) (source : Change) (carried : List (List Message) → Type 0) : Type 0 where
  pub sent : List (List Message)
  pub went : carried sent
  pub begun : CarriedFor command source sent

-- all that a race asks, over any rows, in the order in which its report prints it
abbrev pub race_questions : Common → Crew → Widths → List Question
race_questions common crew w = all_questions (race_over common crew w [])

-- a trace grew by a prefix of what the servers see of the first queries of a race, over some numbers of rows
abbrev pub SeesFirst : Common → Crew → AllSeen → AllSeen → Type 0
SeesFirst common crew old new =
    (w : Widths) × AreWidthsOf common.schema w × (ns : List ℕ) × GrewPrefix old new (asked_seen w (race_questions common crew w) ns)

abbrev pub SeesFirstOf : Result Command WordFault → AllSeen → AllSeen → Type 0
SeesFirstOf (Ok (commands.Race common writers askers rounds)) old new = SeesFirst common (crew_of common writers askers rounds) old new
SeesFirstOf command old new = ⊥

-- Out of memory: the trace stays, or grew by such a prefix.
abbrev pub SeesUpTo : Result Command WordFault → AllSeen → AllSeen → Type 0
SeesUpTo command old new = (new ≡ old) ⊎ SeesFirstOf command old new
