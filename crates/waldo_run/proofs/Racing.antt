-- What a race comes to.
use Rattle.std.proofs.Common.{◌≡◌, ◌∙◌, ◌⊎◌, inl, inr, refl, sym, ap, subst, ℕ, ◌≤◌, Bool, true, false, codes, cond, List, [], ◌∷◌, All, append-nil, length, arith}
use Rattle.std.specs.Prelude.{◌≢◌, Result, Ok, Err, IfOk, OnErr, ok_or}
use Rattle.std.specs.List.{list_any}
use Rattle.std.proofs.lemmas.Slice.Eq.{bytes_eq-Decides}
use Rattle.query_plan.specs.Query.{AreWidthsOf}
use Rattle.race_play.specs.Reports.{Reports, is_altered}
use Rattle.race_play.specs.Seen.{NotesFirst, report_seen, rows_answered}
use Rattle.race_play.specs.Settings.{IsSetting}
use Rattle.race_play.specs.declared.setting.Crew.{Crew}
use Rattle.report_lines.specs.declared.lines.Line.{Line}
use Rattle.ring128.specs.declared.memory.Memory.{Memory}
use Rattle.row_source.specs.Input.{HasReadFault, Reading, Reads, most_bytes}
use Rattle.row_source.specs.Input.Reading.{Untouched, Whole, Long, Broken}
use Rattle.row_source.specs.declared.faults.RowFault.{RowFault}
use Rattle.row_source.specs.declared.faults.RowFault.TheVariants as row
use Rattle.row_source.specs.declared.input.ReadFault.{ReadFault}
use Rattle.row_source.specs.declared.input.ReadFault.TheVariants as input
use Rattle.table_schema.specs.Schema.{schema_of}
use Rattle.table_schema.specs.Widths.{Holds}
use Rattle.table_schema.specs.declared.faults.SchemaFault.{SchemaFault}
use Rattle.table_schema.specs.declared.rows.Row.{Row}
use Rattle.table_schema.specs.declared.schema.Column.{Column}
use Rattle.table_schema.specs.declared.widths.Widths.{Widths}
use Rattle.text_reading.specs.Reading.{◌>>=◌, guard}
use Rattle.visit_trace.specs.Growing.{prefix_whole}
use Rattle.visit_trace.specs.Seen.{AllSeen, Grew, SawMore, Seen, alike, nothing}
use Rattle.waldo_words.specs.Legal.{IsRace}
use Rattle.waldo_words.specs.Options.{command_named}
use Rattle.waldo_words.specs.Words.{after_command, after_schema, beginning, command_of, command_with, finished, has_query, options_from}
use Rattle.waldo_words.specs.declared.command.Common.{Common}
use Rattle.waldo_words.specs.declared.command.Command.{Command}
use Rattle.waldo_words.specs.declared.command.Command.TheVariants as commands
use Rattle.waldo_words.specs.declared.faults.WordFault.{WordFault}
use Rattle.waldo_words.specs.declared.faults.WordFault.TheVariants.{Missing, Word}
use Rattle.wire_line.specs.declared.message.Message.{Message}
use Rattle.waldo_run.specs.Races.{CarriedFor, CarriedIn, IsRacing, RaceCarries, RaceReplies, RacedBy, RacedFrom, RacedIn, RacedOver, SeesFirst, SeesUpTo}
use Rattle.waldo_run.specs.Races.{begin_race, command_at, crew_of, race_over, race_questions}
use Rattle.waldo_run.specs.Replies.{Reply, refusal, row_refusal, unread}
use Rattle.waldo_run.specs.Tasks.{rows_in}
use Rattle.waldo_run.specs.Words.{command_in}
use Rattle.waldo_run.proofs.Settings.{is_setting}
use Rattle.fault_count.specs.Streams.{Change}

-- what is said of the command of words that don't begin with `race`
pub by_other : (P : Result Command WordFault → Type 0) (words : List (List ℕ)) → begin_race words ≡ false → P (command_in words) → P (command_at words)
by_other P words other = subst P (sym (ap (λ (b : Bool). cond b (command_of words) (command_in words)) other))

-- what is said of the command of words that do
pub by_race : (P : Result Command WordFault → Type 0) (words : List (List ℕ)) → begin_race words ≡ true → P (command_at words) → P (command_of words)
by_race P words is = subst P (ap (λ (b : Bool). cond b (command_of words) (command_in words)) is)

-- the setting of a race is legal
race_legal : (c : Common) (crew : Crew) (w : Widths) (rows : List Row) → IsRace c crew.writers crew.askers crew.rounds → AreWidthsOf c.schema w → All (Holds w) rows
    → length rows ≤ c.capacity → IsSetting (race_over c crew w rows)
race_legal c crew w rows race of held few =
    let s = is_setting c w rows race.common of held few in
    record {
      held = held;
      fits = s.fits;
      writers = omega (arith, race.writers);
      askers = (omega (arith, race.askers), race.askers.1);
      queries = record { some = omega (arith, race.common.some); few = race.common.few; suits = s.suits };
    }

-- a race that has come to an end
pub raced_over : (c : Common) (crew : Crew) (w : Widths) (rows : List Row) (sent : List (List Message)) (grew : AllSeen → Type 0) (report : List Line) (altered : Bool) (reply : Reply)
    → IsRace c crew.writers crew.askers crew.rounds → AreWidthsOf c.schema w → All (Holds w) rows → length rows ≤ c.capacity
    → Reports (race_over c crew w rows) sent report → grew (report_seen (race_over c crew w rows) report) → altered ≡ list_any is_altered report → reply ≡ record { status = cond altered 7 0; report = report }
    → RacedOver c crew rows sent grew reply
raced_over c crew w rows sent grew report altered reply race of held few reports sees said is =
    subst (RacedOver c crew rows sent grew) (sym is)
    (record { widths = w; of = of; legal = race_legal c crew w rows race of held few; reports = reports; sees = sees; status = ap (λ (b : Bool). cond b 7 0) said })

-- all bytes of an input were read
pub whole_raced : (c : Common) (crew : Crew) (source : Change) (bytes : List ℕ) (carried : List (List Message) → Type 0) (grew : AllSeen → Type 0) → crew ≡ crew_of c crew.writers crew.askers crew.rounds
    → Reads most_bytes (Whole bytes) source → (result : Result Reply Memory)
    → IfOk result (λ (reply : Reply). (sent : List (List Message)) × carried sent × RacedIn c crew (rows_in c bytes) sent grew reply)
    → IfOk result (RaceReplies (Ok (commands.Race c crew.writers crew.askers crew.rounds)) source carried grew)
whole_raced c crew source bytes carried grew same reads (Err memory) h = tt
whole_raced c crew source bytes carried grew same reads (Ok reply) h = record {
  reading = Whole bytes;
  reads = reads;
  sent = h.0;
  went = h.1;
  raced = subst (λ (k : Crew). RacedIn c k (rows_in c bytes) h.0 grew reply) same h.2;
}

-- ---- refusals: nothing was carried, and nothing seen

module _ (carried : List (List Message) → Type 0) (grew : AllSeen → Type 0) (none : carried []) (still : grew (alike nothing)) where
  pub rows_refused : (c : Common) (crew : Crew) (rows : Result (List Row) RowFault) (fault : RowFault) → (fault ≢ row.Memory → rows ≡ Err fault) → (result : Result Reply Memory)
      → IfOk result (λ (reply : Reply). (reply ≡ row_refusal fault) × (fault ≢ row.Memory))
      → IfOk result (λ (reply : Reply). (sent : List (List Message)) × carried sent × RacedIn c crew rows sent grew reply)
  rows_refused c crew rows fault is (Ok reply) h = ([], none, subst (λ r. RacedIn c crew r [] grew reply) (sym (is h.1)) (refl, still, h.0))
  rows_refused c crew rows fault is (Err memory) h = tt

  unread_raced : (c : Common) (writers askers rounds : ℕ) (source : Change) (fault : ReadFault) (reply : Reply) → HasReadFault most_bytes fault source → reply ≡ unread fault → fault ≢ input.Memory
      → RaceReplies (Ok (commands.Race c writers askers rounds)) source carried grew reply
  unread_raced c writers askers rounds source input.Failed reply reads is some = record { reading = Broken; reads = reads; sent = []; went = none; raced = (refl, still, is) }
  unread_raced c writers askers rounds source input.TooLong reply reads is some = record { reading = Long; reads = reads; sent = []; went = none; raced = (refl, still, is) }
  unread_raced c writers askers rounds source input.Memory reply reads is some = absurd (some refl)

  pub input_refused : (c : Common) (writers askers rounds : ℕ) (source : Change) (fault : ReadFault) → HasReadFault most_bytes fault source → (result : Result Reply Memory)
      → IfOk result (λ (reply : Reply). (reply ≡ unread fault) × (fault ≢ input.Memory)) → IfOk result (RaceReplies (Ok (commands.Race c writers askers rounds)) source carried grew)
  input_refused c writers askers rounds source fault reads (Ok reply) h = unread_raced c writers askers rounds source fault reply reads h.0 h.1
  input_refused c writers askers rounds source fault reads (Err memory) h = tt

  pub words_refused : (command : Result Command WordFault) (source : Change) (fault : WordFault) (reply : Reply) → command ≡ Err fault → Reads most_bytes Untouched source → reply ≡ refusal fault
      → RaceReplies command source carried grew reply
  words_refused command source fault reply is reads same =
      subst (λ (k : Result Command WordFault). RaceReplies k source carried grew reply) (sym is)
      (record { reading = Untouched; reads = reads; sent = []; went = none; raced = (refl, refl, still, same) })

-- ---- what was seen, as far as a race came

seen_still : (a b : Seen) → SawMore a b nothing → b ≡ a
seen_still a b e =
    ap (λ v. record { visits = v; lengths = b.lengths }) (e.visits ∙ append-nil a.visits) ∙ ap (λ (l : List ℕ). record { visits = a.visits; lengths = l }) (e.lengths ∙ append-nil a.lengths)

-- a trace that grew by nothing stays
grew_still : (a b : AllSeen) → Grew a b (alike nothing) → b ≡ a
grew_still a b e =
    ap (λ (s : Seen). record { zero = s; one = b.one; two = b.two }) (seen_still a.zero b.zero e.zero)
    ∙ ap (λ (s : Seen). record { zero = a.zero; one = s; two = b.two }) (seen_still a.one b.one e.one)
    ∙ ap (λ (s : Seen). record { zero = a.zero; one = a.one; two = s }) (seen_still a.two b.two e.two)

module _ (a b : AllSeen) where
  rows_part : (c : Common) (crew : Crew) (rows : Result (List Row) RowFault) (sent : List (List Message)) (reply : Reply) → RacedIn c crew rows sent (Grew a b) reply → (b ≡ a) ⊎ SeesFirst c crew a b
  rows_part c crew (Err fault) sent reply r = inl (grew_still a b r.1)
  rows_part c crew (Ok rows) sent reply r = inr (r.widths, r.of, rows_answered reply.report, prefix_whole a b (report_seen (race_over c crew r.widths rows) reply.report) r.sees)

  reading_part : (c : Common) (crew : Crew) (reading : Reading) (sent : List (List Message)) (reply : Reply) → RacedFrom c crew reading sent (Grew a b) reply → (b ≡ a) ⊎ SeesFirst c crew a b
  reading_part c crew Untouched sent reply r = absurd r
  reading_part c crew Broken sent reply r = inl (grew_still a b r.1)
  reading_part c crew Long sent reply r = inl (grew_still a b r.1)
  reading_part c crew (Whole bytes) sent reply r = rows_part c crew (rows_in c bytes) sent reply r

  command_part : (command : Result Command WordFault) (reading : Reading) (sent : List (List Message)) (reply : Reply) → RacedBy command reading sent (Grew a b) reply → SeesUpTo command a b
  command_part (Err fault) reading sent reply r = inl (grew_still a b r.2)
  command_part (Ok (commands.Race c writers askers rounds)) reading sent reply r = reading_part c (crew_of c writers askers rounds) reading sent reply r
  command_part (Ok (commands.Ask c)) reading sent reply r = absurd r
  command_part (Ok (commands.Replay c schedule)) reading sent reply r = absurd r
  command_part (Ok (commands.Make c number count)) reading sent reply r = absurd r
  command_part (Ok (commands.Trace c)) reading sent reply r = absurd r
  command_part (Ok (commands.Tamper c shifts)) reading sent reply r = absurd r
  command_part (Ok (commands.Tree c low high)) reading sent reply r = absurd r
  command_part (Ok (commands.Groups c groups)) reading sent reply r = absurd r

  -- a reply that could not be put, as memory ran out
  pub replied_part : (command : Result Command WordFault) (source : Change) (carried : List (List Message) → Type 0) (reply : Reply) → RaceReplies command source carried (Grew a b) reply
      → SeesUpTo command a b
  replied_part command source carried reply r = command_part command r.reading r.sent reply r.raced

  -- a race over rows, out of memory
  pub first_part : (c : Common) (crew : Crew) (w : Widths) → AreWidthsOf c.schema w → NotesFirst w (race_questions c crew w) a b → SeesFirst c crew a b
  first_part c crew w of h = (w, of, h.rows, h.grew)

  -- the crew as the words say it
  pub crew_part : (c : Common) (crew : Crew) → crew ≡ crew_of c crew.writers crew.askers crew.rounds → (result : Result Reply Memory)
      → OnErr result ((b ≡ a) ⊎ SeesFirst c crew a b) → OnErr result (SeesUpTo (Ok (commands.Race c crew.writers crew.askers crew.rounds)) a b)
  crew_part c crew same result h = subst (λ (k : Crew). OnErr result ((b ≡ a) ⊎ SeesFirst c k a b)) same h

-- ---- what was carried

pub whole_carried : (c : Common) (crew : Crew) (source : Change) (bytes : List ℕ) (carried : List (List Message) → Type 0) → crew ≡ crew_of c crew.writers crew.askers crew.rounds
    → Reads most_bytes (Whole bytes) source → (sent : List (List Message)) → carried sent → (sent ≡ []) ⊎ CarriedIn c crew (rows_in c bytes) sent
    → RaceCarries (Ok (commands.Race c crew.writers crew.askers crew.rounds)) source carried
whole_carried c crew source bytes carried same reads sent went how = record {
  sent = sent;
  went = went;
  begun = elim how [
    | inl none ↦ inl none
    | inr begun ↦ inr (Whole bytes, reads, subst (λ (k : Crew). CarriedIn c k (rows_in c bytes) sent) same begun)
  ];
}

no_message : (command : Result Command WordFault) (source : Change) → CarriedFor command source []
no_message (Err fault) source = refl
no_message (Ok (commands.Ask c)) source = refl
no_message (Ok (commands.Replay c schedule)) source = refl
no_message (Ok (commands.Race c writers askers rounds)) source = inl refl
no_message (Ok (commands.Make c number count)) source = refl
no_message (Ok (commands.Trace c)) source = refl
no_message (Ok (commands.Tamper c shifts)) source = refl
no_message (Ok (commands.Tree c low high)) source = refl
no_message (Ok (commands.Groups c groups)) source = refl

pub none_carried : (command : Result Command WordFault) (source : Change) (carried : List (List Message) → Type 0) → carried [] → RaceCarries command source carried
none_carried command source carried none = record { sent = []; went = none; begun = no_message command source }

-- ---- words that begin with `race` say no other command

ok_same : {A E : Type 0} {x y : A} → ◌≡◌ {A = Result A E} (Ok x) (Ok y) → x ≡ y
ok_same e = cc

-- what comes of one result after another
both : {A B E : Type 0} (P : B → Type 0) (r : Result A E) (f : A → Result B E) (c : B) → ((x : A) → r ≡ Ok x → f x ≡ Ok c → P c) → (r >>= f) ≡ Ok c → P c
both P (Err why) f c each e = absurd cc
both P (Ok x) f c each e = each x refl e

of_found : (words : List (List ℕ)) (k : _) (columns : List Column) (found : _) (c : Command) → ok_or (command_named (codes "race")) (Word 0) ≡ Ok k → finished words k columns found ≡ Ok c → IsRacing c
unfolding command_named finished
of_found words k columns found c is e =
    both IsRacing (guard (has_query found) (Missing (codes "--query"))) (λ _. ok_or (command_named (codes "race")) (Word 0) >>= λ r. command_with words r columns found) c
    (λ _ _ q. subst IsRacing (ok_same q) tt) (rw (← ok_same is) at e)

of_options : (columns : List Column) (words : List (List ℕ)) (c : Command)
    → (ok_or (command_named (codes "race")) (Word 0) >>= λ k. options_from k columns 2 beginning words >>= λ found. finished words k columns found) ≡ Ok c → IsRacing c
of_options columns words c e =
    both IsRacing (ok_or (command_named (codes "race")) (Word 0)) (λ k. options_from k columns 2 beginning words >>= λ found. finished words k columns found) c
    (λ k is q. both IsRacing (options_from k columns 2 beginning words) (λ found. finished words k columns found) c (λ found _ f. of_found words k columns found c is f) q) e

of_schema : (words : List (List ℕ)) (r : Result (List Column) SchemaFault) (c : Command) → (ok_or (command_named (codes "race")) (Word 0) >>= λ k. after_schema k words r) ≡ Ok c → IsRacing c
unfolding command_named
of_schema words (Err why) c e = absurd cc
of_schema words (Ok columns) c e = of_options columns words c e

of_command : (words : List (List ℕ)) (c : Command) → (ok_or (command_named (codes "race")) (Word 0) >>= λ k. after_command k words) ≡ Ok c → IsRacing c
unfolding command_named
of_command [] c e = absurd cc
of_command (word ∷ words) c e = of_schema words (schema_of word) c e

pub only_race : (words : List (List ℕ)) (c : Command) → begin_race words ≡ true → command_of words ≡ Ok c → IsRacing c
unfolding command_of
only_race [] c b e = absurd cc
only_race (word ∷ words) c b e =
    let is : word ≡ codes "race" = (bytes_eq-Decides word (codes "race")).0 b in
    of_command words c (rw (is) at e)
