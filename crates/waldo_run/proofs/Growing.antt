-- How the trace of a run grows.
use Rattle.std.proofs.Common.{◌≡◌, ◌∙◌, refl, sym, ap, subst, ℕ, inl, inr, true, false, List, length}
use Rattle.std.specs.Prelude.{◌≢◌, IfOk, IsErr, Result, Ok, Err}
use Rattle.fault_count.specs.Streams.{Change}
use Rattle.query_plan.specs.declared.group.GroupQuery.{GroupQuery}
use Rattle.ring128.specs.declared.memory.Memory.{Memory}
use Rattle.row_source.specs.Input.{HasReadFault, Reading, Reads, most_bytes}
use Rattle.row_source.specs.Input.Reading.{Untouched, Whole, Long, Broken}
use Rattle.row_source.specs.declared.faults.RowFault.{RowFault}
use Rattle.row_source.specs.declared.faults.RowFault.TheVariants as row
use Rattle.row_source.specs.declared.input.ReadFault.{ReadFault}
use Rattle.row_source.specs.declared.input.ReadFault.TheVariants as input
use Rattle.schedule_play.specs.Tasks.{Setting, scheduled}
use Rattle.schedule_play.specs.Traces.{AddsTraces, asked_sizes, sizes_in, traces_of}
use Rattle.schedule_play.specs.declared.play.PlayFault.{PlayFault}
use Rattle.schedule_play.specs.declared.play.PlayFault.TheVariants as faults
use Rattle.schedule_play.specs.declared.play.Played.{Played}
use Rattle.table_schema.specs.declared.rows.Row.{Row}
use Rattle.table_schema.specs.declared.widths.Widths.{Widths}
use Rattle.visit_trace.specs.Growing.{grew_nothing, prefix_none, prefix_whole}
use Rattle.visit_trace.specs.Seen.{AllSeen, Grew, GrewBy, GrewPrefix, alike, nothing}
use Rattle.visit_trace.specs.declared.sizes.Sizes.{Sizes}
use Rattle.waldo_words.specs.declared.command.Command.{Command}
use Rattle.waldo_words.specs.declared.command.Command.TheVariants as commands
use Rattle.waldo_words.specs.declared.command.Common.{Common}
use Rattle.waldo_words.specs.declared.faults.WordFault.{WordFault}
use Rattle.waldo_words.specs.declared.schedule.Step.{Step}
use Rattle.waldo_run.specs.Buckets.{group_traces}
use Rattle.waldo_run.specs.Grown.{Sees, SeesAt, SeesIn, SeesPart, Traces, TracesOf, sizes_by, trace_by}
use Rattle.waldo_run.specs.Replies.{IsReplyOf, Reply}
use Rattle.waldo_run.specs.Tasks.{AreWidthsIn, common_in, reads_input, rows_in, rows_made, setting_of}
use Rattle.waldo_run.proofs.Begun.{read_suits, unread_suits}

-- ---- the steps of a command

module _ (w v : Widths) (rows : List Row) (seen : Setting) (a b : AllSeen) (r : Result Played PlayFault) (same : v ≡ w) where
  -- other sizes that are the same
  over : (command : Command) (zs : List Sizes) → zs ≡ sizes_by command w rows → AddsTraces zs a b r → AddsTraces (sizes_by command w rows) a b r
  over command zs e p = subst (λ (l : List Sizes). AddsTraces l a b r) e p

  asked : (common : Common) → seen ≡ setting_of common rows → asked_sizes v (length seen.rows) seen.queries ≡ asked_sizes w (length rows) common.queries
  asked common e = ap (λ (s : Setting). asked_sizes v (length s.rows) s.queries) e ∙ ap (λ (u : Widths). asked_sizes u (length rows) common.queries) same

  pub ask_adds : (command : Command) (common : Common) → command ≡ commands.Ask common → seen ≡ setting_of common rows
      → AddsTraces (asked_sizes v (length seen.rows) seen.queries) a b r → AddsTraces (sizes_by command w rows) a b r
  ask_adds command common is e p = over command _ (asked common e ∙ sym (ap (λ (c : Command). sizes_by c w rows) is)) p

  pub trace_adds : (command : Command) (common : Common) → command ≡ commands.Trace common → seen ≡ setting_of common rows
      → AddsTraces (asked_sizes v (length seen.rows) seen.queries) a b r → AddsTraces (sizes_by command w rows) a b r
  trace_adds command common is e p = over command _ (asked common e ∙ sym (ap (λ (c : Command). sizes_by c w rows) is)) p

  pub make_adds : (command : Command) (common : Common) (number count : ℕ) → command ≡ commands.Make common number count → seen ≡ setting_of common rows
      → AddsTraces (asked_sizes v (length seen.rows) seen.queries) a b r → AddsTraces (sizes_by command w rows) a b r
  make_adds command common number count is e p = over command _ (asked common e ∙ sym (ap (λ (c : Command). sizes_by c w rows) is)) p

  pub tamper_adds : (command : Command) (common : Common) (words : _) → command ≡ commands.Tamper common words → seen ≡ setting_of common rows
      → AddsTraces (asked_sizes v (length seen.rows) seen.queries) a b r → AddsTraces (sizes_by command w rows) a b r
  tamper_adds command common words is e p = over command _ (asked common e ∙ sym (ap (λ (c : Command). sizes_by c w rows) is)) p

  pub replay_adds : (command : Command) (common : Common) (schedule steps : List Step) → command ≡ commands.Replay common schedule → seen ≡ setting_of common rows → steps ≡ schedule
      → AddsTraces (sizes_in v (scheduled seen steps)) a b r → AddsTraces (sizes_by command w rows) a b r
  replay_adds command common schedule steps is e same_steps p =
      over command _
      (ap (λ (u : Widths). sizes_in u (scheduled seen steps)) same ∙ ap (λ (s : Setting). sizes_in w (scheduled s steps)) e
      ∙ ap (λ (xs : List Step). sizes_in w (scheduled (setting_of common rows) xs)) same_steps ∙ sym (ap (λ (c : Command). sizes_by c w rows) is)) p

-- ---- the reply to them

module _ (zs : List Sizes) (a b : AllSeen) where
  begun : (r : Result Played PlayFault) → AddsTraces zs a b r → GrewPrefix a b (traces_of zs)
  begun (Ok p) g = prefix_whole a b (traces_of zs) g
  begun (Err (faults.NotAllowed t)) g = prefix_whole a b (traces_of zs) g
  begun (Err faults.Memory) g = g

  -- out of memory
  pub unreplied : (r : Result Played PlayFault) → AddsTraces zs a b r → (result : Result Reply Memory) → IsErr result → GrewBy a b (traces_of zs) result
  unreplied r g (Ok reply) failed = absurd cc
  unreplied r g (Err memory) failed = begun r g

  -- where there is a reply to them, and then one or none
  replied : (r : Result Played PlayFault) (first : Reply) → IsReplyOf r first → AddsTraces zs a b r → Grew a b (traces_of zs)
  replied (Ok p) first is g = g
  replied (Err (faults.NotAllowed t)) first is g = g
  replied (Err faults.Memory) first is g = absurd is

  pub reported_adds : (r : Result Played PlayFault) (first : Reply) → IsReplyOf r first → AddsTraces zs a b r → (result : Result Reply Memory) → GrewBy a b (traces_of zs) result
  reported_adds r first is g (Ok reply) = replied r first is g
  reported_adds r first is g (Err memory) = begun r g

-- ---- rows, and none

none_grew : (t : AllSeen) (result : Result Reply Memory) → GrewBy t t (alike nothing) result
none_grew t (Ok reply) = grew_nothing t
none_grew t (Err memory) = prefix_none t (alike nothing)

-- a range of places adds nothing
pub range_adds : (command : Command) (c : Common) (low high : ℕ) (w : Widths) (rows : List Row) (t : AllSeen) (result : Result Reply Memory)
    → command ≡ commands.Tree c low high → GrewBy t t (trace_by command w rows) result
range_adds command c low high w rows t result is =
    subst (λ (x : Command). GrewBy t t (trace_by x w rows) result) (sym is) (none_grew t result)

-- queries by the buckets of a column
pub groups_add : (command : Command) (c : Common) (groups said : List GroupQuery) (w v : Widths) (rows : List Row) (seen : Setting) (a b : AllSeen) (result : Result Reply Memory)
    → command ≡ commands.Groups c groups → v ≡ w → seen ≡ setting_of c rows → said ≡ groups → GrewBy a b (group_traces v (length seen.rows) said) result
    → GrewBy a b (trace_by command w rows) result
groups_add command c groups said w v rows seen a b result is same setting these g =
    subst (λ (t : AllSeen). GrewBy a b t result)
    (ap (λ (u : Widths). group_traces u (length seen.rows) said) same ∙ ap (λ (s : Setting). group_traces w (length s.rows) said) setting
    ∙ ap (group_traces w (length rows)) these ∙ sym (ap (λ (x : Command). trace_by x w rows) is)) g

-- nothing was seen, as memory ran out
pub no_sees : (command : Command) (w : Widths) → AreWidthsIn command w → (rows : Result (List Row) RowFault) (t : AllSeen) → SeesIn command (GrewPrefix t t) rows
no_sees command w of (Ok rows) t = (w, of, prefix_none t (trace_by command w rows))
no_sees command w of (Err fault) t = prefix_none t (alike nothing)

-- rows with a fault
pub fault_sees : (command : Command) (w : Widths) → AreWidthsIn command w → (fault : RowFault) (rows : Result (List Row) RowFault) (t : AllSeen)
    → (fault ≢ row.Memory → rows ≡ Err fault) → (result : Result Reply Memory) → IfOk result (λ (reply : Reply). fault ≢ row.Memory)
    → SeesIn command (λ (part : AllSeen). GrewBy t t part result) rows
fault_sees command w of fault rows t is (Ok reply) some = subst (SeesIn command (λ (part : AllSeen). Grew t t part)) (sym (is some)) (grew_nothing t)
fault_sees command w of fault rows t is (Err memory) some = no_sees command w of rows t

pub none_sees : (command : Command) (w : Widths) → AreWidthsIn command w → (rows : Result (List Row) RowFault) (t : AllSeen) (result : Result Reply Memory) → IsErr result
    → SeesIn command (λ (part : AllSeen). GrewBy t t part result) rows
none_sees command w of rows t (Ok reply) failed = absurd cc
none_sees command w of rows t (Err memory) failed = no_sees command w of rows t

pub rows_see : (command : Command) (w : Widths) → AreWidthsIn command w → (rows : List Row) (r : Result (List Row) RowFault) → r ≡ Ok rows → (a b : AllSeen) (result : Result Reply Memory)
    → GrewBy a b (trace_by command w rows) result → SeesIn command (λ (part : AllSeen). GrewBy a b part result) r
rows_see command w of rows r is a b result g = subst (SeesIn command (λ (part : AllSeen). GrewBy a b part result)) (sym is) (w, of, g)

-- ---- the source

pub whole_sees : (command : Command) (source : Change) (bytes : List ℕ) → reads_input command ≡ true → Reads most_bytes (Whole bytes) source → (a b : AllSeen) (result : Result Reply Memory)
    → SeesIn command (λ (part : AllSeen). GrewBy a b part result) (rows_in (common_in command) bytes) → TracesOf (Ok command) source a b result
whole_sees command source bytes e reads a b (Ok reply) s = (Whole bytes, read_suits command (Whole bytes) e (λ f. cc), reads, s)
whole_sees command source bytes e reads a b (Err memory) s = inr (Whole bytes, read_suits command (Whole bytes) e (λ f. cc), reads, s)

pub made_sees : (command : Command) (source : Change) → reads_input command ≡ false → Reads most_bytes Untouched source → (a b : AllSeen) (result : Result Reply Memory)
    → SeesIn command (λ (part : AllSeen). GrewBy a b part result) (Ok (rows_made command)) → TracesOf (Ok command) source a b result
made_sees command source e reads a b (Ok reply) s = (Untouched, unread_suits command e, reads, s)
made_sees command source e reads a b (Err memory) s = inr (Untouched, unread_suits command e, reads, s)

-- an input that was not read whole
unread_at : (command : Command) (fault : ReadFault) (source : Change) → reads_input command ≡ true → HasReadFault most_bytes fault source → fault ≢ input.Memory → (t : AllSeen)
    → Sees (Ok command) source (Grew t t)
unread_at command input.Failed source e reads some t = (Broken, read_suits command Broken e (λ f. cc), reads, grew_nothing t)
unread_at command input.TooLong source e reads some t = (Long, read_suits command Long e (λ f. cc), reads, grew_nothing t)
unread_at command input.Memory source e reads some t = absurd (some refl)

pub unread_sees : (command : Command) (fault : ReadFault) (source : Change) → reads_input command ≡ true → HasReadFault most_bytes fault source → (t : AllSeen) (result : Result Reply Memory)
    → IfOk result (λ (reply : Reply). fault ≢ input.Memory) → TracesOf (Ok command) source t t result
unread_sees command fault source e reads t (Ok reply) some = unread_at command fault source e reads some t
unread_sees command fault source e reads t (Err memory) some = inl refl

-- words that are refused
pub refused_sees : (command : Result Command WordFault) (source : Change) (t : AllSeen) (result : Result Reply Memory)
    → IfOk result (λ (reply : Reply). (fault : WordFault) × (command ≡ Err fault)) → TracesOf command source t t result
refused_sees command source t (Ok reply) is = subst (λ (k : Result Command WordFault). Sees k source (Grew t t)) (sym is.1) (grew_nothing t)
refused_sees command source t (Err memory) is = inl refl

-- ---- the status

module _ (a b : AllSeen) where
  in_part : (command : Command) (rows : Result (List Row) RowFault) → SeesIn command (Grew a b) rows → SeesIn command (GrewPrefix a b) rows
  in_part command (Err fault) g = prefix_whole a b (alike nothing) g
  in_part command (Ok rows) g = (g.0, g.1, prefix_whole a b (trace_by command g.0 rows) g.2)

  at_part : (command : Command) (reading : Reading) → SeesAt command (Grew a b) reading → SeesAt command (GrewPrefix a b) reading
  at_part command Untouched g = in_part command (Ok (rows_made command)) g
  at_part command Broken g = prefix_whole a b (alike nothing) g
  at_part command Long g = prefix_whole a b (alike nothing) g
  at_part command (Whole bytes) g = in_part command (rows_in (common_in command) bytes) g

  part : (command : Result Command WordFault) (source : Change) → Sees command source (Grew a b) → Sees command source (GrewPrefix a b)
  part (Err fault) source g = prefix_whole a b (alike nothing) g
  part (Ok command) source g = (g.0, g.1, g.2, at_part command g.0 g.3)

  -- a reply, whatever became of its text
  pub replied_traces : (command : Result Command WordFault) (source : Change) (status : ℕ) → Sees command source (Grew a b) → Traces command source a b status
  replied_traces command source status g = ((λ other. g), λ six. inr (part command source g))

  -- no reply
  pub unreplied_traces : (command : Result Command WordFault) (source : Change) → SeesPart command source a b → Traces command source a b 6
  unreplied_traces command source g = ((λ other. absurd (other refl)), λ six. g)
