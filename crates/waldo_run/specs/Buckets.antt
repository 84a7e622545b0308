-- The work of `groups`: queries by the buckets of a column, one after another over all rows.
use Rattle.std.specs.Prelude.{◌≡◌, ◌⊎◌, ⊤, ℕ, ◌+◌, ◌^◌, ◌<◌, List, [], ◌∷◌, ◌++◌, All, length, map, slice_index}
use Rattle.agreed_groups.specs.Answers.{groups_over, judged_groups}
use Rattle.agreed_rows.specs.Agreed.{Entries}
use Rattle.bucket_groups.specs.Grouped.{grouped}
use Rattle.bucket_groups.specs.Ending.{further_steps}
use Rattle.bucket_groups.specs.Seen.{group_trace}
use Rattle.bucket_groups.specs.declared.check.GroupAnswer.{GroupAnswer}
use Rattle.bucket_groups.specs.declared.check.GroupAnswer.TheVariants.{Good, Altered}
use Rattle.list_facts.specs.Listed.{listed}
use Rattle.prg_chacha.specs.Prg.{derive_of}
use Rattle.prg_chacha.specs.declared.seed.Seed.{Seed}
use Rattle.query_plan.specs.Query.{Suits}
use Rattle.query_plan.specs.declared.group.GroupQuery.{GroupQuery}
use Rattle.query_plan.specs.declared.query.Query.{Query}
use Rattle.report_lines.specs.declared.lines.Line.{Line}
use Rattle.report_lines.specs.declared.lines.Line.TheVariants as lines
use Rattle.ring128.specs.Ring.{plus}
use Rattle.schedule_play.specs.Appended.{seeded_rows}
use Rattle.schedule_play.specs.History.{Done}
use Rattle.schedule_play.specs.Tasks.{IsSetting, Setting}
use Rattle.schedule_play.specs.Traces.{sizes_over}
use Rattle.table_schema.specs.declared.shapes.Aggregate.{Aggregate}
use Rattle.table_schema.specs.declared.widths.Widths.{Widths}
use Rattle.transcript.specs.Setup.{Setup}
use Rattle.transcript.specs.Steps.{opening, place_of}
use Rattle.transcript.specs.Transcript.{IsPart, IsTranscript}
use Rattle.visit_trace.specs.Growing.{seen_then}
use Rattle.visit_trace.specs.Seen.{AllSeen, alike, nothing}
use Rattle.waldo_words.specs.declared.schedule.Step.TheVariants.{Answer}
use Rattle.wire_line.specs.Messages.{IsHonest, message_at}
use Rattle.wire_line.specs.declared.message.Message.{Message}

-- a legal query by the buckets of a column of these widths
pub record IsByColumn (w : Widths) (g : GroupQuery) : Type 0 where
  pub suits : Suits w.columns w.bits g.query
  pub there : g.column < w.columns

pub record AreBuckets (w : Widths) (s : Setting) (groups : List GroupQuery) : Type 0 where
  pub setting : IsSetting w s
  pub each : All (IsByColumn w) groups

-- ---- the messages

-- the seed of query i, as the queries of `ask` have theirs
abbrev pub seed_at : Setting → ℕ → Seed
seed_at s i = derive_of s.master 2 0 i

-- all rows
abbrev pub entries_in : Widths → Setting → Entries
entries_in w s = record { widths = w; all = seeded_rows s.master 0 s.rows }

-- query i over all rows
abbrev pub group_in : Widths → Setting → ℕ → GroupQuery → Setup
group_in w s i g = groups_over (entries_in w s) g.query g.column (seed_at s i)

-- all messages of the queries from i on, those of a query in one answer of actor 0
abbrev pub HasBuckets : Widths → Setting → ℕ → List GroupQuery → List Done → Type 0
HasBuckets w s i [] [] = ⊤
HasBuckets w s i [] (d ∷ ds) = ⊥
HasBuckets w s i (g ∷ gs) [] = ⊥
HasBuckets w s i (g ∷ gs) (d ∷ ds) = (d.step ≡ Answer 0 i) × IsTranscript (group_in w s i g) d.messages × HasBuckets w s (i + 1) gs ds

-- those of the first queries, and the first ones of the next
abbrev pub BeginsBuckets : Widths → Setting → ℕ → List GroupQuery → List Done → Type 0
BeginsBuckets w s i gs [] = ⊤
BeginsBuckets w s i [] (d ∷ ds) = ⊥
BeginsBuckets w s i (g ∷ gs) (d ∷ ds) =
    (d.step ≡ Answer 0 i)
    × ((IsTranscript (group_in w s i g) d.messages × BeginsBuckets w s (i + 1) gs ds) ⊎ (IsPart (group_in w s i g) d.messages × (ds ≡ [])))

-- ---- what they open

-- how many buckets a column has, by the bits of the columns
abbrev pub width_by : List ℕ → ℕ → ℕ
width_by bits column = 2 ^ slice_index bits column

-- what the messages of a query open in a run for bucket b: the sum of the three words that the client received
abbrev pub opened_for : Query → List Message → ℕ → ℕ → ℕ
opened_for q ms run b =
    let word = λ (k : ℕ). slice_index (message_at ms (place_of q.count (further_steps q.aggregate) run opening k)).received b in
    plus (plus (word 0) (word 1)) (word 2)

abbrev pub opened_buckets : List ℕ → GroupQuery → List Message → ℕ → List ℕ
opened_buckets bits g ms run = listed (width_by bits g.column) (opened_for g.query ms run)

-- what the check says of each bucket's own pair
abbrev pub checked_buckets : List ℕ → Setting → ℕ → GroupQuery → List Message → List GroupAnswer
checked_buckets bits s i g ms = judged_groups g.query (seed_at s i) (opened_buckets bits g ms 0) (opened_buckets bits g ms 1)

-- the plain answer over the rows of each bucket
abbrev pub plain_buckets : List ℕ → Setting → GroupQuery → List GroupAnswer
plain_buckets bits s g = map Good (grouped g.query g.column (width_by bits g.column) s.rows)

-- of messages that were received as they were sent the check says the plain answers
abbrev pub ArePlainBuckets : List ℕ → Setting → ℕ → List GroupQuery → List Done → Type 0
ArePlainBuckets bits s i [] ds = ⊤
ArePlainBuckets bits s i (g ∷ gs) [] = ⊤
ArePlainBuckets bits s i (g ∷ gs) (d ∷ ds) =
    (IsHonest d.messages → checked_buckets bits s i g d.messages ≡ plain_buckets bits s g) × ArePlainBuckets bits s (i + 1) gs ds

-- ---- the lines

-- the line of a bucket
abbrev pub bucket_line : ℕ → ℕ → Aggregate → ℕ → GroupAnswer → Line
bucket_line i rows aggregate b (Good total) = lines.Group i b rows aggregate total
bucket_line i rows aggregate b (Altered total weighted) = lines.GroupAltered i b total weighted

-- those of a query's buckets from b on
abbrev pub bucket_lines : ℕ → ℕ → Aggregate → ℕ → List GroupAnswer → List Line
bucket_lines i rows aggregate b [] = []
bucket_lines i rows aggregate b (a ∷ answers) = bucket_line i rows aggregate b a ∷ bucket_lines i rows aggregate (b + 1) answers

-- the lines of query i
abbrev pub query_lines : Setting → ℕ → GroupQuery → List GroupAnswer → List Line
query_lines s i g answers = bucket_lines i (length s.rows) g.query.aggregate 0 answers

-- the lines of the queries from i on, by what the check says of what their messages opened
abbrev pub checked_lines : List ℕ → Setting → ℕ → List GroupQuery → List Done → List Line
checked_lines bits s i [] ds = []
checked_lines bits s i (g ∷ gs) [] = []
checked_lines bits s i (g ∷ gs) (d ∷ ds) = query_lines s i g (checked_buckets bits s i g d.messages) ++ checked_lines bits s (i + 1) gs ds

-- those of the plain answers
abbrev pub plain_group_lines : List ℕ → Setting → ℕ → List GroupQuery → List Line
plain_group_lines bits s i [] = []
plain_group_lines bits s i (g ∷ gs) = query_lines s i g (plain_buckets bits s g) ++ plain_group_lines bits s (i + 1) gs

-- ---- the trace

-- what the servers see of the queries, over as many rows
abbrev pub group_traces : Widths → ℕ → List GroupQuery → AllSeen
group_traces w n [] = alike nothing
group_traces w n (g ∷ gs) = seen_then (group_trace (sizes_over w n g.query) g.column) (group_traces w n gs)
