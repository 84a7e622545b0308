-- What holds of every command that was read.
use Rattle.std.specs.Prelude.{◌≡◌, ℕ, ◌+◌, ◌<◌, ◌≤◌, true, List, [], All, length, IfSome}
use Rattle.query_plan.specs.Query.{AreWidthsOf, Suits}
use Rattle.query_plan.specs.declared.group.GroupQuery.{GroupQuery}
use Rattle.query_plan.specs.declared.query.Query.{Query}
use Rattle.table_schema.specs.Widths.{Fits}
use Rattle.table_schema.specs.declared.schema.Column.{Column}
use Rattle.table_schema.specs.declared.widths.Widths.{Widths}
use Rattle.waldo_words.specs.Options.{asks_groups, may_ask, most_times, times_found}
use Rattle.waldo_words.specs.Values.{bits_in}
use Rattle.waldo_words.specs.declared.command.Common.{Common}
use Rattle.waldo_words.specs.declared.command.Command.{Command}
use Rattle.waldo_words.specs.declared.command.Command.TheVariants.{Ask, Replay, Race, Make, Trace, Tamper, Tree, Groups}
use Rattle.waldo_words.specs.declared.found.Found.{Found}
use Rattle.waldo_words.specs.declared.names.CommandName.{CommandName}
use Rattle.waldo_words.specs.declared.names.CommandName.TheVariants as name
use Rattle.waldo_words.specs.declared.names.OptionName.TheVariants as option
use Rattle.waldo_words.specs.declared.progress.Progress.{Progress}
use Rattle.waldo_words.specs.declared.schedule.Step.{Step}
use Rattle.waldo_words.specs.declared.schedule.Step.TheVariants.{Draw, Place, Look, Fix, Answer}
use Rattle.waldo_words.specs.declared.shifts.ShiftWord.{ShiftWord}
use Rattle.waldo_words.specs.declared.value.Value.{Value}
use Rattle.waldo_words.specs.declared.value.Value.TheVariants as value

-- ---- parts

-- the query is legal over the widths of these columns
abbrev pub SuitsColumns : List Column → Query → Type 0
SuitsColumns columns q = (w : Widths) → AreWidthsOf columns w → Suits w.columns w.bits q

-- a number of workers, writers, askers or rounds
abbrev pub IsFew : ℕ → Type 0
IsFew n = (1 ≤ n) × (n ≤ 16)

-- one of 16 actors and one of three servers, or a query that may be there
abbrev pub IsStep : Step → Type 0
IsStep (Draw actor) = actor < 16
IsStep (Place actor server) = (actor < 16) × (server < 3)
IsStep (Look actor server) = (actor < 16) × (server < 3)
IsStep (Fix actor) = actor < 16
IsStep (Answer actor query) = (actor < 16) × (query < 16)

pub record IsSchedule (schedule : List Step) : Type 0 where
  pub some : 1 ≤ length schedule
  pub few : length schedule ≤ 4096
  pub steps : All IsStep schedule

-- a word of a message that a command over one query may have
pub record IsShift (shift : ShiftWord) : Type 0 where
  pub message : shift.message ≤ 50
  pub word : shift.word < 65536

-- a query by the buckets of a column, over these columns
pub record IsGroup (columns : List Column) (group : GroupQuery) : Type 0 where
  pub places : length group.query.predicates ≡ 4
  pub suits : SuitsColumns columns group.query
  pub there : group.column < length columns

-- ---- commands

pub record IsCommon (c : Common) : Type 0 where
  pub fits : Fits (bits_in c.schema) c.capacity
  pub some : 1 ≤ length c.queries
  pub few : length c.queries ≤ 16
  pub places : All (λ (q : Query). length q.predicates ≡ 4) c.queries
  pub suits : All (SuitsColumns c.schema) c.queries
  pub workers : IsFew c.workers

pub record IsReplay (c : Common) (steps : List Step) : Type 0 where
  pub common : IsCommon c
  pub schedule : IsSchedule steps

pub record IsRace (c : Common) (w a r : ℕ) : Type 0 where
  pub common : IsCommon c
  pub writers : IsFew w
  pub askers : IsFew a
  pub rounds : IsFew r

-- the table has room for just the rows
pub record IsMake (c : Common) (rows : ℕ) : Type 0 where
  pub common : IsCommon c
  pub capacity : c.capacity ≡ rows
  pub fits : Fits (bits_in c.schema) rows

pub record IsTamper (c : Common) (words : List ShiftWord) : Type 0 where
  pub common : IsCommon c
  pub single : length c.queries ≡ 1
  pub some : 1 ≤ length words
  pub few : length words ≤ 16
  pub shifts : All IsShift words

-- one count with one predicate, over a range of places
pub record IsTree (c : Common) (low high : ℕ) : Type 0 where
  pub common : IsCommon c
  pub single : length c.queries ≡ 1
  pub counts : All (λ (q : Query). may_ask name.Tree q ≡ true) c.queries
  pub order : low ≤ high
  pub few : high ≤ 65536

-- queries by the buckets of a column, and no others
pub record IsGroups (c : Common) (groups : List GroupQuery) : Type 0 where
  pub fits : Fits (bits_in c.schema) c.capacity
  pub alone : c.queries ≡ []
  pub some : 1 ≤ length groups
  pub few : length groups ≤ 16
  pub each : All (IsGroup c.schema) groups
  pub workers : IsFew c.workers

-- what the layers above may rely on
abbrev pub IsLegal : Command → Type 0
IsLegal (Ask c) = IsCommon c
IsLegal (Replay c schedule) = IsReplay c schedule
IsLegal (Race c writers askers rounds) = IsRace c writers askers rounds
IsLegal (Make c number rows) = IsMake c rows
IsLegal (Trace c) = IsCommon c
IsLegal (Tamper c shifts) = IsTamper c shifts
IsLegal (Tree c low high) = IsTree c low high
IsLegal (Groups c groups) = IsGroups c groups

-- ---- on the way there

-- what holds of a query of a command
pub record IsQuery (command : CommandName) (columns : List Column) (query : Query) : Type 0 where
  pub places : length query.predicates ≡ 4
  pub suits : SuitsColumns columns query
  pub asked : may_ask command query ≡ true

-- what holds of a query by the buckets of a column of a command
pub record IsAsked (command : CommandName) (columns : List Column) (group : GroupQuery) : Type 0 where
  pub legal : IsGroup columns group
  pub asked : asks_groups command ≡ true

-- what holds of the value of an option
abbrev pub IsValue : CommandName → List Column → Value → Type 0
IsValue command columns (value.Query query) = IsQuery command columns query
IsValue command columns (value.Group group) = IsAsked command columns group
IsValue command columns (value.Seed seed) = Unit {0}
IsValue command columns (value.Capacity capacity) = Fits (bits_in columns) capacity
IsValue command columns (value.Workers workers) = IsFew workers
IsValue command columns (value.Schedule schedule) = IsSchedule schedule
IsValue command columns (value.Writers writers) = IsFew writers
IsValue command columns (value.Askers askers) = IsFew askers
IsValue command columns (value.Rounds rounds) = IsFew rounds
IsValue command columns (value.Number number) = Unit {0}
IsValue command columns (value.Rows rows) = Fits (bits_in columns) rows
IsValue command columns (value.Shift shift) = IsShift shift
IsValue command columns (value.From low) = low ≤ 65536
IsValue command columns (value.To high) = high ≤ 65536

-- what holds of all that the options have said so far
pub record IsFound (command : CommandName) (columns : List Column) (found : Found) : Type 0 where
  pub queries : length found.queries + length found.groups ≤ most_times option.Query command
  pub places : All (λ (q : Query). length q.predicates ≡ 4) found.queries
  pub suits : All (SuitsColumns columns) found.queries
  pub asked : All (λ (q : Query). may_ask command q ≡ true) found.queries
  pub groups : All (IsAsked command columns) found.groups
  pub capacity : IfSome found.capacity (Fits (bits_in columns))
  pub workers : IfSome found.workers IsFew
  pub schedule : IfSome found.schedule IsSchedule
  pub writers : IfSome found.writers IsFew
  pub askers : IfSome found.askers IsFew
  pub rounds : IfSome found.rounds IsFew
  pub rows : IfSome found.rows (Fits (bits_in columns))
  pub shifts : length found.shifts ≤ most_times option.Shift command
  pub moved : All IsShift found.shifts
  pub to : IfSome found.to (λ n. n ≤ 65536)

-- an option that waits may stand once more
pub record IsProgress (command : CommandName) (columns : List Column) (progress : Progress) : Type 0 where
  pub found : IsFound command columns progress.found
  pub room : IfSome progress.waiting (λ o. times_found progress.found o < most_times o command)
