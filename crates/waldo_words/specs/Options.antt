-- The options: which command has which and how often, what values they take, and what they have said so far.
use Rattle.std.specs.Prelude.{ℕ, ◌+◌, ◌==◌, ◌&&◌, Bool, true, false, List, [], ◌∷◌}
use Rattle.std.specs.Prelude.{◌++◌, length, Option, Some, None, option_map, if◌then◌else◌, codes}
use Rattle.std.specs.Result.{result_ok}
use Rattle.std.specs.Str.{bytes_eq}
use Rattle.table_schema.specs.declared.schema.Column.{Column}
use Rattle.table_schema.specs.declared.shapes.Aggregate.{Aggregate}
use Rattle.table_schema.specs.declared.shapes.Aggregate.TheVariants.{Count, Sum}
use Rattle.query_plan.specs.Grouping.{group_of}
use Rattle.query_plan.specs.Reading.{query_of}
use Rattle.query_plan.specs.declared.query.Query.{Query}
use Rattle.waldo_words.specs.Shifts.{shift_of}
use Rattle.waldo_words.specs.Steps.{schedule_of}
use Rattle.waldo_words.specs.Values.{◌>>=◌, capacity_of, number_within, seed_of}
use Rattle.waldo_words.specs.declared.found.Found.{Found}
use Rattle.waldo_words.specs.declared.names.CommandName.{CommandName}
use Rattle.waldo_words.specs.declared.names.CommandName.TheVariants as name
use Rattle.waldo_words.specs.declared.names.OptionName.{OptionName}
use Rattle.waldo_words.specs.declared.names.OptionName.TheVariants as option
use Rattle.waldo_words.specs.declared.value.Value.{Value}
use Rattle.waldo_words.specs.declared.value.Value.TheVariants as value

-- ---- names

unfoldable pub command_named : List ℕ → Option CommandName
command_named word =
    if bytes_eq word (codes "ask") then Some name.Ask
    else if bytes_eq word (codes "replay") then Some name.Replay
    else if bytes_eq word (codes "race") then Some name.Race
    else if bytes_eq word (codes "make") then Some name.Make
    else if bytes_eq word (codes "trace") then Some name.Trace
    else if bytes_eq word (codes "tamper") then Some name.Tamper
    else if bytes_eq word (codes "tree") then Some name.Tree
    else if bytes_eq word (codes "groups") then Some name.Groups
    else None

unfoldable pub option_named : List ℕ → Option OptionName
option_named word =
    if bytes_eq word (codes "--query") then Some option.Query
    else if bytes_eq word (codes "--seed") then Some option.Seed
    else if bytes_eq word (codes "--capacity") then Some option.Capacity
    else if bytes_eq word (codes "--workers") then Some option.Workers
    else if bytes_eq word (codes "--schedule") then Some option.Schedule
    else if bytes_eq word (codes "--writers") then Some option.Writers
    else if bytes_eq word (codes "--askers") then Some option.Askers
    else if bytes_eq word (codes "--rounds") then Some option.Rounds
    else if bytes_eq word (codes "--number") then Some option.Number
    else if bytes_eq word (codes "--rows") then Some option.Rows
    else if bytes_eq word (codes "--shift") then Some option.Shift
    else if bytes_eq word (codes "--from") then Some option.From
    else if bytes_eq word (codes "--to") then Some option.To
    else None

-- how often an option may stand in a command: not at all where the command hasn't got it
abbrev pub most_times : OptionName → CommandName → ℕ
most_times option.Query name.Tamper = 1
most_times option.Query name.Tree = 1
most_times option.Query _ = 16
most_times option.Seed _ = 1
most_times option.Capacity name.Make = 0
most_times option.Capacity _ = 1
most_times option.Workers _ = 1
most_times option.Schedule name.Replay = 1
most_times option.Schedule _ = 0
most_times option.Writers name.Race = 1
most_times option.Writers _ = 0
most_times option.Askers name.Race = 1
most_times option.Askers _ = 0
most_times option.Rounds name.Race = 1
most_times option.Rounds _ = 0
most_times option.Number name.Make = 1
most_times option.Number _ = 0
most_times option.Rows name.Make = 1
most_times option.Rows _ = 0
most_times option.Shift name.Tamper = 16
most_times option.Shift _ = 0
most_times option.From name.Tree = 1
most_times option.From _ = 0
most_times option.To name.Tree = 1
most_times option.To _ = 0

-- ---- values

abbrev pub is_count : Aggregate → Bool
is_count Count = true
is_count Sum = false

-- whether a command asks such a query: `tree` a count with one predicate alone, `groups` none that is not by a column
abbrev pub may_ask : CommandName → Query → Bool
may_ask name.Tree query = is_count query.aggregate && (query.count == 1)
may_ask name.Groups query = false
may_ask _ query = true

-- whether a command asks queries by the buckets of a column
abbrev pub asks_groups : CommandName → Bool
asks_groups name.Groups = true
asks_groups _ = false

-- the query of a text, where the command may ask it
unfoldable pub query_for : CommandName → List Column → List ℕ → Option Query
query_for command columns text = result_ok (query_of columns text) >>= λ query. if may_ask command query then Some query else None

-- the value of `--query` that a text is: for `groups` a query by the buckets of a column, else a query that the command may ask
abbrev pub asked_for : CommandName → List Column → List ℕ → Option Value
asked_for name.Groups columns text = option_map value.Group (result_ok (group_of columns text))
asked_for command columns text = option_map value.Query (query_for command columns text)

-- the value that a text is for an option of a command, over the columns of the table
abbrev pub value_of : CommandName → List Column → OptionName → List ℕ → Option Value
value_of command columns option.Query text = asked_for command columns text
value_of command columns option.Seed text = option_map value.Seed (seed_of text)
value_of command columns option.Capacity text = option_map value.Capacity (capacity_of columns text)
value_of command columns option.Workers text = option_map value.Workers (number_within 1 16 text)
value_of command columns option.Schedule text = option_map value.Schedule (schedule_of text)
value_of command columns option.Writers text = option_map value.Writers (number_within 1 16 text)
value_of command columns option.Askers text = option_map value.Askers (number_within 1 16 text)
value_of command columns option.Rounds text = option_map value.Rounds (number_within 1 16 text)
value_of command columns option.Number text = option_map value.Number (number_within 0 4294967295 text)
value_of command columns option.Rows text = option_map value.Rows (capacity_of columns text)
value_of command columns option.Shift text = option_map value.Shift (shift_of text)
value_of command columns option.From text = option_map value.From (number_within 0 65536 text)
value_of command columns option.To text = option_map value.To (number_within 0 65536 text)

-- the option whose value it is
abbrev pub option_of : Value → OptionName
option_of (value.Query query) = option.Query
option_of (value.Group group) = option.Query
option_of (value.Seed seed) = option.Seed
option_of (value.Capacity capacity) = option.Capacity
option_of (value.Workers workers) = option.Workers
option_of (value.Schedule schedule) = option.Schedule
option_of (value.Writers writers) = option.Writers
option_of (value.Askers askers) = option.Askers
option_of (value.Rounds rounds) = option.Rounds
option_of (value.Number number) = option.Number
option_of (value.Rows rows) = option.Rows
option_of (value.Shift shift) = option.Shift
option_of (value.From low) = option.From
option_of (value.To high) = option.To

-- ---- what the options have said so far

abbrev pub nothing_found : Found
nothing_found = record {
  queries = [];
  groups = [];
  seed = None;
  capacity = None;
  workers = None;
  schedule = None;
  writers = None;
  askers = None;
  rounds = None;
  number = None;
  rows = None;
  shifts = [];
  from = None;
  to = None;
}

-- with one value more
abbrev pub with_value : Found → Value → Found
with_value found (value.Query query) = record found { queries = found.queries ++ query ∷ [] }
with_value found (value.Group group) = record found { groups = found.groups ++ group ∷ [] }
with_value found (value.Seed seed) = record found { seed = Some seed }
with_value found (value.Capacity capacity) = record found { capacity = Some capacity }
with_value found (value.Workers workers) = record found { workers = Some workers }
with_value found (value.Schedule schedule) = record found { schedule = Some schedule }
with_value found (value.Writers writers) = record found { writers = Some writers }
with_value found (value.Askers askers) = record found { askers = Some askers }
with_value found (value.Rounds rounds) = record found { rounds = Some rounds }
with_value found (value.Number number) = record found { number = Some number }
with_value found (value.Rows rows) = record found { rows = Some rows }
with_value found (value.Shift shift) = record found { shifts = found.shifts ++ shift ∷ [] }
with_value found (value.From low) = record found { from = Some low }
with_value found (value.To high) = record found { to = Some high }

-- one where there is a value
abbrev pub count_of : {A : Type 0} → Option A → ℕ
count_of None = 0
count_of (Some x) = 1

-- how often an option has stood
abbrev pub times_found : Found → OptionName → ℕ
times_found found option.Query = length found.queries + length found.groups
times_found found option.Seed = count_of found.seed
times_found found option.Capacity = count_of found.capacity
times_found found option.Workers = count_of found.workers
times_found found option.Schedule = count_of found.schedule
times_found found option.Writers = count_of found.writers
times_found found option.Askers = count_of found.askers
times_found found option.Rounds = count_of found.rounds
times_found found option.Number = count_of found.number
times_found found option.Rows = count_of found.rows
times_found found option.Shift = length found.shifts
times_found found option.From = count_of found.from
times_found found option.To = count_of found.to
