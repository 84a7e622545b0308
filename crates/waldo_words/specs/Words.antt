-- What the command words say.
use Rattle.std.specs.Prelude.{ℕ, ◌-◌, ◌+◌, ◌==◌, not, Bool, true, false, List, [], ◌∷◌, Option, Some, None, Result, Ok, Err, if◌then◌else◌}
use Rattle.std.specs.Prelude.{bytes_eq, nat_le, nat_lt, unwrap_or, codes}
use Rattle.std.specs.Option.{ok_or}
use Rattle.table_schema.specs.Schema.{schema_of}
use Rattle.table_schema.specs.Widths.{largest_in}
use Rattle.table_schema.specs.declared.faults.SchemaFault.{SchemaFault}
use Rattle.table_schema.specs.declared.schema.Column.{Column}
use Rattle.text_reading.specs.Cut.{cut_at}
use Rattle.text_reading.specs.Reading.{◌>>=◌, guard}
use Rattle.waldo_words.specs.Options.{command_named, most_times, nothing_found, option_named, times_found, value_of, with_value}
use Rattle.waldo_words.specs.Values.{bits_in, zero_seed}
use Rattle.waldo_words.specs.declared.command.Common.{Common}
use Rattle.waldo_words.specs.declared.command.Command.{Command}
use Rattle.waldo_words.specs.declared.command.Command.TheVariants as commands
use Rattle.waldo_words.specs.declared.faults.ValueFault.{ValueFault}
use Rattle.waldo_words.specs.declared.faults.ValueFault.TheVariants.{Refused}
use Rattle.waldo_words.specs.declared.faults.WordFault.{WordFault}
use Rattle.waldo_words.specs.declared.faults.WordFault.TheVariants.{Word, Missing}
use Rattle.waldo_words.specs.declared.found.Found.{Found}
use Rattle.waldo_words.specs.declared.names.CommandName.{CommandName}
use Rattle.waldo_words.specs.declared.names.CommandName.TheVariants as name
use Rattle.waldo_words.specs.declared.names.OptionName.{OptionName}
use Rattle.waldo_words.specs.declared.names.OptionName.TheVariants as option
use Rattle.waldo_words.specs.declared.progress.Progress.{Progress}
use Rattle.waldo_words.specs.declared.schedule.Step.{Step}
use Rattle.waldo_words.specs.declared.shifts.ShiftWord.{ShiftWord}

-- ---- one word

-- the options found with a text as the value of one more, if it is one
abbrev pub with_text : CommandName → List Column → Found → OptionName → List ℕ → Result Progress ValueFault
with_text command columns found option text =
    ok_or (value_of command columns option text) Refused >>= λ value.
    Ok (record { found = with_value found value; waiting = None })

-- an option that waits for its value, or has it in the same word
abbrev pub with_option : CommandName → List Column → Found → OptionName → Option (List ℕ) → Result Progress ValueFault
with_option command columns found option None = Ok (record { found = found; waiting = Some option })
with_option command columns found option (Some text) = with_text command columns found option text

-- a word in an option's place: what stands before its first `=` is an option that may stand once more
unfoldable pub after_option : CommandName → List Column → Found → List ℕ → Result Progress ValueFault
after_option command columns found word =
    ok_or (option_named (cut_at 61 word).0) Refused >>= λ option.
    guard (nat_lt (times_found found option) (most_times option command)) Refused >>= λ _.
    with_option command columns found option (cut_at 61 word).1

-- the text begins with a dash
abbrev pub is_dashed : List ℕ → Bool
is_dashed [] = false
is_dashed (b ∷ text) = b == 45

-- a word in a value's place: whatever it is, it is the value, but none begins with a dash
unfoldable pub after_value : CommandName → List Column → Found → OptionName → List ℕ → Result Progress ValueFault
after_value command columns found option word = guard (not (is_dashed word)) Refused >>= λ _. with_text command columns found option word

-- a word behind the options found, one of which may wait for its value
abbrev pub after_word : CommandName → List Column → Found → Option OptionName → List ℕ → Result Progress ValueFault
after_word command columns found None word = after_option command columns found word
after_word command columns found (Some option) word = after_value command columns found option word

-- ---- all options

-- a fault of the word with this number is told by the number
abbrev pub at_word : {A : Type 0} → ℕ → Result A ValueFault → Result A WordFault
at_word index (Ok x) = Ok x
at_word index (Err why) = Err (Word index)

-- no option waits behind the last word: one that does is bad itself
abbrev pub all_found : ℕ → Found → Option OptionName → Result Found WordFault
all_found count found None = Ok found
all_found count found (Some option) = Err (Word (count - 1))

-- the options that the words from this number on say behind those found, or the first bad word
unfoldable pub options_from : CommandName → List Column → ℕ → Progress → List (List ℕ) → Result Found WordFault
options_from command columns index progress [] = all_found index progress.found progress.waiting
options_from command columns index progress (word ∷ words) =
    at_word index (after_word command columns progress.found progress.waiting word) >>= λ more.
    options_from command columns (index + 1) more words

-- ---- the command

-- there is an element
abbrev pub is_some_of : {A : Type 0} → List A → Bool
is_some_of [] = false
is_some_of (x ∷ xs) = true

-- what every command has, with what stands for the options that were not given
abbrev pub common_of : List Column → Found → Common
common_of columns found = record {
  schema = columns;
  capacity = unwrap_or found.capacity (largest_in (bits_in columns));
  seed = unwrap_or found.seed zero_seed;
  workers = unwrap_or found.workers 1;
  queries = found.queries;
}

-- a schedule, or that it is missing
abbrev pub replayed : Common → Option (List Step) → Result Command WordFault
replayed common schedule = ok_or schedule (Missing (codes "--schedule")) >>= λ steps. Ok (commands.Replay common steps)

-- a shift at least, or that it is missing
abbrev pub tampered : Common → List ShiftWord → Result Command WordFault
tampered common shifts = guard (is_some_of shifts) (Missing (codes "--shift")) >>= λ _. Ok (commands.Tamper common shifts)

-- a table with room for just the rows that are made, or what is missing of their number and how many they are
abbrev pub made : Common → Option ℕ → Option ℕ → Result Command WordFault
made common number rows =
    ok_or number (Missing (codes "--number")) >>= λ n.
    ok_or rows (Missing (codes "--rows")) >>= λ r.
    Ok (commands.Make (record common { capacity = r }) n r)

-- the number of the word in which the value of an option stands that has no text, or this one behind its `=`
abbrev pub value_word : ℕ → Option (List ℕ) → ℕ
value_word index None = index + 1
value_word index (Some text) = index

-- the number of the word in which the value of `--to` stands, where the first of the words has this number; no value begins with a dash
abbrev pub to_word : ℕ → List (List ℕ) → ℕ
to_word index [] = index
to_word index (word ∷ words) =
    if bytes_eq (cut_at 61 word).0 (codes "--to") then value_word index (cut_at 61 word).1 else to_word (index + 1) words

-- a range of places, or what is missing of its ends; where it ends before it begins, the value of `--to` is bad
abbrev pub ranged : List (List ℕ) → Common → Option ℕ → Option ℕ → Result Command WordFault
ranged words common from to =
    ok_or from (Missing (codes "--from")) >>= λ low.
    ok_or to (Missing (codes "--to")) >>= λ high.
    guard (nat_le low high) (Word (to_word 2 words)) >>= λ _.
    Ok (commands.Tree common low high)

-- the command with its options, which these words behind the schema say, or the first required one that is missing, `--query` apart
abbrev pub command_with : List (List ℕ) → CommandName → List Column → Found → Result Command WordFault
command_with words name.Ask columns found = Ok (commands.Ask (common_of columns found))
command_with words name.Replay columns found = replayed (common_of columns found) found.schedule
command_with words name.Race columns found =
    Ok (commands.Race (common_of columns found) (unwrap_or found.writers 2) (unwrap_or found.askers 2) (unwrap_or found.rounds 1))
command_with words name.Make columns found = made (common_of columns found) found.number found.rows
command_with words name.Trace columns found = Ok (commands.Trace (common_of columns found))
command_with words name.Tamper columns found = tampered (common_of columns found) found.shifts
command_with words name.Tree columns found = ranged words (common_of columns found) found.from found.to
command_with words name.Groups columns found = Ok (commands.Groups (common_of columns found) found.groups)

-- `--query` stood once at least
abbrev pub has_query : Found → Bool
has_query found = nat_lt 0 (times_found found option.Query)

-- every command wants a query, before all else
unfoldable pub finished : List (List ℕ) → CommandName → List Column → Found → Result Command WordFault
finished words command columns found =
    guard (has_query found) (Missing (codes "--query")) >>= λ _. command_with words command columns found

-- nothing said yet
abbrev pub beginning : Progress
beginning = record { found = nothing_found; waiting = None }

-- the words behind the schema
abbrev pub after_schema : CommandName → List (List ℕ) → Result (List Column) SchemaFault → Result Command WordFault
after_schema command words (Err why) = Err (Word 1)
after_schema command words (Ok columns) = options_from command columns 2 beginning words >>= λ found. finished words command columns found

-- the words behind the command
abbrev pub after_command : CommandName → List (List ℕ) → Result Command WordFault
after_command command [] = Err (Missing (codes "schema"))
after_command command (word ∷ words) = after_schema command words (schema_of word)

-- the command that the words say, or the first fault: word 0 is the command, word 1 the schema, then come options in any order
unfoldable pub command_of : List (List ℕ) → Result Command WordFault
command_of [] = Err (Missing (codes "command"))
command_of (word ∷ words) = ok_or (command_named word) (Word 0) >>= λ command. after_command command words
