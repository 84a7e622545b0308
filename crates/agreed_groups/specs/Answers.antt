-- The messages of a query by buckets over rows that were agreed on, what they open, and the answers.
use Rattle.std.specs.Prelude.{ℕ, ◌≡◌, Result, Ok, Err, List, length, map}
use Rattle.ring128.specs.declared.memory.Memory.{Memory}
use Rattle.onehot_column.specs.Code.{width_of}
use Rattle.prg_chacha.specs.declared.seed.Seed.{Seed}
use Rattle.query_plan.specs.Seeds.{weights_of}
use Rattle.query_plan.specs.Views.{key_from}
use Rattle.query_plan.specs.declared.query.Query.{Query}
use Rattle.transcript.specs.Rows.{pieces_over}
use Rattle.transcript.specs.Setup.{Setup}
use Rattle.transcript.specs.Transcript.{IsPart, IsTranscript}
use Rattle.wire_line.specs.declared.message.Message.{Message}
use Rattle.agreed_rows.specs.Agreed.{Entries}
use Rattle.agreed_rows.specs.Answers.{rows_in}
use Rattle.bucket_groups.specs.Check.{answers_of}
use Rattle.bucket_groups.specs.Ending.{groups_for, opened_groups}
use Rattle.bucket_groups.specs.Grouped.{grouped}
use Rattle.bucket_groups.specs.declared.check.GroupAnswer.{GroupAnswer}
use Rattle.bucket_groups.specs.declared.check.GroupAnswer.TheVariants as answer

-- a query by the buckets of a column, with its seed, over the rows
abbrev pub groups_over : Entries → Query → ℕ → Seed → Setup
groups_over e query column seed = groups_for query column e.widths seed (length e.all) (pieces_over e.widths e.all)

-- these are all messages of the query over the rows, and they open these numbers, two a bucket
pub record OpensGroups (e : Entries) (query : Query) (column : ℕ) (seed : Seed) (ms : List Message) (total weighted : List ℕ) : Type 0 where
  pub transcript : IsTranscript (groups_over e query column seed) ms
  pub opened_total : total ≡ opened_groups (groups_over e query column seed) column ms 0
  pub opened_weighted : weighted ≡ opened_groups (groups_over e query column seed) column ms 1

-- what the check says of each bucket's pair
abbrev pub judged_groups : Query → Seed → List ℕ → List ℕ → List GroupAnswer
judged_groups query seed total weighted = answers_of total weighted (key_from (weights_of seed 1) query.count)

-- the messages that were carried: those of the whole query, and the answers are what the check says of what they open; out of memory,
-- the first of them
abbrev pub AnswersGroups : Entries → Query → ℕ → Seed → List Message → List ℕ → List ℕ → Result (List GroupAnswer) Memory → Type 0
AnswersGroups e query column seed ms total weighted (Ok answers) =
    OpensGroups e query column seed ms total weighted × (answers ≡ judged_groups query seed total weighted)
AnswersGroups e query column seed ms total weighted (Err memory) = IsPart (groups_over e query column seed) ms

-- the plain answers over the rows, bucket by bucket
abbrev pub plain_groups : Entries → Query → ℕ → List GroupAnswer
plain_groups e query column = map answer.Good (grouped query column (width_of e.widths column) (rows_in e.all))
