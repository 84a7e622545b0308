-- The clause that a user reads first, from the clauses on the whole run.
use Rattle.std.proofs.Common.{◌≡◌, ◌∙◌, refl, ap, subst, ℕ, ◌≤◌, List, length}
use Rattle.std.proofs.lemmas.Bool.{le-leb}
use Rattle.std.specs.Prelude.{Option, None, Some, Result, Ok}
use Rattle.fault_count.specs.Causes.{Rose}
use Rattle.fault_count.specs.Streams.{Change}
use Rattle.row_source.specs.Input.{most_bytes}
use Rattle.row_source.specs.Input.Reading.{Untouched}
use Rattle.schedule_play.specs.History.{Done}
use Rattle.table_schema.specs.declared.rows.Row.{Row}
use Rattle.waldo_words.specs.declared.command.Common.{Common}
use Rattle.waldo_words.specs.declared.command.Command.{Command}
use Rattle.waldo_words.specs.declared.command.Command.TheVariants as commands
use Rattle.waldo_words.specs.declared.faults.WordFault.{WordFault}
use Rattle.waldo_run.specs.Headline.{AsksOver, plain_answers}
use Rattle.waldo_run.specs.Made.{made_rows}
use Rattle.waldo_run.specs.Run.{Puts, Runs, plain_reply}
use Rattle.waldo_run.specs.Tampered.{AltersNothing, shifts_of}
use Rattle.waldo_run.specs.Tasks.{bits_of, common_in, rows_in}
use Rattle.waldo_run.proofs.Statuses.{plain_of}

-- the plain reply of `ask` to an input that gives these rows
whole_answered : (c : Common) (bytes : List ℕ) (rows : List Row) → length bytes ≤ most_bytes → rows_in c bytes ≡ Ok rows
    → plain_reply (Ok (commands.Ask c)) bytes ≡ plain_answers c.queries rows
whole_answered c bytes rows short is = rw (le-leb (length bytes) most_bytes short, is) refl

module _ (source sink : Change) (carried : List Done → Type 0) (unaltered : ℕ → Type 0) (status : ℕ) where
  asks : (c : Common) (rows : List Row) (reported : Option (List ℕ)) → source.old ≡ reported → AsksOver (commands.Ask c) reported rows
      → Runs (Ok (commands.Ask c)) source carried unaltered sink status → (Rose source.before source.now → ⊥) → ((actor : ℕ) → unaltered actor)
      → Puts (plain_answers c.queries rows) sink status
  asks c rows None is has run sure still = absurd has
  asks c rows (Some bytes) is has run sure still =
      subst (λ reply. Puts reply sink status) (whole_answered c bytes rows has.0 has.1)
      (plain_of (Ok (commands.Ask c)) source sink carried unaltered status run sure still bytes is)

  makes : (c : Common) (number count : ℕ) (rows : List Row) → rows ≡ made_rows (bits_of c) number count
      → Runs (Ok (commands.Make c number count)) source carried unaltered sink status → ((actor : ℕ) → unaltered actor)
      → Puts (plain_answers c.queries rows) sink status
  makes c number count rows is run still =
      let met : run.replies.reading ≡ Untouched = run.replies.suits in
      let plainly : run.reply ≡ plain_answers c.queries rows = run.plain still ∙ rw (met, is) refl in
      subst (λ reply. Puts reply sink status) plainly run.puts

  over_rows : (command : Command) (rows : List Row) → AsksOver command source.old rows
      → Runs (Ok command) source carried unaltered sink status → (Rose source.before source.now → ⊥) → ((actor : ℕ) → unaltered actor)
      → Puts (plain_answers (common_in command).queries rows) sink status
  over_rows (commands.Ask c) rows has run sure still = asks c rows source.old refl has run sure still
  over_rows (commands.Make c number count) rows has run sure still = makes c number count rows has run still
  over_rows (commands.Replay c schedule) rows has run sure still = absurd has
  over_rows (commands.Race c writers askers rounds) rows has run sure still = absurd has
  over_rows (commands.Trace c) rows has run sure still = absurd has
  over_rows (commands.Tamper c shifts) rows has run sure still = absurd has
  over_rows (commands.Tree c low high) rows has run sure still = absurd has
  over_rows (commands.Groups c groups) rows has run sure still = absurd has

pub asked_of : (said : Result Command WordFault) (source sink : Change) (carried : List Done → Type 0) (unaltered : ℕ → Type 0) (status : ℕ)
    → Runs said source carried unaltered sink status → (Rose source.before source.now → ⊥) → ((actor : ℕ) → unaltered actor)
    → (command : Command) (rows : List Row) → said ≡ Ok command → AsksOver command source.old rows
    → Puts (plain_answers (common_in command).queries rows) sink status
asked_of said source sink carried unaltered status run sure still command rows is has =
    over_rows source sink carried unaltered status command rows has (subst (λ s. Runs s source carried unaltered sink status) is run) sure still

-- `ask` and `make` alter no message
pub asks_straight : (said : Result Command WordFault) (command : Command) (input : Option (List ℕ)) (rows : List Row) → said ≡ Ok command → AsksOver command input rows
    → AltersNothing said
asks_straight said (commands.Ask c) input rows is has = ap shifts_of is
asks_straight said (commands.Make c number count) input rows is has = ap shifts_of is
asks_straight said (commands.Replay c schedule) input rows is has = absurd has
asks_straight said (commands.Race c writers askers rounds) input rows is has = absurd has
asks_straight said (commands.Trace c) input rows is has = absurd has
asks_straight said (commands.Tamper c shifts) input rows is has = absurd has
asks_straight said (commands.Tree c low high) input rows is has = absurd has
asks_straight said (commands.Groups c groups) input rows is has = absurd has
