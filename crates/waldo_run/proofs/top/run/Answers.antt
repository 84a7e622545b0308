use Rattle.std.proofs.Common.{inr}
use Rattle.std.specs.Prelude.{◌≡◌, List, IfSome, Ok, map, string_bytes}
use Rattle.table_schema.specs.declared.rows.Row.{Row}
use Rattle.waldo_words.specs.declared.command.Command.{Command}
use Rattle.waldo_run.specs.Grown.{Traces}
use Rattle.waldo_words.specs.declared.command.Command.TheVariants as commands
use Rattle.waldo_run.specs.Headline.{AsksOver, plain_answers}
use Rattle.waldo_run.specs.Run.{Breaks, Puts, Runs, plain_reply}
use Rattle.waldo_run.specs.Tampered.{AltersNothing, CarriedBy, UnalteredBy}
use Rattle.waldo_run.specs.Tasks.{common_in}
use Rattle.waldo_run.specs.Complete.{Completes, IsAccepted}
use Rattle.waldo_run.proofs.Completing.{or_six, race_completes}
use Rattle.waldo_run.proofs.Racing.{by_other, by_race}
use Rattle.waldo_run.proofs.top.run.Goals as goal
use Rattle.fault_count.specs.Streams.{change}

pub returns-else-begin_race-clause-run : goal.returns-else-begin_race-clause-run
returns-else-begin_race-clause-run g c = λ other done.
    let vs = c.args.wires.now.items in
    let ws = c.run_still.new.wires.items in
    by_other (λ command. Runs command (change g.S.Source.sight c.args.source.now c.run_still.new.source)
    (CarriedBy g.W.Wire.sight command vs ws) (UnalteredBy g.W.Wire.sight command vs ws)
    (change g.K.Sink.sight c.args.sink.now c.run_still.new.sink) c.run_still.result)
    (map string_bytes c.args.words.now) other (c.run_still.ensures.run done)

pub returns-else-begin_race-clause-plain : goal.returns-else-begin_race-clause-plain
returns-else-begin_race-clause-plain g c = λ other done straight sure still.
    by_other (λ command. AltersNothing command → IfSome (g.S.Source.sight.bytes c.args.source.now) (λ bytes.
    Puts (plain_reply command bytes) (change g.K.Sink.sight c.args.sink.now c.run_still.new.sink) c.run_still.result))
    (map string_bytes c.args.words.now) other (λ none. c.run_still.ensures.plain done none sure still) straight

pub returns-else-begin_race-clause-broken : goal.returns-else-begin_race-clause-broken
returns-else-begin_race-clause-broken g c = λ other six.
    let vs = c.args.wires.now.items in
    let ws = c.run_still.new.wires.items in
    by_other (λ command. Breaks command (change g.S.Source.sight c.args.source.now c.run_still.new.source)
    (CarriedBy g.W.Wire.sight command vs ws)) (map string_bytes c.args.words.now) other (c.run_still.ensures.broken six)

pub returns-then-begin_race-clause-altered : goal.returns-then-begin_race-clause-altered
returns-then-begin_race-clause-altered g c = λ seven. inr (c.run_race.ensures.altered seven)

pub returns-else-begin_race-clause-asked : goal.returns-else-begin_race-clause-asked
returns-else-begin_race-clause-asked g c = λ other done sure still.
    by_other (λ command. (said : Command) (rows : List Row) → command ≡ Ok said → AsksOver said (g.S.Source.sight.bytes c.args.source.now) rows
    → Puts (plain_answers (common_in said).queries rows) (change g.K.Sink.sight c.args.sink.now c.run_still.new.sink) c.run_still.result)
    (map string_bytes c.args.words.now) other (c.run_still.ensures.asked done sure still)

pub returns-else-begin_race-clause-trace : goal.returns-else-begin_race-clause-trace
returns-else-begin_race-clause-trace g c = λ other.
    by_other (λ command. Traces command (change g.S.Source.sight c.args.source.now c.run_still.new.source) c.args.trace.now c.run_still.new.trace c.run_still.result)
    (map string_bytes c.args.words.now) other c.run_still.ensures.trace

pub returns-else-begin_race-clause-complete : goal.returns-else-begin_race-clause-complete
returns-else-begin_race-clause-complete g c = λ other sure dry still.
    let vs = c.args.wires.now.items in
    let ws = c.run_still.new.wires.items in
    by_other (λ command. (said : Command) (rows : List Row) → command ≡ Ok said → IsAccepted said (g.S.Source.sight.bytes c.args.source.now) rows
    → Completes said rows (CarriedBy g.W.Wire.sight command vs ws) (UnalteredBy g.W.Wire.sight command vs ws)
    (change g.K.Sink.sight c.args.sink.now c.run_still.new.sink) c.run_still.result)
    (map string_bytes c.args.words.now) other (c.run_still.ensures.complete sure dry still)

pub returns-then-begin_race-clause-completed : goal.returns-then-begin_race-clause-completed
returns-then-begin_race-clause-completed g c = λ is sure dry still common writers askers rounds rows said gives.
    or_six c.run_race.result _ (λ done. race_completes _ _ _ _ _ _ sure dry (λ seven. still (c.run_race.ensures.altered seven)) common writers askers rounds rows
    (by_race (λ command. command ≡ Ok (commands.Race common writers askers rounds)) (map string_bytes c.args.words.now) is said) gives (c.run_race.ensures.raced done))
