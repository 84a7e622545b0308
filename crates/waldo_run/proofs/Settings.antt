-- The setting of a command is legal.
use Rattle.std.proofs.Common.{◌≡◌, refl, true, ◌&&◌, eqb, sym, subst, ℕ, ◌*◌, ◌≤◌, List, All, length, map, max, arith}
use Rattle.std.proofs.lemmas.Bool.{eqb-true}
use Rattle.std.proofs.lemmas.Nat.{mul-le}
use Rattle.std.proofs.lemmas.List.Elements.{All-nil}
use Rattle.query_plan.specs.Query.{AreWidthsOf, Suits}
use Rattle.query_plan.specs.declared.group.GroupQuery.{GroupQuery}
use Rattle.query_plan.specs.declared.query.Query.{Query}
use Rattle.table_schema.specs.Widths.{Fits, Holds, code_length}
use Rattle.table_schema.specs.declared.rows.Row.{Row}
use Rattle.table_schema.specs.declared.schema.Column.{Column}
use Rattle.table_schema.specs.declared.widths.Widths.{Widths}
use Rattle.schedule_play.specs.Tasks.{IsSetting}
use Rattle.table_schema.specs.declared.shapes.Aggregate.{Aggregate}
use Rattle.table_schema.specs.declared.shapes.Aggregate.TheVariants.{Count, Sum}
use Rattle.waldo_words.specs.Legal.{IsCommon, IsGroups, IsLegal, IsTree}
use Rattle.waldo_words.specs.Options.{is_count}
use Rattle.waldo_words.specs.declared.command.Common.{Common}
use Rattle.waldo_words.specs.declared.command.Command.{Command}
use Rattle.waldo_words.specs.declared.command.Command.TheVariants as commands
use Rattle.waldo_run.specs.Buckets.{AreBuckets}
use Rattle.waldo_run.specs.Tasks.{AreWidthsIn, common_in, setting_of, task_over}
use Rattle.waldo_run.specs.Trees.{IsRange, no_query, query_in}

-- room for the rows is no more than the capacity
fits_less : (bits : List ℕ) (capacity n : ℕ) → Fits bits capacity → n ≤ capacity → Fits bits (max 1 n)
fits_less bits capacity n fits few =
    let some : 1 ≤ capacity = fits.0 in
    let most : max 1 n ≤ capacity = omega (arith, some, few) in
    let cells : max 1 n * code_length bits ≤ capacity * code_length bits = mul-le (max 1 n) (code_length bits) capacity (code_length bits) most (omega arith) in
    (omega arith, omega (arith, most, fits.1), omega (arith, cells, fits.2))

pub is_setting : (c : Common) (w : Widths) (rows : List Row) → IsCommon c → AreWidthsOf c.schema w → All (Holds w) rows → length rows ≤ c.capacity → IsSetting w (setting_of c rows)
is_setting c w rows common of held few = record {
  held = held;
  fits = subst (λ (bits : List ℕ). Fits bits (max 1 (length rows))) (sym of.bits) (fits_less (map (λ (k : Column). k.bits) c.schema) c.capacity (length rows) common.fits few);
  places = common.places;
  suits = λ n d lt. common.suits n d lt w of;
}

-- queries by the buckets of a column alone
grouped_setting : (c : Common) (groups : List GroupQuery) (w : Widths) (rows : List Row) → IsGroups c groups → AreWidthsOf c.schema w → All (Holds w) rows → length rows ≤ c.capacity
    → IsSetting w (setting_of c rows)
grouped_setting c groups w rows legal of held few = record {
  held = held;
  fits = subst (λ (bits : List ℕ). Fits bits (max 1 (length rows))) (sym of.bits) (fits_less (map (λ (k : Column). k.bits) c.schema) c.capacity (length rows) legal.fits few);
  places = subst (All (λ (q : Query). length q.predicates ≡ 4)) (sym legal.alone) (All-nil (λ (q : Query). length q.predicates ≡ 4));
  suits = subst (All (λ (q : Query). Suits w.columns w.bits q)) (sym legal.alone) (All-nil (λ (q : Query). Suits w.columns w.bits q));
}

pub task_legal : (command : Command) (w : Widths) (rows : List Row) → IsLegal command → AreWidthsIn command w → All (Holds w) rows
    → (let c = common_in command in length rows ≤ c.capacity) → IsSetting w (task_over command rows).setting
task_legal (commands.Ask c) w rows legal of held few = is_setting c w rows legal of held few
task_legal (commands.Replay c schedule) w rows legal of held few = is_setting c w rows legal.common of held few
task_legal (commands.Race c writers askers rounds) w rows legal of held few = is_setting c w rows legal.common of held few
task_legal (commands.Make c number count) w rows legal of held few = is_setting c w rows legal.common of held few
task_legal (commands.Trace c) w rows legal of held few = is_setting c w rows legal of held few
task_legal (commands.Tamper c shifts) w rows legal of held few = is_setting c w rows legal.common of held few
task_legal (commands.Tree c low high) w rows legal of held few = is_setting c w rows legal.common of held few
task_legal (commands.Groups c groups) w rows legal of held few = grouped_setting c groups w rows legal of held few

pub groups_legal : (c : Common) (groups : List GroupQuery) (w : Widths) (rows : List Row) → IsGroups c groups → AreWidthsOf c.schema w → All (Holds w) rows → length rows ≤ c.capacity
    → AreBuckets w (setting_of c rows) groups
groups_legal c groups w rows legal of held few = record {
  setting = grouped_setting c groups w rows legal of held few;
  each = λ n d lt. let g = legal.each n d lt in let there = g.there in record { suits = g.suits w of; there = omega (arith, there, of.count) };
}

-- a count with one predicate
single_count : (a : Aggregate) (n : ℕ) → (is_count a && eqb n 1) ≡ true → (n ≡ 1) × (a ≡ Count)
single_count Count n e = (eqb-true n 1 e, refl)
single_count Sum n e = absurd cc

pub range_legal : (c : Common) (low high : ℕ) (w : Widths) (rows : List Row) → IsTree c low high → AreWidthsOf c.schema w → All (Holds w) rows
    → length rows ≤ c.capacity → IsRange w (setting_of c rows) low high
range_legal c low high w rows legal of held few =
    let q = query_in (setting_of c rows) in
    let one = single_count q.aggregate q.count (legal.counts 0 no_query (omega (arith, legal.single))) in
    record { setting = is_setting c w rows legal.common of held few; single = legal.single; one = one.0; count = one.1; order = legal.order }
