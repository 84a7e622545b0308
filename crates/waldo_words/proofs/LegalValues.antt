-- What was read is legal.
use Rattle.std.proofs.Common.{◌≡◌, refl, subst, ap, ℕ, ◌<◌, ◌≤◌, Bool, true, false, List, [], ◌∷◌, length, Option, Some, None, Result, Ok, Err, IfOk, IfSome, All, nat_le, nat_lt, unwrap_or, arith, length-append}
use Rattle.std.proofs.lemmas.List.Elements.{All-head, All-nil, All-push}
use Rattle.query_plan.specs.declared.group.GroupQuery.{GroupQuery}
use Rattle.query_plan.specs.declared.query.Query.{Query}
use Rattle.table_schema.specs.Widths.{Fits, largest_in}
use Rattle.table_schema.specs.declared.schema.Column.{Column}
use Rattle.text_reading.specs.Reading.{◌>>=◌, Reads, guard}
use Rattle.std.specs.Prelude.{codes}
use Rattle.waldo_words.specs.Legal.{IsAsked, IsCommon, IsFew, IsFound, IsGroup, IsGroups, IsLegal, IsSchedule, IsShift, IsValue, SuitsColumns}
use Rattle.waldo_words.specs.Options.{asks_groups, may_ask, most_times, nothing_found, option_of, times_found, with_value}
use Rattle.waldo_words.specs.Values.{bits_in}
use Rattle.waldo_words.specs.Words.{command_with, common_of, finished, made, ranged, replayed, tampered, to_word}
use Rattle.waldo_words.specs.declared.command.Common.{Common}
use Rattle.waldo_words.specs.declared.command.Command.{Command}
use Rattle.waldo_words.specs.declared.command.Command.TheVariants as commands
use Rattle.waldo_words.specs.declared.faults.WordFault.{WordFault}
use Rattle.waldo_words.specs.declared.faults.WordFault.TheVariants.{Missing, Word}
use Rattle.waldo_words.specs.declared.found.Found.{Found}
use Rattle.waldo_words.specs.declared.names.CommandName.{CommandName}
use Rattle.waldo_words.specs.declared.names.CommandName.TheVariants as name
use Rattle.waldo_words.specs.declared.names.OptionName.TheVariants as option
use Rattle.waldo_words.specs.declared.schedule.Step.{Step}
use Rattle.waldo_words.specs.declared.shifts.ShiftWord.{ShiftWord}
use Rattle.waldo_words.specs.declared.value.Value.{Value}
use Rattle.waldo_words.specs.declared.value.Value.TheVariants as value

-- ---- values

pub none_found : (command : CommandName) (columns : List Column) → IsFound command columns nothing_found
none_found command columns = record {
  queries = omega arith;
  places = All-nil (λ (q : Query). length q.predicates ≡ 4);
  suits = All-nil (SuitsColumns columns);
  asked = All-nil (λ (q : Query). may_ask command q ≡ true);
  groups = All-nil (IsAsked command columns);
  capacity = tt;
  workers = tt;
  schedule = tt;
  writers = tt;
  askers = tt;
  rounds = tt;
  rows = tt;
  shifts = omega arith;
  moved = All-nil IsShift;
  to = tt;
}

-- one value more, of an option that may stand once more
pub one_more : (command : CommandName) (columns : List Column) (found : Found) (v : Value) → IsFound command columns found
    → times_found found (option_of v) < most_times (option_of v) command → IsValue command columns v → IsFound command columns (with_value found v)
one_more command columns found (value.Query q) h room legal = record {
  queries = omega (arith, room, length-append found.queries (q ∷ []));
  places = All-push (λ (q : Query). length q.predicates ≡ 4) found.queries q h.places legal.places;
  suits = All-push (SuitsColumns columns) found.queries q h.suits legal.suits;
  asked = All-push (λ (q : Query). may_ask command q ≡ true) found.queries q h.asked legal.asked;
  groups = h.groups;
  capacity = h.capacity;
  workers = h.workers;
  schedule = h.schedule;
  writers = h.writers;
  askers = h.askers;
  rounds = h.rounds;
  rows = h.rows;
  shifts = h.shifts;
  moved = h.moved;
  to = h.to;
}
one_more command columns found (value.Group g) h room legal = record {
  queries = omega (arith, room, length-append found.groups (g ∷ []));
  places = h.places;
  suits = h.suits;
  asked = h.asked;
  groups = All-push (IsAsked command columns) found.groups g h.groups legal;
  capacity = h.capacity;
  workers = h.workers;
  schedule = h.schedule;
  writers = h.writers;
  askers = h.askers;
  rounds = h.rounds;
  rows = h.rows;
  shifts = h.shifts;
  moved = h.moved;
  to = h.to;
}
one_more command columns found (value.Seed s) h room legal = record {
  queries = h.queries;
  places = h.places;
  suits = h.suits;
  asked = h.asked;
  groups = h.groups;
  capacity = h.capacity;
  workers = h.workers;
  schedule = h.schedule;
  writers = h.writers;
  askers = h.askers;
  rounds = h.rounds;
  rows = h.rows;
  shifts = h.shifts;
  moved = h.moved;
  to = h.to;
}
one_more command columns found (value.Capacity n) h room legal = record {
  queries = h.queries;
  places = h.places;
  suits = h.suits;
  asked = h.asked;
  groups = h.groups;
  capacity = legal;
  workers = h.workers;
  schedule = h.schedule;
  writers = h.writers;
  askers = h.askers;
  rounds = h.rounds;
  rows = h.rows;
  shifts = h.shifts;
  moved = h.moved;
  to = h.to;
}
one_more command columns found (value.Workers n) h room legal = record {
  queries = h.queries;
  places = h.places;
  suits = h.suits;
  asked = h.asked;
  groups = h.groups;
  capacity = h.capacity;
  workers = legal;
  schedule = h.schedule;
  writers = h.writers;
  askers = h.askers;
  rounds = h.rounds;
  rows = h.rows;
  shifts = h.shifts;
  moved = h.moved;
  to = h.to;
}
one_more command columns found (value.Schedule s) h room legal = record {
  queries = h.queries;
  places = h.places;
  suits = h.suits;
  asked = h.asked;
  groups = h.groups;
  capacity = h.capacity;
  workers = h.workers;
  schedule = legal;
  writers = h.writers;
  askers = h.askers;
  rounds = h.rounds;
  rows = h.rows;
  shifts = h.shifts;
  moved = h.moved;
  to = h.to;
}
one_more command columns found (value.Writers n) h room legal = record {
  queries = h.queries;
  places = h.places;
  suits = h.suits;
  asked = h.asked;
  groups = h.groups;
  capacity = h.capacity;
  workers = h.workers;
  schedule = h.schedule;
  writers = legal;
  askers = h.askers;
  rounds = h.rounds;
  rows = h.rows;
  shifts = h.shifts;
  moved = h.moved;
  to = h.to;
}
one_more command columns found (value.Askers n) h room legal = record {
  queries = h.queries;
  places = h.places;
  suits = h.suits;
  asked = h.asked;
  groups = h.groups;
  capacity = h.capacity;
  workers = h.workers;
  schedule = h.schedule;
  writers = h.writers;
  askers = legal;
  rounds = h.rounds;
  rows = h.rows;
  shifts = h.shifts;
  moved = h.moved;
  to = h.to;
}
one_more command columns found (value.Rounds n) h room legal = record {
  queries = h.queries;
  places = h.places;
  suits = h.suits;
  asked = h.asked;
  groups = h.groups;
  capacity = h.capacity;
  workers = h.workers;
  schedule = h.schedule;
  writers = h.writers;
  askers = h.askers;
  rounds = legal;
  rows = h.rows;
  shifts = h.shifts;
  moved = h.moved;
  to = h.to;
}
one_more command columns found (value.Number n) h room legal = record {
  queries = h.queries;
  places = h.places;
  suits = h.suits;
  asked = h.asked;
  groups = h.groups;
  capacity = h.capacity;
  workers = h.workers;
  schedule = h.schedule;
  writers = h.writers;
  askers = h.askers;
  rounds = h.rounds;
  rows = h.rows;
  shifts = h.shifts;
  moved = h.moved;
  to = h.to;
}
one_more command columns found (value.Rows n) h room legal = record {
  queries = h.queries;
  places = h.places;
  suits = h.suits;
  asked = h.asked;
  groups = h.groups;
  capacity = h.capacity;
  workers = h.workers;
  schedule = h.schedule;
  writers = h.writers;
  askers = h.askers;
  rounds = h.rounds;
  rows = legal;
  shifts = h.shifts;
  moved = h.moved;
  to = h.to;
}
one_more command columns found (value.Shift s) h room legal = record {
  queries = h.queries;
  places = h.places;
  suits = h.suits;
  asked = h.asked;
  groups = h.groups;
  capacity = h.capacity;
  workers = h.workers;
  schedule = h.schedule;
  writers = h.writers;
  askers = h.askers;
  rounds = h.rounds;
  rows = h.rows;
  shifts = omega (arith, room, length-append found.shifts (s ∷ []));
  moved = All-push IsShift found.shifts s h.moved legal;
  to = h.to;
}
one_more command columns found (value.From n) h room legal = record {
  queries = h.queries;
  places = h.places;
  suits = h.suits;
  asked = h.asked;
  groups = h.groups;
  capacity = h.capacity;
  workers = h.workers;
  schedule = h.schedule;
  writers = h.writers;
  askers = h.askers;
  rounds = h.rounds;
  rows = h.rows;
  shifts = h.shifts;
  moved = h.moved;
  to = h.to;
}
one_more command columns found (value.To n) h room legal = record {
  queries = h.queries;
  places = h.places;
  suits = h.suits;
  asked = h.asked;
  groups = h.groups;
  capacity = h.capacity;
  workers = h.workers;
  schedule = h.schedule;
  writers = h.writers;
  askers = h.askers;
  rounds = h.rounds;
  rows = h.rows;
  shifts = h.shifts;
  moved = h.moved;
  to = legal;
}

-- ---- the command

unwrapped : (P : ℕ → Type 0) (o : Option ℕ) (d : ℕ) → IfSome o P → P d → P (unwrap_or o d)
unwrapped P None d h p = p
unwrapped P (Some x) d h p = h

one_few : IsFew 1
one_few = (omega arith, omega arith)

two_few : IsFew 2
two_few = (omega arith, omega arith)

-- a command that asks no query by a column has none, and one that asks them has no other
none_by_column : (command : CommandName) (columns : List Column) (gs : List GroupQuery) → asks_groups command ≡ false → All (IsAsked command columns) gs → gs ≡ []
none_by_column command columns [] apart h = refl
none_by_column command columns (g ∷ gs) apart h = let asked = (All-head (IsAsked command columns) g gs h).asked in absurd cc

none_alone : (qs : List Query) → All (λ (q : Query). may_ask name.Groups q ≡ true) qs → qs ≡ []
none_alone [] h = refl
none_alone (q ∷ qs) h = let asked = All-head (λ (q : Query). may_ask name.Groups q ≡ true) q qs h in absurd cc

pub most_queries : (command : CommandName) → most_times option.Query command ≤ 16
most_queries name.Tamper = omega arith
most_queries name.Tree = omega arith
most_queries _ = omega arith

common_legal : (command : CommandName) (columns : List Column) (found : Found) → IsFound command columns found
    → Fits (bits_in columns) (largest_in (bits_in columns)) → 0 < times_found found option.Query → asks_groups command ≡ false → IsCommon (common_of columns found)
common_legal command columns found h room some apart = record {
  fits = unwrapped (Fits (bits_in columns)) found.capacity (largest_in (bits_in columns)) h.capacity room;
  some = let none = ap length (none_by_column command columns found.groups apart h.groups) in omega (arith, some, none);
  few = omega (arith, h.queries, most_queries command);
  places = h.places;
  suits = h.suits;
  workers = unwrapped IsFew found.workers 1 h.workers one_few;
}

is_made : (c d : Command) (w : Result Command WordFault) → w ≡ Ok c → w ≡ Ok d → c ≡ d
is_made c d w e f = cc

with_room : (c : Common) (r : ℕ) → Fits (bits_in c.schema) r → IsCommon c → IsCommon (record c { capacity = r })
with_room c r fits h = record {
  fits = fits;
  some = h.some;
  few = h.few;
  places = h.places;
  suits = h.suits;
  workers = h.workers;
}

legal_made : (common : Common) (number rows : Option ℕ) (c : Command) → IsCommon common → IfSome rows (Fits (bits_in common.schema))
    → made common number rows ≡ Ok c → IsLegal c
legal_made common None rows c h fits e = absurd cc
legal_made common (Some n) None c h fits e = absurd cc
legal_made common (Some n) (Some r) c h fits e =
    subst IsLegal (is_made (commands.Make (record common { capacity = r }) n r) c _ refl e)
    (record { common = with_room common r fits h; capacity = refl; fits = fits })

legal_replayed : (common : Common) (schedule : Option (List Step)) (c : Command) → IsCommon common → IfSome schedule IsSchedule
    → replayed common schedule ≡ Ok c → IsLegal c
legal_replayed common None c h legal e = absurd cc
legal_replayed common (Some s) c h legal e = subst IsLegal (is_made (commands.Replay common s) c _ refl e) (record { common = h; schedule = legal })

legal_tampered : (common : Common) (shifts : List ShiftWord) (c : Command) → IsCommon common → length common.queries ≤ 1 → length shifts ≤ 16
    → All IsShift shifts → tampered common shifts ≡ Ok c → IsLegal c
legal_tampered common [] c h one few moved e = absurd cc
legal_tampered common (s ∷ ss) c h one few moved e =
    subst IsLegal (is_made (commands.Tamper common (s ∷ ss)) c _ refl e)
    (record { common = h; single = omega (arith, h.some); some = omega arith; few = few; shifts = moved })

legal_ranged : (words : List (List ℕ)) (common : Common) (from to : Option ℕ) (c : Command) → IsCommon common → length common.queries ≤ 1
    → All (λ (q : Query). may_ask name.Tree q ≡ true) common.queries → IfSome to (λ n. n ≤ 65536) → ranged words common from to ≡ Ok c → IsLegal c
legal_ranged words common None to c h one counts few e = absurd cc
legal_ranged words common (Some low) None c h one counts few e = absurd cc
legal_ranged words common (Some low) (Some high) c h one counts few e = by (nat_le low high) refl e
  where
    by : (t : Bool) → nat_le low high ≡ t → (guard t (Word (to_word 2 words)) >>= λ _. Ok (commands.Tree common low high)) ≡ Ok c → IsLegal c
    by false p q = absurd cc
    by true p q =
        subst IsLegal (is_made (commands.Tree common low high) c _ refl q)
        (record { common = h; single = omega (arith, one, h.some); counts = counts; order = grind arith; few = few })

legal_asked : (columns : List Column) (gs : List GroupQuery) → All (IsAsked name.Groups columns) gs → All (IsGroup columns) gs
legal_asked columns gs h = λ i d lt. (h i d lt).legal

groups_legal : (columns : List Column) (found : Found) → IsFound name.Groups columns found
    → Fits (bits_in columns) (largest_in (bits_in columns)) → 0 < times_found found option.Query → IsGroups (common_of columns found) found.groups
groups_legal columns found h room some =
    let none = none_alone found.queries h.asked in
    let empty = ap length none in
    record {
      fits = unwrapped (Fits (bits_in columns)) found.capacity (largest_in (bits_in columns)) h.capacity room;
      alone = none;
      some = omega (arith, some, empty);
      few = omega (arith, h.queries);
      each = legal_asked columns found.groups h.groups;
      workers = unwrapped IsFew found.workers 1 h.workers one_few;
    }

legal_with : (words : List (List ℕ)) (command : CommandName) (columns : List Column) (found : Found) (c : Command) → IsFound command columns found
    → Fits (bits_in columns) (largest_in (bits_in columns)) → 0 < times_found found option.Query → command_with words command columns found ≡ Ok c → IsLegal c
legal_with words name.Ask columns found c h room some e =
    subst IsLegal (is_made (commands.Ask (common_of columns found)) c _ refl e) (common_legal name.Ask columns found h room some refl)
legal_with words name.Replay columns found c h room some e =
    legal_replayed (common_of columns found) found.schedule c (common_legal name.Replay columns found h room some refl) h.schedule e
legal_with words name.Race columns found c h room some e =
    subst IsLegal (is_made (commands.Race (common_of columns found) (unwrap_or found.writers 2) (unwrap_or found.askers 2) (unwrap_or found.rounds 1)) c _ refl e)
    (record {
      common = common_legal name.Race columns found h room some refl;
      writers = unwrapped IsFew found.writers 2 h.writers two_few;
      askers = unwrapped IsFew found.askers 2 h.askers two_few;
      rounds = unwrapped IsFew found.rounds 1 h.rounds one_few;
    })
legal_with words name.Make columns found c h room some e =
    legal_made (common_of columns found) found.number found.rows c (common_legal name.Make columns found h room some refl) h.rows e
legal_with words name.Trace columns found c h room some e =
    subst IsLegal (is_made (commands.Trace (common_of columns found)) c _ refl e) (common_legal name.Trace columns found h room some refl)
legal_with words name.Tamper columns found c h room some e =
    let one : length found.queries ≤ 1 = let most = h.queries in omega arith in
    legal_tampered (common_of columns found) found.shifts c (common_legal name.Tamper columns found h room some refl) one h.shifts h.moved e
legal_with words name.Tree columns found c h room some e =
    let one : length found.queries ≤ 1 = let most = h.queries in omega arith in
    legal_ranged words (common_of columns found) found.from found.to c (common_legal name.Tree columns found h room some refl) one h.asked h.to e
legal_with words name.Groups columns found c h room some e =
    subst IsLegal (is_made (commands.Groups (common_of columns found) found.groups) c _ refl e) (groups_legal columns found h room some)

legal_finished : (words : List (List ℕ)) (command : CommandName) (columns : List Column) (found : Found) (c : Command) → IsFound command columns found
    → Fits (bits_in columns) (largest_in (bits_in columns)) → finished words command columns found ≡ Ok c → IsLegal c
unfolding finished
legal_finished words command columns found c h room e = by (nat_lt 0 (times_found found option.Query)) refl e
  where
    by : (t : Bool) → nat_lt 0 (times_found found option.Query) ≡ t
        → (guard t (Missing (codes "--query")) >>= λ _. command_with words command columns found) ≡ Ok c → IsLegal c
    by false p q = absurd cc
    by true p q = legal_with words command columns found c h room (grind arith) q

-- the command of options that are legal, where the greatest capacity fits
pub legal_result : (words : List (List ℕ)) (command : CommandName) (columns : List Column) (found : Found) (r : Result Command WordFault) → IsFound command columns found
    → Fits (bits_in columns) (largest_in (bits_in columns)) → Reads (λ c. c) r (finished words command columns found) → IfOk r IsLegal
legal_result words command columns found (Err why) h room e = tt
legal_result words command columns found (Ok c) h room e = legal_finished words command columns found c h room e
