-- The messages of a run by buckets, and of both.
use Rattle.std.proofs.Common.{◌≡◌, ◌∙◌, refl, sym, ap, subst, ℕ, ◌<◌, List, ◌++◌, length, get_or, arith, length-append, append-nil, ⊎_elim, eqb, true, false}
use Rattle.std.proofs.lemmas.Bool.{cases_Bool}
use Rattle.std.proofs.lemmas.Nat.{pow_pos}
use Rattle.table_schema.specs.declared.widths.Widths.{Widths}
use Rattle.list_facts.proofs.Listed.{listed_is, length-listed}
use Rattle.ring128.specs.Laws.{IsThree}
use Rattle.ring128.proofs.Laws.{get_or-sums3, length-sums3}
use Rattle.wire_line.specs.declared.message.Message.{Message}
use Rattle.wire_line.specs.Messages.{message_at}
use Rattle.scan_chunks.specs.Pieces.{Pieces}
use Rattle.table_schema.specs.declared.shapes.Aggregate.{Aggregate}
use Rattle.table_schema.specs.declared.shapes.Aggregate.TheVariants.{Count, Sum}
use Rattle.onehot_column.specs.Code.{width_of}
use Rattle.query_plan.specs.Views.{View}
use Rattle.transcript.specs.Setup.{Sizes, count_of}
use Rattle.transcript.specs.Transcript.{IsPart, IsTranscript, opened_at}
use Rattle.server_rounds.specs.declared.way.Way.TheVariants.{ToClient}
use Rattle.server_rounds.specs.Groups.{Pairs, IsGroup}
use Rattle.server_rounds.specs.Runs.{IsBefore, IsRunPart, HaveProducts, HaveEnded, setup_of}
use Rattle.server_rounds.proofs.Extend.{opened_stays}
use Rattle.server_rounds.proofs.Runs.{products_ended, further_part, further_more, last_part, last_ends}
use Rattle.server_rounds.proofs.Both.{after_run}
use Rattle.bucket_groups.specs.Ending.{further_steps, bucket_ending, opened_groups}
use Rattle.bucket_groups.specs.Rounds.{values_of, buckets_of, IsValuePart, AreValued, AreOpened, AreGroups}

-- the messages before the openings go on with the products
value_part : (z : Sizes) (column : ℕ) (pieces : ℕ → Pieces) (run : ℕ) (views : ℕ → View) (chain : Pairs) (ms ns : List Message) (a : Aggregate) → z.shape.aggregate ≡ a → run < 2
    → HaveProducts z pieces run views (count_of z) chain ms → IsValuePart a (values_of z run views pieces chain) ns
    → IsRunPart z (bucket_ending z column) pieces run views (ms ++ ns)
value_part z column pieces run views chain ms ns Count e two so none =
    let P : List Message → Type 0 = λ l. IsRunPart z (bucket_ending z column) pieces run views l in
    subst P (sym (ap (λ (l : List Message). ms ++ l) none ∙ append-nil ms)) (so.part (bucket_ending z column))
value_part z column pieces run views chain ms ns Sum e two so group =
    let one : further_steps z.shape.aggregate ≡ 1 = ap further_steps e in
    further_part z (bucket_ending z column) pieces run views 0 chain ms ns two (omega arith) (products_ended z (bucket_ending z column) pieces run views chain ms so) group

pub before_part : (z : Sizes) (column : ℕ) (pieces : ℕ → Pieces) (run : ℕ) (views : ℕ → View) (chain : Pairs) (ms ns : List Message) → run < 2
    → HaveProducts z pieces run views (count_of z) chain ms → IsValuePart z.shape.aggregate (values_of z run views pieces chain) ns
    → IsRunPart z (bucket_ending z column) pieces run views (ms ++ ns)
before_part z column pieces run views chain ms ns two so part = value_part z column pieces run views chain ms ns z.shape.aggregate refl two so part

value_ended : (z : Sizes) (column : ℕ) (pieces : ℕ → Pieces) (run : ℕ) (views : ℕ → View) (chain held : Pairs) (ms ns : List Message) (a : Aggregate) → z.shape.aggregate ≡ a → run < 2
    → HaveProducts z pieces run views (count_of z) chain ms → IsValuePart a (values_of z run views pieces chain) ns → AreValued a chain ns held
    → HaveEnded z (bucket_ending z column) pieces run views (further_steps a) held (ms ++ ns)
value_ended z column pieces run views chain held ms ns Count e two so none same =
    let P : List Message → Type 0 = λ l. HaveEnded z (bucket_ending z column) pieces run views 0 held l in
    let Q : Pairs → Type 0 = λ p. HaveEnded z (bucket_ending z column) pieces run views 0 p ms in
    subst P (sym (ap (λ (l : List Message). ms ++ l) none ∙ append-nil ms)) (subst Q (sym same) (products_ended z (bucket_ending z column) pieces run views chain ms so))
value_ended z column pieces run views chain held ms ns Sum e two so group r =
    let one : further_steps z.shape.aggregate ≡ 1 = ap further_steps e in
    further_more z (bucket_ending z column) pieces run views 0 chain held ms ns two (omega arith) (products_ended z (bucket_ending z column) pieces run views chain ms so) group r

before_ended : (z : Sizes) (column : ℕ) (pieces : ℕ → Pieces) (run : ℕ) (views : ℕ → View) (chain held : Pairs) (ms ns : List Message) → run < 2
    → HaveProducts z pieces run views (count_of z) chain ms → IsValuePart z.shape.aggregate (values_of z run views pieces chain) ns → AreValued z.shape.aggregate chain ns held
    → HaveEnded z (bucket_ending z column) pieces run views (further_steps z.shape.aggregate) held (ms ++ ns)
before_ended z column pieces run views chain held ms ns two so part valued = value_ended z column pieces run views chain held ms ns z.shape.aggregate refl two so part valued

-- the openings go on with them
pub buckets_part : (z : Sizes) (column : ℕ) (pieces : ℕ → Pieces) (run : ℕ) (views : ℕ → View) (chain held : Pairs) (ms ns os : List Message) → run < 2
    → HaveProducts z pieces run views (count_of z) chain ms → IsValuePart z.shape.aggregate (values_of z run views pieces chain) ns → AreValued z.shape.aggregate chain ns held
    → IsGroup ToClient (buckets_of z column run views pieces held) os
    → IsRunPart z (bucket_ending z column) pieces run views ((ms ++ ns) ++ os)
buckets_part z column pieces run views chain held ms ns os two so part valued group =
    last_part z (bucket_ending z column) pieces run views held (ms ++ ns) os two (before_ended z column pieces run views chain held ms ns two so part valued) group

-- what was received of each server is a number a bucket
received_long : (z : Sizes) (column : ℕ) (pieces : ℕ → Pieces) (run : ℕ) (views : ℕ → View) (held : Pairs) (os : List Message) (k : ℕ) → k < 3 → length os ≡ 3
    → IsGroup ToClient (buckets_of z column run views pieces held) os → length (message_at os k).received ≡ width_of z.widths column
received_long z column pieces run views held os k b full group =
    let fits = group.fits k (omega arith) in fits.long ∙ ap length fits.words ∙ length-listed (width_of z.widths column) _

pub buckets_end : (z : Sizes) (column : ℕ) (pieces : ℕ → Pieces) (run : ℕ) (views : ℕ → View) (chain held : Pairs) (ms ns os : List Message) (totals : List ℕ) → run < 2
    → HaveProducts z pieces run views (count_of z) chain ms → IsValuePart z.shape.aggregate (values_of z run views pieces chain) ns → AreValued z.shape.aggregate chain ns held
    → IsGroup ToClient (buckets_of z column run views pieces held) os → AreOpened os totals
    → AreGroups z column pieces run views ((ms ++ ns) ++ os) totals
buckets_end z column pieces run views chain held ms ns os totals two so part valued group o =
    let ended = before_ended z column pieces run views chain held ms ns two so part valued in
    let r = λ (k : ℕ). (message_at os k).received in
    let w = width_of z.widths column in
    let long = λ (k : ℕ) (b : k < 3). received_long z column pieces run views held os k b o.full group in
    let three : IsThree w (r 0) (r 1) (r 2) = record { first = long 0 (omega arith); second = long 1 (omega arith); third = long 2 (omega arith) } in
    record {
      some = ended.some;
      full = omega (arith, length-append (ms ++ ns) os, ended.long, ended.some, o.full);
      long = ap length o.sum ∙ length-sums3 w (r 0) (r 1) (r 2) three;
      at = λ b h.
          last_ends z (bucket_ending z column) pieces run views held (ms ++ ns) os b (get_or totals b 0) ended o.full
          (ap (λ (l : List ℕ). get_or l b 0) o.sum ∙ get_or-sums3 w b (r 0) (r 1) (r 2) three h);
    }

-- both runs
pub after_groups : (z : Sizes) (column : ℕ) (keys : ℕ → List ℕ) (read : List ℕ → View) (pieces : ℕ → Pieces) (views : ℕ → View) (earlier ms : List Message) (totals : List ℕ)
    → IsBefore (setup_of z (bucket_ending z column) keys read pieces) 0 views earlier → IsRunPart z (bucket_ending z column) pieces 0 views ms → 0 < width_of z.widths column
    → AreGroups z column pieces 0 views ms totals → IsBefore (setup_of z (bucket_ending z column) keys read pieces) 1 views (earlier ++ ms)
after_groups z column keys read pieces views earlier ms totals b part wide groups =
    after_run z (bucket_ending z column) keys read pieces views earlier ms 0 (get_or totals 0 0) b part (groups.at 0 wide)

pub whole_groups : (z : Sizes) (column : ℕ) (keys : ℕ → List ℕ) (read : List ℕ → View) (pieces : ℕ → Pieces) (views : ℕ → View) (ks ms ns : List Message) (totals weighted : List ℕ)
    → let s = setup_of z (bucket_ending z column) keys read pieces in
    IsBefore s 0 views ks → IsBefore s 1 views (ks ++ ms) → AreGroups z column pieces 0 views ms totals → IsPart s ((ks ++ ms) ++ ns) → AreGroups z column pieces 1 views ns weighted
    → IsTranscript s ((ks ++ ms) ++ ns) × (totals ≡ opened_groups s column ((ks ++ ms) ++ ns) 0) × (weighted ≡ opened_groups s column ((ks ++ ms) ++ ns) 1)
whole_groups z column keys read pieces views ks ms ns totals weighted b0 b1 run0 part run1 =
    let s = setup_of z (bucket_ending z column) keys read pieces in
    let w = width_of z.widths column in (
      record { part = part; full = omega (arith, length-append (ks ++ ms) ns, b1.long, run1.full) },
      listed_is w (opened_at s ((ks ++ ms) ++ ns) 0) 0 totals run0.long
          (λ b h. (run0.at b h).sum keys read ks b0 ∙ sym (opened_stays s (ks ++ ms) ns 0 b (omega (arith, b1.long)) run0.some)),
      listed_is w (opened_at s ((ks ++ ms) ++ ns) 1) 0 weighted run1.long (λ b h. (run1.at b h).sum keys read (ks ++ ms) b1),
    )

pub wide_column : (w : Widths) (column : ℕ) → 0 < width_of w column
wide_column w column =
    ⊎_elim
    (λ (yes : eqb column w.columns ≡ true). rw yes (omega arith))
    (λ (no : eqb column w.columns ≡ false). rw no (pow_pos (get_or w.bits column 0)))
    (cases_Bool (eqb column w.columns))
