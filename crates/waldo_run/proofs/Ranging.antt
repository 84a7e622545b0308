-- The query of `tree`: its messages, the wires, and its reply.
use Rattle.std.proofs.Common.{◌≡◌, ◌≢◌, ◌∙◌, refl, sym, ap, subst, Bool, true, false, cond, eqb, ◌++◌, ℕ, ℤ, zero, suc, ◌+◌, ◌-◌, ◌*◌, ◌%◌, ◌^◌, ◌<◌, ◌≤◌, List, [], ◌∷◌, All, Option, Some, length, map, max, drop, take, slice_get, set, get_or, append-nil, arith}
use Rattle.std.proofs.lemmas.Bool.{eq-eqb, eqb-true, le-ltb, lt-ltb}
use Rattle.std.proofs.lemmas.List.{length-drop, length-take, take_all}
use Rattle.agreed_rows.specs.Agreed.{Entries}
use Rattle.query_plan.specs.KeyMessages.{Asked}
use Rattle.row_tree.specs.declared.exchange.TreePair.{TreePair}
use Rattle.schedule_play.specs.AllAgreed.{core_agreed}
use Rattle.waldo_core.specs.Answers.{rows_agreed}
use Rattle.waldo_core.specs.Core.{Core}
use Rattle.waldo_core.specs.Held.{IsAgreedBy}
use Rattle.waldo_core.specs.Machines.{Seen}
use Rattle.std.proofs.lemmas.List.Elements.{All-cons, All-drop, All-nil, All-tail, All-take}
use Rattle.std.specs.List.{flat_map}
use Rattle.onehot_column.specs.Code.{code_at, width_of}
use Rattle.prg_chacha.specs.Prg.{derive_of}
use Rattle.prg_chacha.specs.declared.seed.Seed.{Seed}
use Rattle.query_plan.specs.Laws.{AreKeysOf}
use Rattle.query_plan.specs.Seeds.{weights_of}
use Rattle.query_plan.specs.Views.{key_from}
use Rattle.replicated_share.specs.Share.{AreShares}
use Rattle.ring128.specs.Signed.{word_of, signed_of, size_of}
use Rattle.ring128.proofs.Signed.{signed-word}
use Rattle.ring128.specs.Ring.{times}
use Rattle.row_tree.specs.Column.{Tree}
use Rattle.row_tree.specs.Laws.{AsksTrees, TreesOpen, rows_between}
use Rattle.schedule_play.specs.Appended.{seeded_rows}
use Rattle.server_rounds.specs.Groups.{by_server}
use Rattle.table_schema.specs.Widths.{Holds}
use Rattle.transcript.specs.Laws.{PiecesHold, PlainIsSmall}
use Rattle.transcript.specs.Rows.{pieces_over}
use Rattle.transcript.proofs.Shifted.{column_there as predicate_there}
use Rattle.weighted_check.specs.Check.{checked}
use Rattle.std.proofs.lemmas.Result.{IfOk-from_err}
use Rattle.std.specs.Prelude.{Result, Ok, Err, IfOk, IsErr, OnErr}
use Rattle.query_plan.specs.Query.{Suits, no_predicate, predicate_at}
use Rattle.query_plan.specs.declared.query.Predicate.{Predicate}
use Rattle.query_plan.specs.declared.query.Query.{Query}
use Rattle.report_lines.specs.declared.lines.Line.TheVariants as lines
use Rattle.ring128.specs.declared.memory.Memory.{Memory}
use Rattle.schedule_play.specs.History.{AreHonest, Done, nothing_opened, pair_at, sent_by}
use Rattle.schedule_play.specs.Tasks.{Setting}
use Rattle.schedule_play.specs.Wires.{Carried, Unaltered, WiresWent}
use Rattle.server_rounds.specs.declared.opened.OpenedPair.{OpenedPair}
use Rattle.table_schema.specs.declared.rows.Row.{Row}
use Rattle.table_schema.specs.declared.widths.Widths.{Widths}
use Rattle.row_tree.specs.Rounds.{IsTreePart, IsTreeTranscript, Sides, sides_over, tree_opened}
use Rattle.waldo_words.specs.declared.command.Command.{Command}
use Rattle.waldo_words.specs.declared.command.Command.TheVariants as commands
use Rattle.waldo_words.specs.declared.command.Common.{Common}
use Rattle.waldo_words.specs.declared.schedule.Step.TheVariants.{Answer}
use Rattle.waldo_run.specs.Replies.{Reply, checked_answer, range_line, range_reply, rows_reply, single}
use Rattle.waldo_run.specs.Run.{AskedOver, BegunOver}
use Rattle.waldo_run.specs.Tampered.{CarriedBy, UnalteredBy}
use Rattle.waldo_run.specs.Tasks.{AreWidthsIn, setting_of}
use Rattle.waldo_run.specs.Trees.{BeginsRange, HasRange, IsPlainRange, IsRange, asked_in, judged_in, no_query, opened_by, pair_of, plain_count, query_in, seed_in, sides_in, tree_in, tree_over}
use Rattle.waldo_run.proofs.Begun.{on_err}
use Rattle.waldo_run.proofs.Wires.{still_wires}
use Rattle.wire_line.specs.Carried.{went_none}
use Rattle.wire_line.specs.Messages.{IsHonest, Went}
use Rattle.wire_line.specs.Sights.{NonePasses, Sight}
use Rattle.wire_line.specs.declared.message.Message.{Message}

-- one answer of actor 0
abbrev pub asked_once : List Message → OpenedPair → Done
asked_once ms pair = record { step = Answer 0 0; messages = ms; pair = pair }

-- ---- the wires

-- no other actor sent them
pub never : (actor : ℕ) → eqb 0 (actor + 1) ≡ false
never actor = by (eqb 0 (actor + 1)) refl
  where
    by : (t : Bool) → eqb 0 (actor + 1) ≡ t → t ≡ false
    by true e = absurd (omega (arith, eqb-true 0 (actor + 1) e))
    by false e = refl

none_sent : (ms : List Message) (pair : OpenedPair) (actor : ℕ) → sent_by (actor + 1) (asked_once ms pair ∷ []) ≡ []
none_sent ms pair actor = ap (λ (t : Bool). cond t (ms ++ []) []) (never actor)

module _ {W : Type 0} (sight : Sight W) where
  -- the others are as they were
  others_still : NonePasses sight → (ms : List Message) (pair : OpenedPair) (actor : ℕ) (ws : List W) → WiresWent sight (asked_once ms pair ∷ []) (actor + 1) ws ws
  others_still none ms pair actor [] = tt
  others_still none ms pair actor (w ∷ ws) = (
    record {
      went = subst (λ (l : List Message). Went sight w l w) (sym (none_sent ms pair actor)) (went_none sight w w refl refl (none w));
      still = λ _. refl;
    },
    others_still none ms pair (actor + 1) ws,
  )

  -- the first one carried these messages
  pub first_carried : NonePasses sight → (vs : List W) (v u : W) (ms : List Message) (pair : OpenedPair) → 0 < length vs → v ≡ get_or vs 0 v → Went sight v ms u
      → Carried sight vs (set vs 0 u) (asked_once ms pair ∷ []) × AreHonest (Unaltered sight vs (set vs 0 u)) (asked_once ms pair ∷ [])
  first_carried none [] v u ms pair some is went = absurd (omega (arith, some))
  first_carried none (w ∷ ws) v u ms pair some is went =
      let here : Went sight w ms u = subst (λ (x : W). Went sight x ms u) is went in (
        (record { went = subst (λ (l : List Message). Went sight w l u) (sym (append-nil ms)) here; still = λ e. absurd cc }, others_still none ms pair 0 ws),
        (here.honest, tt),
      )

-- ---- messages

-- no message
pub no_part : (s : Sides) → IsTreePart s []
no_part s = record {
  few = omega arith;
  keys = λ k small lt. absurd (omega (arith, lt));
  openings = λ run k r small lt. absurd (omega (arith, lt));
}

-- the first element
first_same : {A : Type 0} (xs : List A) (d e : A) → 0 < length xs → get_or xs 0 d ≡ get_or xs 0 e
first_same [] d e some = absurd (omega (arith, some))
first_same (x ∷ xs) d e some = refl

-- what the query asks, and its column
pub the_keys : (w : Widths) (s : Setting) (keys : Asked) (d : Query) (seed : Seed) → length s.queries ≡ 1
    → keys ≡ record { query = get_or s.queries 0 d; widths = w; seed = seed } → seed ≡ seed_in s → keys ≡ asked_in w s
the_keys w s keys d seed one is from =
    let at : Query → Seed → Asked = λ q x. record { query = q; widths = w; seed = x } in
    is ∙ ap (λ (q : Query). at q seed) (first_same s.queries d no_query (omega (arith, one))) ∙ ap (at (query_in s)) from

pub the_column : (s : Setting) (d : Query) (e : Predicate) → length s.queries ≡ 1 → All (λ (q : Query). length q.predicates ≡ 4) s.queries
    → (get_or (get_or s.queries 0 d).predicates 0 e).column ≡ (predicate_at (query_in s) 0).column
the_column s d e one four =
    let here : 0 < length s.queries = omega (arith, one) in
    ap (λ (q : Query). (get_or q.predicates 0 e).column) (first_same s.queries d no_query here)
    ∙ ap (λ (p : Predicate). p.column) (first_same (query_in s).predicates e no_predicate (omega (arith, four 0 no_query here)))

-- ---- the trees

two_cells : (b : ℕ) → 0 < b → b ≤ 8 → 2 ≤ 1 * 2 ^ b % 18446744073709551616
two_cells zero some few = absurd (omega (arith, some))
two_cells (suc zero) some few = omega arith
two_cells (suc (suc zero)) some few = omega arith
two_cells (suc (suc (suc zero))) some few = omega arith
two_cells (suc (suc (suc (suc zero)))) some few = omega arith
two_cells (suc (suc (suc (suc (suc zero))))) some few = omega arith
two_cells (suc (suc (suc (suc (suc (suc zero)))))) some few = omega arith
two_cells (suc (suc (suc (suc (suc (suc (suc zero))))))) some few = omega arith
two_cells (suc (suc (suc (suc (suc (suc (suc (suc zero)))))))) some few = omega arith
two_cells (suc (suc (suc (suc (suc (suc (suc (suc (suc b))))))))) some few = absurd (omega (arith, few))

-- a column has two cells at least
pub least_cells : (w : Widths) (column : ℕ) → column < w.columns → 2 ≤ 1 * 2 ^ get_or w.bits column 0 % 18446744073709551616
least_cells w column there = let b = w.legal.2 column there in two_cells (get_or w.bits column 0) b.0 b.1

-- trees over the same cells
abbrev tree_with : Widths → ℕ → ℕ → List ℕ → List ℕ → Tree
tree_with w column rows x y = record { column = column; width = width_of w column; rows = rows; first = x; second = y; visits = [] }

pub same_tree : (w : Widths) (column rows n : ℕ) (x y u v : List ℕ) (t : Tree) → t ≡ tree_with w column rows x y → rows ≡ n → x ≡ u → y ≡ v
    → t ≡ tree_with w column n u v
same_tree w column rows n x y u v t is e f g =
    is ∙ ap (λ (r : ℕ). tree_with w column r x y) e ∙ ap (λ (l : List ℕ). tree_with w column n l y) f ∙ ap (tree_with w column n u) g

some_same : (a b : ℕ) → ◌≡◌ {A = Option ℕ} (Some a) (Some b) → a ≡ b
some_same a b e = cc

-- all rows were agreed on
pub agreed_all : (m : Seen) (e : Entries) (all : List (Row × Seed)) → m.core ≡ core_agreed all → IsAgreedBy m 0 e → e.all ≡ all
agreed_all m e all core is =
    let count : ◌≡◌ {A = Option ℕ} (Some (length e.all)) (Some (length all)) =
    sym is.agreed ∙ ap (λ (c : Core). rows_agreed (slice_get c.actors 0)) core in
    let n : length e.all ≡ length all = some_same (length e.all) (length all) count in
    ap (λ (x : Entries). x.all) is.first ∙ ap (λ (c : Core). take (length e.all) c.order) core ∙ take_all (length e.all) all (omega (arith, n))

pub sides_are : (w : Widths) (s : Setting) (low high : ℕ) (keys : Asked) (t0 t1 t2 : Tree) (all : List (Row × Seed)) (column : ℕ) → keys ≡ asked_in w s
    → t0 ≡ tree_over w all column 0 → t1 ≡ tree_over w all column 1 → t2 ≡ tree_over w all column 2
    → all ≡ seeded_rows s.master 0 s.rows → column ≡ (predicate_at (query_in s) 0).column
    → sides_over keys t0 t1 t2 low high ≡ sides_in w s low high
sides_are w s low high keys t0 t1 t2 all column k e0 e1 e2 rows at =
    let moved : (i : ℕ) → tree_over w all column i ≡ tree_in w s i =
    λ i. ap (λ (l : List (Row × Seed)). tree_over w l column i) rows ∙ ap (λ (c : ℕ). tree_over w (seeded_rows s.master 0 s.rows) c i) at in
    ap (λ (a : Asked). sides_over a t0 t1 t2 low high) k
    ∙ ap (λ (t : Tree). sides_over (asked_in w s) t t1 t2 low high) (e0 ∙ moved 0)
    ∙ ap (λ (t : Tree). sides_over (asked_in w s) (tree_in w s 0) t t2 low high) (e1 ∙ moved 1)
    ∙ ap (λ (t : Tree). sides_over (asked_in w s) (tree_in w s 0) (tree_in w s 1) t low high) (e2 ∙ moved 2)

pub same_pair : (pair : TreePair) (ms : List Message) → pair.total ≡ tree_opened ms 0 → pair.weighted ≡ tree_opened ms 1 → opened_by pair ≡ pair_of ms
same_pair pair ms e f =
    let at : ℕ → ℕ → OpenedPair = λ t v. record { total = t; weighted = v } in
    ap (λ (t : ℕ). at t pair.weighted) e ∙ ap (at (tree_opened ms 0)) f

-- ---- what is opened

pub rows_back : (master : Seed) (i : ℕ) (rows : List Row) → map (λ (entry : Row × Seed). entry.0) (seeded_rows master i rows) ≡ rows
rows_back master i [] = refl
rows_back master i (row ∷ rows) = ap (λ (l : List Row). row ∷ l) (rows_back master (i + 1) rows)

seeded_held : (w : Widths) (master : Seed) (i : ℕ) (rows : List Row) → All (Holds w) rows → All (λ (entry : Row × Seed). Holds w entry.0) (seeded_rows master i rows)
seeded_held w master i [] held = All-nil (λ (entry : Row × Seed). Holds w entry.0)
seeded_held w master i (row ∷ rows) held =
    All-cons (λ (entry : Row × Seed). Holds w entry.0) (row, derive_of master 1 0 i) (seeded_rows master (i + 1) rows) (held 0 row (omega arith))
    (seeded_held w master (i + 1) rows (All-tail (Holds w) row rows held))

-- a pair that keeps the relation is accepted
accepted : (answer : ℤ) (key : ℕ) → size_of answer < 2 ^ 63 → checked (word_of answer) (times key (word_of answer)) key ≡ Ok answer
accepted answer key small =
    let same : signed_of (word_of answer) ≡ answer = signed-word answer (omega arith) in
    let product = times key (word_of answer) in
    rw (eq-eqb product product refl, same, lt-ltb (size_of answer) (2 ^ 63) small) refl

-- the servers' trees hold the rows
module _ (hold : PiecesHold) (w : Widths) (s : Setting) (low high : ℕ) (legal : IsRange w s low high) where
  abbrev pub column : ℕ
  column = (predicate_at (query_in s) 0).column

  suits : Suits w.columns w.bits (query_in s)
  suits = legal.setting.suits 0 no_query (omega (arith, legal.single))

  pub column_there : column < w.columns
  column_there = predicate_there w.columns w.bits (query_in s) 0 suits (omega (arith, legal.one))

  abbrev entries : List (Row × Seed)
  entries = seeded_rows s.master 0 s.rows

  shared : AreShares (λ k. (pieces_over w entries k).first column) (λ k. (pieces_over w entries k).second column) (flat_map (code_at w column) s.rows)
  shared = subst (λ (rows : List Row). AreShares (λ k. (pieces_over w entries k).first column) (λ k. (pieces_over w entries k).second column) (flat_map (code_at w column) rows))
      (rows_back s.master 0 s.rows) ((hold w entries (seeded_held w s.master 0 s.rows legal.setting.held)).shared column (omega (arith, column_there)))

  abbrev three : ℕ → Tree
  three = by_server (tree_in w s 0) (tree_in w s 1) (tree_in w s 2)

  next : (k : ℕ) → k < 3 → (three k).second ≡ (three ((k + 1) % 3)).first
  next zero h = refl
  next (suc zero) h = refl
  next (suc (suc zero)) h = refl
  next (suc (suc (suc k))) h = absurd (omega (arith, h))

  wide : (k : ℕ) → k < 3 → (three k).width ≡ width_of w column
  wide zero h = refl
  wide (suc zero) h = refl
  wide (suc (suc k)) h = refl

  asks : AreKeysOf (asked_in w s) → AsksTrees (asked_in w s) s.rows three
  asks keys = record {
    suits = suits;
    keys = keys;
    one = legal.one;
    count = legal.count;
    hold = record {
      held = legal.setting.held;
      width = wide;
      shared = record { next = next; long = shared.long; adds_up = shared.adds_up };
    };
  }

  small_count : PlainIsSmall → size_of (plain_count s low high) < 2 ^ 63
  small_count small =
      let most : max 1 (length s.rows) ≤ 65536 = legal.setting.fits.1 in
      let rows = rows_between s.rows low high in
      let few : length rows ≤ 65536 = omega (arith, most, length-take (high - low) (drop low s.rows), length-drop low s.rows) in
      let held = All-take (Holds w) (high - low) (drop low s.rows) (All-drop (Holds w) low s.rows legal.setting.held) in
      omega (arith, small w (query_in s) rows held few)

  -- what is opened of messages that were received as they were sent is accepted, and it is the plain count
  pub opens_plainly : TreesOpen → PlainIsSmall → high ≤ length s.rows → AreKeysOf (asked_in w s) → (ms : List Message) → IsTreeTranscript (sides_in w s low high) ms
      → IsHonest ms → judged_in s (pair_of ms) ≡ Ok (plain_count s low high)
  opens_plainly law small there keys ms all honest =
      let o = law (asked_in w s) s.rows (tree_in w s 0) (tree_in w s 1) (tree_in w s 2) low high ms legal.order there (asks keys) all honest in
      let weights = weights_of (seed_in s) 1 in
      let answer = plain_count s low high in
      let n = word_of answer in
      let count = (query_in s).count in
      ap (λ (t : ℕ). checked t (tree_opened ms 1) (key_from weights count)) o.0
      ∙ ap (λ (v : ℕ). checked n v (key_from weights count)) o.1
      ∙ ap (λ (c : ℕ). checked n (times (key_from weights 1) n) (key_from weights c)) legal.one
      ∙ accepted answer (key_from weights 1) (small_count small)

-- ---- the reply

-- what a query over a range comes to: its messages, and the reply to what they opened
abbrev pub RangeAsked : {W : Type 0} → Sight W → Widths → Setting → ℕ → ℕ → List W → List W → Result Reply Memory → Type 0
RangeAsked sight w s low high vs ws result =
    (history : List Done) × Carried sight vs ws history
    × OnErr result (BeginsRange w s low high history)
    × IfOk result (λ (reply : Reply). HasRange w s low high history × AreHonest (Unaltered sight vs ws) history × IsPlainRange s low high history
    × (reply ≡ range_reply s low high (judged_in s (pair_at history 0)))
    × (((actor : ℕ) → Unaltered sight vs ws actor) → reply.status ≢ 7))

module _ {W : Type 0} (sight : Sight W) (none : NonePasses sight) (w : Widths) (s : Setting) (low high : ℕ) (vs : List W) where
  -- too few rows
  pub range_none : length s.rows < high → (result : Result Reply Memory) → IfOk result (λ (reply : Reply). reply ≡ single 5 (lines.TooFew high))
      → RangeAsked sight w s low high vs vs result
  range_none lt (Err memory) is = ([], still_wires sight none vs, tt, tt)
  range_none lt (Ok reply) is = (
    [],
    still_wires sight none vs,
    tt,
    (
      lt,
      tt,
      tt,
      is ∙ sym (few lt),
      λ still seven. let five : reply.status ≡ 5 = ap (λ (r : Reply). r.status) is in omega (arith, five, seven),
    ),
  )
    where
      few : length s.rows < high → range_reply s low high (judged_in s (pair_at [] 0)) ≡ single 5 (lines.TooFew high)
      few lt = rw (lt-ltb (length s.rows) high lt) refl

  module _ (v u : W) (ms : List Message) (some : 0 < length vs) (is : v ≡ get_or vs 0 v) (went : Went sight v ms u) where
    -- out of memory, before the last message
    pub range_begun : IsTreePart (sides_in w s low high) ms → (result : Result Reply Memory) → IsErr result → RangeAsked sight w s low high vs (set vs 0 u) result
    range_begun part result err =
        (asked_once ms nothing_opened ∷ [], (first_carried sight none vs v u ms nothing_opened some is went).0, on_err result _ (refl, part), IfOk-from_err result _ err)

    -- all messages
    pub range_sent : high ≤ length s.rows → IsTreeTranscript (sides_in w s low high) ms → (pair : OpenedPair) → pair ≡ pair_of ms
        → (IsHonest ms → judged_in s pair ≡ Ok (plain_count s low high)) → (result : Result Reply Memory)
        → IfOk result (λ (reply : Reply). reply ≡ range_line low high (judged_in s pair)) → RangeAsked sight w s low high vs (set vs 0 u) result
    range_sent le all pair opened plain (Err memory) said =
        (asked_once ms pair ∷ [], (first_carried sight none vs v u ms pair some is went).0, (refl, all.part), tt)
    range_sent le all pair opened plain (Ok reply) said =
        let carried = first_carried sight none vs v u ms pair some is went in (
          asked_once ms pair ∷ [],
          carried.0,
          tt,
          (
            (le, refl, all, opened),
            carried.1,
            plain,
            said ∙ sym (enough le),
            λ still seven.
                let zero : reply.status ≡ 0 = ap (λ (r : Reply). r.status) (said ∙ ap (range_line low high) (plain (carried.1.0 (still 0)))) in
                omega (arith, zero, seven),
          ),
        )
      where
        enough : high ≤ length s.rows → range_reply s low high (judged_in s pair) ≡ range_line low high (judged_in s pair)
        enough le = rw (le-ltb (length s.rows) high le) refl

-- ---- the command

-- the same of the command
abbrev pub CommandAsked : {W : Type 0} → Sight W → Command → List Row → List W → List W → Result Reply Memory → Type 0
CommandAsked sight command rows vs ws result =
    (history : List Done) × CarriedBy sight (Ok command) vs ws history
    × OnErr result (BegunOver command history rows)
    × IfOk result (λ (reply : Reply). AskedOver (UnalteredBy sight (Ok command) vs ws) command history rows
    × (reply ≡ rows_reply (checked_answer history) command rows)
    × (((actor : ℕ) → UnalteredBy sight (Ok command) vs ws actor) → reply.status ≢ 7))

of_known : {W : Type 0} (sight : Sight W) (c : Common) (low high : ℕ) (w : Widths) (rows : List Row) (vs ws : List W) → AreWidthsIn (commands.Tree c low high) w
    → IsRange w (setting_of c rows) low high → (result : Result Reply Memory) → RangeAsked sight w (setting_of c rows) low high vs ws result
    → CommandAsked sight (commands.Tree c low high) rows vs ws result
of_known sight c low high w rows vs ws of legal (Err memory) a = (a.0, a.1, record { widths = w; of = of; begun = a.2 }, tt)
of_known sight c low high w rows vs ws of legal (Ok reply) a =
    let b = a.3 in
    (a.0, a.1, tt, (record { widths = w; of = of; legal = legal; done = b.0; honest = b.1; plain = b.2 }, b.3, b.4))

pub range_answered : {W : Type 0} (sight : Sight W) (command : Command) (c : Common) (low high : ℕ) (w v : Widths) (rows : List Row) (s : Setting) (vs ws : List W)
    → command ≡ commands.Tree c low high → v ≡ w → s ≡ setting_of c rows → AreWidthsIn command w → IsRange w (setting_of c rows) low high
    → (result : Result Reply Memory) → RangeAsked sight v s low high vs ws result → CommandAsked sight command rows vs ws result
range_answered sight command c low high w v rows s vs ws is same setting of legal result a =
    subst (λ (x : Command). CommandAsked sight x rows vs ws result) (sym is)
    (of_known sight c low high w rows vs ws (subst (λ (x : Command). AreWidthsIn x w) is of) legal result
    (subst (λ (x : Setting). RangeAsked sight w x low high vs ws result) setting (subst (λ (x : Widths). RangeAsked sight x s low high vs ws result) same a)))
