-- The queries of `groups`: their messages, the wires, and their lines.
use Rattle.std.proofs.Common.{◌≡◌, ◌≢◌, ◌∙◌, refl, sym, ap, subst, Bool, true, false, cond, eqb, ◌||◌, inl, inr, ◌++◌, ℕ, zero, suc, ℤ, ◌+◌, ◌^◌, ◌<◌, ◌≤◌, List, [], ◌∷◌, length, map, set, get_or, drop, take, ◌-◌, append-nil, append_assoc, length-append, arith}
use Rattle.std.proofs.lemmas.Bool.{eqb-true}
use Rattle.std.proofs.lemmas.List.{get_or-append-add, get_or-take, get_or_append_left, take_all}
use Rattle.std.proofs.lemmas.List.Elements.{All-tail}
use Rattle.std.proofs.lemmas.List.Folds.{list_any-append}
use Rattle.std.specs.List.{list_any}
use Rattle.std.specs.Prelude.{Result, Ok, Err, IfOk, IsErr, OnErr, OnOk, slice_index}
use Rattle.agreed_groups.specs.Answers.{AnswersGroups, judged_groups, plain_groups}
use Rattle.agreed_rows.specs.Agreed.{Entries}
use Rattle.agreed_rows.specs.Answers.{rows_in, sizes_over as agreed_sizes}
use Rattle.bucket_groups.specs.Ending.{opened_groups}
use Rattle.bucket_groups.specs.Grouped.{grouped}
use Rattle.bucket_groups.specs.declared.check.GroupAnswer.{GroupAnswer}
use Rattle.bucket_groups.specs.declared.check.GroupAnswer.TheVariants.{Good}
use Rattle.list_facts.proofs.Listed.{length-listed}
use Rattle.list_facts.specs.Listed.{listed}
use Rattle.onehot_column.specs.Code.{width_of}
use Rattle.prg_chacha.specs.declared.seed.Seed.{Seed}
use Rattle.query_plan.specs.declared.group.GroupQuery.{GroupQuery}
use Rattle.query_plan.specs.declared.query.Query.{Query}
use Rattle.race_play.specs.Reports.{is_altered}
use Rattle.report_lines.specs.declared.lines.Line.{Line}
use Rattle.ring128.specs.declared.memory.Memory.{Memory}
use Rattle.schedule_play.specs.AllAgreed.{core_agreed}
use Rattle.schedule_play.specs.Appended.{seeded_rows}
use Rattle.schedule_play.specs.History.{AreHonest, Done, nothing_opened, sent_by}
use Rattle.schedule_play.specs.Stages.{actor_in}
use Rattle.schedule_play.proofs.AppendedRows.{length-seeded_rows}
use Rattle.schedule_play.specs.Tasks.{Setting}
use Rattle.schedule_play.specs.Traces.{sizes_over}
use Rattle.schedule_play.specs.Wires.{Carried, Unaltered, WireWent, WiresWent}
use Rattle.table_schema.specs.Widths.{column_bits}
use Rattle.table_schema.specs.declared.rows.Row.{Row}
use Rattle.table_schema.specs.declared.shapes.Aggregate.{Aggregate}
use Rattle.table_schema.specs.declared.widths.Widths.{Widths}
use Rattle.transcript.specs.Transcript.{IsPart, IsTranscript}
use Rattle.waldo_core.specs.Held.{IsAgreedBy}
use Rattle.waldo_core.specs.Machines.{Seen}
use Rattle.waldo_words.specs.declared.command.Command.{Command}
use Rattle.waldo_words.specs.declared.command.Command.TheVariants as commands
use Rattle.waldo_words.specs.declared.command.Common.{Common}
use Rattle.waldo_words.specs.declared.schedule.Step.{Step}
use Rattle.waldo_words.specs.declared.schedule.Step.TheVariants.{Answer}
use Rattle.waldo_run.specs.Buckets.{AreBuckets, ArePlainBuckets, BeginsBuckets, HasBuckets, IsByColumn, bucket_lines, checked_buckets, checked_lines, entries_in, group_in, opened_buckets, opened_for, plain_buckets, plain_group_lines, query_lines, seed_at, width_by}
use Rattle.waldo_run.specs.Replies.{Reply, lines_reply}
use Rattle.waldo_run.specs.Tasks.{AreWidthsIn, bits_of, setting_of}
use Rattle.waldo_run.proofs.Begun.{all_begins}
use Rattle.waldo_run.proofs.Ranging.{CommandAsked, agreed_all, never, rows_back}
use Rattle.wire_line.specs.Carried.{went_both, went_none}
use Rattle.wire_line.specs.Messages.{IsHonest, Went}
use Rattle.wire_line.specs.Sights.{BothPass, NonePasses, Sight}
use Rattle.wire_line.specs.declared.message.Message.{Message}

-- ---- one query

not_same : (a b : ℕ) → a < b → eqb a b ≡ false
not_same a b lt = by (eqb a b) refl
  where
    by : (t : Bool) → eqb a b ≡ t → t ≡ false
    by true e = absurd (omega (arith, eqb-true a b e, lt))
    by false e = refl

-- a column's width, by the bits of the columns
pub same_width : (w : Widths) (column : ℕ) → column < w.columns → width_of w column ≡ width_by (column_bits w) column
same_width w column there =
    ap (λ (t : Bool). cond t 1 (2 ^ slice_index w.bits column)) (not_same column w.columns there)
    ∙ ap (λ (b : ℕ). 2 ^ b) (sym (get_or-take w.columns w.bits column 0 there))

same_opened : (w : Widths) (s : Setting) (i : ℕ) (g : GroupQuery) (ms : List Message) (run : ℕ) → g.column < w.columns
    → opened_groups (group_in w s i g) g.column ms run ≡ opened_buckets (column_bits w) g ms run
same_opened w s i g ms run there = ap (λ (n : ℕ). listed n (opened_for g.query ms run)) (same_width w g.column there)

same_checked : (w : Widths) (s : Setting) (i : ℕ) (g : GroupQuery) (ms : List Message) (total weighted : List ℕ) → g.column < w.columns
    → total ≡ opened_groups (group_in w s i g) g.column ms 0 → weighted ≡ opened_groups (group_in w s i g) g.column ms 1
    → judged_groups g.query (seed_at s i) total weighted ≡ checked_buckets (column_bits w) s i g ms
same_checked w s i g ms total weighted there t v =
    let judged = judged_groups g.query (seed_at s i) in
    ap (λ (l : List ℕ). judged l weighted) (t ∙ same_opened w s i g ms 0 there)
    ∙ ap (judged (opened_buckets (column_bits w) g ms 0)) (v ∙ same_opened w s i g ms 1 there)

same_plain : (w : Widths) (s : Setting) (g : GroupQuery) → g.column < w.columns → plain_groups (entries_in w s) g.query g.column ≡ plain_buckets (column_bits w) s g
same_plain w s g there =
    let good : ℕ → List Row → List GroupAnswer = λ n rows. map Good (grouped g.query g.column n rows) in
    ap (λ (n : ℕ). good n (rows_in (seeded_rows s.master 0 s.rows))) (same_width w g.column there)
    ∙ ap (good (width_by (column_bits w) g.column)) (rows_back s.master 0 s.rows)

-- what a query comes to
abbrev pub GroupAsked : {W : Type 0} → Sight W → Widths → Setting → ℕ → GroupQuery → W → W → Result (List GroupAnswer) Memory → Type 0
GroupAsked sight w s i g before after result =
    (ms : List Message) × Went sight before ms after × IsPart (group_in w s i g) ms
    × IfOk result (λ (answers : List GroupAnswer). IsTranscript (group_in w s i g) ms × (answers ≡ checked_buckets (column_bits w) s i g ms)
    × (IsHonest ms → answers ≡ plain_buckets (column_bits w) s g))

-- the same, over rows that were agreed on
abbrev pub OverAgreed : {W : Type 0} → Sight W → GroupQuery → W → W → Result (List GroupAnswer) Memory → Entries → Seed → Type 0
OverAgreed sight g before after result e seed =
    (ms : List Message) × (total : List ℕ) × (weighted : List ℕ) × Went sight before ms after
    × AnswersGroups e g.query g.column seed ms total weighted result
    × (IsHonest ms → IfOk result (λ (a : List GroupAnswer). a ≡ plain_groups e g.query g.column))

module _ {W : Type 0} (sight : Sight W) (w : Widths) (s : Setting) (i : ℕ) (g : GroupQuery) (before after : W) (there : g.column < w.columns) where
  asked_here : (result : Result (List GroupAnswer) Memory) → OverAgreed sight g before after result (entries_in w s) (seed_at s i) → GroupAsked sight w s i g before after result
  asked_here (Err memory) a = (a.0, a.3, a.4, tt)
  asked_here (Ok answers) a =
      let opens = a.4.0 in (
        a.0,
        a.3,
        opens.transcript.part,
        (
          opens.transcript,
          a.4.1 ∙ same_checked w s i g a.0 a.1 a.2 there opens.opened_total opens.opened_weighted,
          λ honest. a.5 honest ∙ same_plain w s g there,
        ),
      )

  pub group_asked : (result : Result (List GroupAnswer) Memory) (e : Entries) (seed : Seed) → e ≡ entries_in w s → seed ≡ seed_at s i
      → OverAgreed sight g before after result e seed → GroupAsked sight w s i g before after result
  group_asked result e seed rows from a =
      asked_here result
      (subst (OverAgreed sight g before after result (entries_in w s)) from
      (subst (λ (x : Entries). OverAgreed sight g before after result x seed) rows a))

-- there are at most 256 buckets
few_cells : (b : ℕ) → b ≤ 8 → 2 ^ b ≤ 256
few_cells zero few = omega arith
few_cells (suc zero) few = omega arith
few_cells (suc (suc zero)) few = omega arith
few_cells (suc (suc (suc zero))) few = omega arith
few_cells (suc (suc (suc (suc zero)))) few = omega arith
few_cells (suc (suc (suc (suc (suc zero))))) few = omega arith
few_cells (suc (suc (suc (suc (suc (suc zero)))))) few = omega arith
few_cells (suc (suc (suc (suc (suc (suc (suc zero))))))) few = omega arith
few_cells (suc (suc (suc (suc (suc (suc (suc (suc zero)))))))) few = omega arith
few_cells (suc (suc (suc (suc (suc (suc (suc (suc (suc b))))))))) few = absurd (omega (arith, few))

few_wide : (w : Widths) (column : ℕ) → column < w.columns → width_by (column_bits w) column ≤ 256
few_wide w column there =
    let same : get_or (column_bits w) column 0 ≡ get_or w.bits column 0 = get_or-take w.columns w.bits column 0 there in
    let few : get_or w.bits column 0 ≤ 8 = (w.legal.2 column there).1 in
    few_cells (get_or (column_bits w) column 0) (omega (arith, same, few))

pub few_answers : {W : Type 0} (sight : Sight W) (w : Widths) (s : Setting) (i : ℕ) (g : GroupQuery) (before after : W) (result : Result (List GroupAnswer) Memory) → g.column < w.columns
    → GroupAsked sight w s i g before after result → IfOk result (λ (answers : List GroupAnswer). length answers ≤ 256)
few_answers sight w s i g before after (Err memory) there a = tt
few_answers sight w s i g before after (Ok answers) there a =
    let bits = column_bits w in
    let total = opened_buckets bits g a.0 0 in
    let wide : length total ≡ width_by bits g.column = length-listed (width_by bits g.column) (opened_for g.query a.0 0) in
    let long : length answers ≡ length total = ap length a.3.1 ∙ length-listed (length total) _ in
    omega (arith, long, wide, few_wide w g.column there)

-- their sizes are those of the query over all rows
pub same_sizes : (w : Widths) (s : Setting) (q : Query) (e : Entries) → e ≡ entries_in w s → agreed_sizes e q ≡ sizes_over w (length s.rows) q
same_sizes w s q e rows =
    ap (λ (x : Entries). agreed_sizes x q) rows ∙ ap (λ (n : ℕ). sizes_over w n q) (length-seeded_rows s.master 0 s.rows)

-- ---- the wire

-- one answer of actor 0
abbrev pub asked_for : ℕ → List Message → Done
asked_for i ms = record { step = Answer 0 i; messages = ms; pair = nothing_opened }

module _ {W : Type 0} (sight : Sight W) where
  wire_none : NonePasses sight → (v : W) → WireWent sight [] 0 v v
  wire_none none v = record { went = went_none sight v v refl refl (none v); still = λ _. refl }

  wire_one : (i : ℕ) (ms : List Message) (v u : W) → Went sight v ms u → WireWent sight (asked_for i ms ∷ []) 0 v u
  wire_one i ms v u went = record { went = subst (λ (l : List Message). Went sight v l u) (sym (append-nil ms)) went; still = λ e. absurd cc }

  wire_more : BothPass sight → (i : ℕ) (ms : List Message) (ds : List Done) (v t u : W) → Went sight v ms t → WireWent sight ds 0 t u → WireWent sight (asked_for i ms ∷ ds) 0 v u
  wire_more both i ms ds v t u went rest = record { went = went_both sight both v t u ms (sent_by 0 ds) went rest.went; still = λ e. absurd cc }

-- ---- the queries one after another

-- what they come to, from query i on
abbrev pub GroupsAsked : {W : Type 0} → Sight W → Widths → Setting → ℕ → List GroupQuery → W → W → List Line → List Line → Result (Unit {0}) Memory → Type 0
GroupsAsked sight w s i gs before after old new result =
    (history : List Done) × WireWent sight history 0 before after
    × OnErr result (BeginsBuckets w s i gs history)
    × OnOk result (HasBuckets w s i gs history × ArePlainBuckets (column_bits w) s i gs history
    × (new ≡ old ++ checked_lines (column_bits w) s i gs history))

module _ {W : Type 0} (sight : Sight W) (w : Widths) (s : Setting) (i : ℕ) where
  pub groups_none : NonePasses sight → (v : W) (old : List Line) → GroupsAsked sight w s i [] v v old old (Ok tt)
  groups_none none v old = ([], wire_none sight none v, tt, (tt, tt, sym (append-nil old)))

  -- memory ran out at the first of them
  pub groups_stopped : (g : GroupQuery) (gs : List GroupQuery) (v u : W) (answers : Result (List GroupAnswer) Memory) → GroupAsked sight w s i g v u answers
      → (old new : List Line) (result : Result (Unit {0}) Memory) → IsErr result → GroupsAsked sight w s i (g ∷ gs) v u old new result
  groups_stopped g gs v u answers a old new (Ok x) err = absurd cc
  groups_stopped g gs v u answers a old new (Err memory) err = (asked_for i a.0 ∷ [], wire_one sight i a.0 v u a.1, (refl, inr (a.2, refl)), tt)

  -- the first of them, and then the others
  pub groups_more : BothPass sight → (g : GroupQuery) (gs : List GroupQuery) (v t u : W) (answers : List GroupAnswer) → GroupAsked sight w s i g v t (Ok answers)
      → (old mid new : List Line) (said : List GroupAnswer) → said ≡ answers → mid ≡ old ++ query_lines s i g said → (result : Result (Unit {0}) Memory)
      → GroupsAsked sight w s (i + 1) gs t u mid new result → GroupsAsked sight w s i (g ∷ gs) v u old new result
  groups_more both g gs v t u answers a old mid new said same first (Err memory) b =
      (asked_for i a.0 ∷ b.0, wire_more sight both i a.0 b.0 v t u a.1 b.1, (refl, inl (a.3.0, b.2)), tt)
  groups_more both g gs v t u answers a old mid new said same first (Ok x) b =
      let bits = column_bits w in
      let rest = checked_lines bits s (i + 1) gs b.0 in (
        asked_for i a.0 ∷ b.0,
        wire_more sight both i a.0 b.0 v t u a.1 b.1,
        tt,
        (
          (refl, a.3.0, b.3.0),
          ((λ honest. sym a.3.1 ∙ a.3.2 honest), b.3.1),
          b.3.2 ∙ ap (λ (l : List Line). l ++ rest) (first ∙ ap (λ (l : List GroupAnswer). old ++ query_lines s i g l) (same ∙ a.3.1))
              ∙ append_assoc old (query_lines s i g (checked_buckets bits s i g a.0)) rest,
        ),
      )

-- a list of one at least, and one of none
pub first_rest : (gs : List GroupQuery) (d : GroupQuery) → 1 ≤ length gs → gs ≡ get_or gs 0 d ∷ take (length gs - 1) (drop 1 gs)
first_rest [] d some = absurd (omega (arith, some))
first_rest (g ∷ gs) d some = ap (λ (l : List GroupQuery). g ∷ l) (sym (take_all (length (g ∷ gs) - 1) gs (omega arith)))

pub no_groups : (gs : List GroupQuery) → length gs < 1 → gs ≡ []
no_groups [] few = refl
no_groups (g ∷ gs) few = absurd (omega (arith, few))

pub later_legal : (w : Widths) (s : Setting) (gs : List GroupQuery) → 1 ≤ length gs → AreBuckets w s gs → AreBuckets w s (take (length gs - 1) (drop 1 gs))
later_legal w s [] some h = absurd (omega (arith, some))
later_legal w s (g ∷ gs) some h =
    subst (AreBuckets w s) (sym (take_all (length (g ∷ gs) - 1) gs (omega arith))) (record { setting = h.setting; each = All-tail (IsByColumn w) g gs h.each })

-- ---- all wires

-- what an actor sent, where the first answer is one of actor 0
sent_first : (i : ℕ) (d : Done) (ds : List Done) (actor : ℕ) → d.step ≡ Answer 0 i
    → sent_by actor (d ∷ ds) ≡ cond (eqb 0 actor) (d.messages ++ sent_by actor ds) (sent_by actor ds)
sent_first i d ds actor e = ap (λ (x : Step). cond (eqb (actor_in x) actor) (d.messages ++ sent_by actor ds) (sent_by actor ds)) e

none_sent : (w : Widths) (s : Setting) (i : ℕ) (gs : List GroupQuery) (ds : List Done) (actor : ℕ) → BeginsBuckets w s i gs ds → sent_by (actor + 1) ds ≡ []
none_sent w s i gs [] actor h = refl
none_sent w s i [] (d ∷ ds) actor h = absurd h
none_sent w s i (g ∷ gs) (d ∷ ds) actor h =
    sent_first i d ds (actor + 1) h.0 ∙ ap (λ (t : Bool). cond t (d.messages ++ sent_by (actor + 1) ds) (sent_by (actor + 1) ds)) (never actor)
    ∙ elim h.1 [
      | inl more ↦ none_sent w s (i + 1) gs ds actor more.1
      | inr last ↦ ap (sent_by (actor + 1)) last.1
    ]

module _ {W : Type 0} (sight : Sight W) (none : NonePasses sight) where
  others_still : (ds : List Done) (actor : ℕ) (ws : List W) → ((a : ℕ) → sent_by (a + 1) ds ≡ []) → WiresWent sight ds (actor + 1) ws ws
  others_still ds actor [] nothing = tt
  others_still ds actor (w ∷ ws) nothing = (
    record {
      went = subst (λ (l : List Message). Went sight w l w) (sym (nothing actor)) (went_none sight w w refl refl (none w));
      still = λ _. refl;
    },
    others_still ds (actor + 1) ws nothing,
  )

  -- the first one carried them
  pub first_of_all : (ds : List Done) (vs : List W) (v u : W) → 0 < length vs → v ≡ get_or vs 0 v → ((a : ℕ) → sent_by (a + 1) ds ≡ [])
      → WireWent sight ds 0 v u → Carried sight vs (set vs 0 u) ds × (Unaltered sight vs (set vs 0 u) 0 → IsHonest (sent_by 0 ds))
  first_of_all ds [] v u some is nothing went = absurd (omega (arith, some))
  first_of_all ds (w ∷ ws) v u some is nothing went =
      let here : WireWent sight ds 0 w u = subst (λ (x : W). WireWent sight ds 0 x u) is went in
      ((here, others_still ds 0 ws nothing), here.went.honest)

-- ---- messages that were received as they were sent

first_honest : (ms ns : List Message) → IsHonest (ms ++ ns) → IsHonest ms
first_honest ms ns h = λ k d lt. subst (λ (m : Message). m.received ≡ m.sent) (get_or_append_left ms ns d k lt) (h k d (let l = length-append ms ns in omega arith))

second_honest : (ms ns : List Message) → IsHonest (ms ++ ns) → IsHonest ns
second_honest ms ns h = λ k d lt. subst (λ (m : Message). m.received ≡ m.sent) (get_or-append-add ms ns k d) (h (length ms + k) d (let l = length-append ms ns in omega arith))

each_honest : (unaltered : ℕ → Type 0) (w : Widths) (s : Setting) (i : ℕ) (gs : List GroupQuery) (ds : List Done) → HasBuckets w s i gs ds
    → (unaltered 0 → IsHonest (sent_by 0 ds)) → AreHonest unaltered ds
each_honest unaltered w s i [] [] h all = tt
each_honest unaltered w s i [] (d ∷ ds) h all = absurd h
each_honest unaltered w s i (g ∷ gs) [] h all = tt
each_honest unaltered w s i (g ∷ gs) (d ∷ ds) h all =
    let both : unaltered 0 → IsHonest (d.messages ++ sent_by 0 ds) = λ still. subst IsHonest (sent_first i d ds 0 h.0) (all still) in (
      (λ still. first_honest d.messages (sent_by 0 ds) (both (subst unaltered (ap actor_in h.0) still))),
      each_honest unaltered w s (i + 1) gs ds h.2 (λ still. second_honest d.messages (sent_by 0 ds) (both still)),
    )

pub lines_plain : (unaltered : ℕ → Type 0) → ((actor : ℕ) → unaltered actor) → (w : Widths) (bits : List ℕ) (s : Setting) (i : ℕ) (gs : List GroupQuery) (ds : List Done) → HasBuckets w s i gs ds
    → AreHonest unaltered ds → ArePlainBuckets bits s i gs ds → checked_lines bits s i gs ds ≡ plain_group_lines bits s i gs
lines_plain unaltered still w bits s i [] [] done honest plain = refl
lines_plain unaltered still w bits s i [] (d ∷ ds) done honest plain = absurd done
lines_plain unaltered still w bits s i (g ∷ gs) [] done honest plain = absurd done
lines_plain unaltered still w bits s i (g ∷ gs) (d ∷ ds) done honest plain =
    ap (λ (answers : List GroupAnswer). query_lines s i g answers ++ checked_lines bits s (i + 1) gs ds) (plain.0 (honest.0 (still _)))
    ∙ ap (λ (l : List Line). query_lines s i g (plain_buckets bits s g) ++ l) (lines_plain unaltered still w bits s (i + 1) gs ds done.2 honest.1 plain.1)

-- no plain line is that of a refused pair
good_quiet : (i rows : ℕ) (aggregate : Aggregate) (b : ℕ) (plains : List ℤ) → list_any is_altered (bucket_lines i rows aggregate b (map Good plains)) ≡ false
good_quiet i rows aggregate b [] = refl
good_quiet i rows aggregate b (n ∷ plains) = good_quiet i rows aggregate (b + 1) plains

plain_quiet : (bits : List ℕ) (s : Setting) (i : ℕ) (gs : List GroupQuery) → list_any is_altered (plain_group_lines bits s i gs) ≡ false
plain_quiet bits s i [] = refl
plain_quiet bits s i (g ∷ gs) =
    let rest = plain_group_lines bits s (i + 1) gs in
    list_any-append is_altered (query_lines s i g (plain_buckets bits s g)) rest
    ∙ ap (λ (t : Bool). t || list_any is_altered rest) (good_quiet i (length s.rows) g.query.aggregate 0 (grouped g.query g.column (width_by bits g.column) s.rows))
    ∙ plain_quiet bits s (i + 1) gs

-- ---- the reply

-- what the queries come to: their messages, and the reply to what they opened
abbrev pub BucketsAsked : {W : Type 0} → Sight W → Widths → List ℕ → Setting → List GroupQuery → List W → List W → Result Reply Memory → Type 0
BucketsAsked sight w bits s groups vs ws result =
    (history : List Done) × Carried sight vs ws history
    × OnErr result (BeginsBuckets w s 0 groups history)
    × IfOk result (λ (reply : Reply). HasBuckets w s 0 groups history × AreHonest (Unaltered sight vs ws) history × ArePlainBuckets bits s 0 groups history
    × (reply ≡ lines_reply (checked_lines bits s 0 groups history))
    × (((actor : ℕ) → Unaltered sight vs ws actor) → reply.status ≢ 7))

module _ {W : Type 0} (sight : Sight W) (none : NonePasses sight) (w : Widths) (s : Setting) (groups : List GroupQuery) (vs : List W) where
  abbrev bits : List ℕ
  bits = column_bits w

  -- out of memory before the first message
  pub buckets_none : (result : Result Reply Memory) → IsErr result → (ws : List W) → ws ≡ vs → WiresWent sight [] 0 vs vs → BucketsAsked sight w bits s groups vs ws result
  buckets_none (Ok reply) err ws same still = absurd cc
  buckets_none (Err memory) err ws same still = ([], subst (λ (us : List W). Carried sight vs us []) (sym same) still, tt, tt)

  module _ (v u : W) (some : 0 < length vs) (is : v ≡ get_or vs 0 v) where
    begun : (old new : List Line) (asked : Result (Unit {0}) Memory) → (a : GroupsAsked sight w s 0 groups v u old new asked) → BeginsBuckets w s 0 groups a.0
    begun old new (Ok x) a = all_begins w s 0 groups a.0 a.3.0
    begun old new (Err memory) a = a.2

    pub buckets_stopped : (old new : List Line) (asked : Result (Unit {0}) Memory) → GroupsAsked sight w s 0 groups v u old new asked
        → (result : Result Reply Memory) → IsErr result → BucketsAsked sight w bits s groups vs (set vs 0 u) result
    buckets_stopped old new asked a (Ok reply) stopped = absurd cc
    buckets_stopped old new asked a (Err why) stopped =
        let first = begun old new asked a in
        (a.0, (first_of_all sight none a.0 vs v u some is (λ actor. none_sent w s 0 groups a.0 actor first) a.1).0, first, tt)

    pub buckets_told : (old new : List Line) (x : Unit {0}) → old ≡ [] → GroupsAsked sight w s 0 groups v u old new (Ok x) → (reply : Reply) → reply ≡ lines_reply new
        → BucketsAsked sight w bits s groups vs (set vs 0 u) (Ok reply)
    buckets_told old new x empty a reply is_reply =
        let went = first_of_all sight none a.0 vs v u some is (λ actor. none_sent w s 0 groups a.0 actor (begun old new (Ok x) a)) a.1 in
        let unaltered = Unaltered sight vs (set vs 0 u) in
        let honest : AreHonest unaltered a.0 = each_honest unaltered w s 0 groups a.0 a.3.0 went.1 in
        let said : reply ≡ lines_reply (checked_lines bits s 0 groups a.0) = is_reply ∙ ap lines_reply (a.3.2 ∙ ap (λ (l : List Line). l ++ checked_lines bits s 0 groups a.0) empty) in (
          a.0,
          went.0,
          tt,
          (
            a.3.0,
            honest,
            a.3.1,
            said,
            λ still seven.
                let zero : reply.status ≡ 0 =
                ap (λ (r : Reply). r.status) (said ∙ ap lines_reply (lines_plain unaltered still w bits s 0 groups a.0 a.3.0 honest a.3.1))
                ∙ ap (λ (t : Bool). cond t 7 0) (plain_quiet bits s 0 groups) in
                omega (arith, zero, seven),
          ),
        )

-- the rows that actor 0 agreed on are all
pub agreed_entries : (m : Seen) (w : Widths) (s : Setting) (e : Entries) → m.core ≡ core_agreed (seeded_rows s.master 0 s.rows) → m.widths ≡ w → IsAgreedBy m 0 e → e ≡ entries_in w s
agreed_entries m w s e core widths is =
    let at : Widths → List _ → Entries = λ v all. record { widths = v; all = all } in
    ap (λ (v : Widths). at v e.all) (ap (λ (x : Entries). x.widths) is.first ∙ widths) ∙ ap (at w) (agreed_all m e (seeded_rows s.master 0 s.rows) core is)

-- ---- the command

of_known : {W : Type 0} (sight : Sight W) (c : Common) (groups : List GroupQuery) (w : Widths) (rows : List Row) (vs ws : List W) → AreWidthsIn (commands.Groups c groups) w
    → AreBuckets w (setting_of c rows) groups → (result : Result Reply Memory) → BucketsAsked sight w (bits_of c) (setting_of c rows) groups vs ws result
    → CommandAsked sight (commands.Groups c groups) rows vs ws result
of_known sight c groups w rows vs ws of legal (Err memory) a = (a.0, a.1, record { widths = w; of = of; begun = a.2 }, tt)
of_known sight c groups w rows vs ws of legal (Ok reply) a =
    let b = a.3 in
    (a.0, a.1, tt, (record { widths = w; of = of; legal = legal; done = b.0; honest = b.1; plain = b.2 }, b.3, b.4))

pub buckets_answered : {W : Type 0} (sight : Sight W) (command : Command) (c : Common) (groups said : List GroupQuery) (w v : Widths) (rows : List Row) (s : Setting) (vs ws : List W)
    → command ≡ commands.Groups c groups → v ≡ w → s ≡ setting_of c rows → said ≡ groups → AreWidthsIn command w → AreBuckets w (setting_of c rows) groups
    → (result : Result Reply Memory) → BucketsAsked sight v (column_bits v) s said vs ws result → CommandAsked sight command rows vs ws result
buckets_answered sight command c groups said w v rows s vs ws is same setting these of legal result a =
    let over : AreWidthsIn (commands.Groups c groups) w = subst (λ (x : Command). AreWidthsIn x w) is of in
    let at_widths = subst (λ (x : Widths). BucketsAsked sight x (column_bits x) s said vs ws result) same a in
    let at_setting = subst (λ (x : Setting). BucketsAsked sight w (column_bits w) x said vs ws result) setting at_widths in
    let at_groups = subst (λ (x : List GroupQuery). BucketsAsked sight w (column_bits w) (setting_of c rows) x vs ws result) these at_setting in
    let at_bits = subst (λ (x : List ℕ). BucketsAsked sight w x (setting_of c rows) groups vs ws result) over.bits at_groups in
    subst (λ (x : Command). CommandAsked sight x rows vs ws result) (sym is) (of_known sight c groups w rows vs ws over legal result at_bits)
