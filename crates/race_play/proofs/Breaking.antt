-- What was carried when memory ran out.
use Rattle.std.proofs.Common.{◌≡◌, ◌∙◌, refl, sym, ap, subst, ℕ, zero, suc, ◌+◌, ◌-◌, ◌<◌, ◌≤◌, List, [], ◌∷◌, ◌++◌, length, take, drop, inl, inr, arith, append_assoc, append-nil}
use Rattle.std.specs.Prelude.{Option, get_or, slice_get, ◌%◌}
use Rattle.std.proofs.lemmas.Nat.{mod_below}
use Rattle.std.proofs.lemmas.Option.{slice_get-get_or}
use Rattle.std.proofs.lemmas.List.{length-take}
use Rattle.list_facts.proofs.Prefixes.{prefix_length}
use mathlib.Core.List.{IsPrefix}
use Rattle.prg_chacha.specs.Prg.{derive_of}
use Rattle.prg_chacha.specs.declared.seed.Seed.{Seed}
use Rattle.query_plan.specs.declared.query.Query.{Query}
use Rattle.report_lines.specs.declared.lines.Line.{Line}
use Rattle.report_lines.specs.declared.lines.Who.TheVariants as who
use Rattle.table_schema.specs.declared.rows.Row.{Row}
use Rattle.table_schema.specs.declared.widths.Widths.{Widths}
use Rattle.transcript.specs.Transcript.{IsPart}
use Rattle.wire_line.specs.Carried.{went_both}
use Rattle.wire_line.specs.Messages.{Went}
use Rattle.wire_line.specs.Sights.{BothPass, Sight}
use Rattle.wire_line.specs.declared.message.Message.{Message}
use Rattle.agreed_rows.specs.Agreed.{Entries}
use Rattle.agreed_rows.specs.Answers.{setup_over}
use Rattle.waldo_table.specs.Tables.{Grows, PassView}
use Rattle.race_play.specs.Askers.{AreAsked, WentEach, more_over_first}
use Rattle.race_play.specs.Begun.{AreBegun, Began, IsCarried, IsFront}
use Rattle.race_play.specs.Questions.{Gave, Question, at_end, ends_of, first, in_round, messages_of, question_of, rounds_of}
use Rattle.race_play.specs.Rounds.{BreaksOff}
use Rattle.race_play.specs.Settings.{Setting}
use Rattle.race_play.proofs.Answering.{SoFar, answers_more, asked_more, first_more}
use Rattle.race_play.proofs.Playing.{went_long}
use Rattle.race_play.proofs.Splitting.{whole_slice}

-- ---- the first of some questions

module _ (f g : ℕ → List Question) (step : (n : ℕ) → f (suc n) ≡ f n ++ g n) where
  begins : (k n more : ℕ) → n ≡ more + k → (rest : List Question) × (f n ≡ f k ++ rest)
  begins k n zero e = let z : n ≡ k = omega arith in ([], ap f z ∙ sym (append-nil (f k)))
  begins k n (suc more) e =
      let m : ℕ = more + k in
      let up : n ≡ suc m = omega arith in
      let b = begins k m more refl in
      (b.0 ++ g m, ap f up ∙ step m ∙ ap (λ (l : List Question). l ++ g m) b.1 ∙ append_assoc (f k) b.0 (g m))

  pub first_ones : (k n : ℕ) → k ≤ n → (rest : List Question) × (f n ≡ f k ++ rest)
  first_ones k n le = let d : n ≡ (n - k) + k = omega arith in begins k n (n - k) d

  pub next_one : (k n : ℕ) (x : Question) → suc k ≤ n → g k ≡ x ∷ [] → (rest : List Question) × (f n ≡ f k ++ x ∷ rest)
  next_one k n x le is =
      let b = first_ones (suc k) n le in
      (b.0, b.1 ∙ ap (λ (l : List Question). l ++ b.0) (step k ∙ ap (λ (l : List Question). f k ++ l) is) ∙ append_assoc (f k) (x ∷ []) b.0)

-- ---- the whole is a beginning

no_front : (w : Widths) (order : List (Row × Seed)) (low : ℕ) (xs : List Question) → IsFront w order low xs []
no_front w order low [] = refl
no_front w order low (x ∷ xs) = inl refl

pub began_some : (w : Widths) (order : List (Row × Seed)) (low : ℕ) (xs done rest : List Question) (ms : List Message) (said : List Line) → xs ≡ done ++ rest → Gave w order low done ms said → Began w order low xs ms
began_some w order low xs done rest ms said is gave = record {
  done = done;
  rest = rest;
  all = is;
  said = said;
  whole = ms;
  gave = gave;
  front = [];
  next = no_front w order gave.high rest;
  messages = sym (append-nil ms);
}

pub began_whole : (w : Widths) (order : List (Row × Seed)) (low : ℕ) (xs : List Question) (ms : List Message) (said : List Line) → Gave w order low xs ms said → Began w order low xs ms
began_whole w order low xs ms said gave = began_some w order low xs xs [] ms said (sym (append-nil xs)) gave

-- no question was answered
pub began_none : (w : Widths) (order : List (Row × Seed)) (low : ℕ) (xs : List Question) → Began w order low xs []
began_none w order low xs = began_some w order low xs [] xs [] [] refl (record { openings = []; high = low; answers = omega arith; messages = refl })

-- ---- as the order grows

module _ (w : Widths) (order more : List (Row × Seed)) (p : IsPrefix order more) where
  front_more : (low : ℕ) (xs : List Question) (ms : List Message) → IsFront w order low xs ms → IsFront w more low xs ms
  front_more low [] ms h = h
  front_more low (x ∷ xs) ms h = elim h [
    | inl none ↦ inl none
    | inr part ↦ inr (
      part.0,
      part.1,
      (let l = prefix_length order more p in let m = part.2 in omega arith),
      subst (λ (e : Entries). IsPart (setup_over e x.query x.seed) ms) (sym (first_more w order more part.0 p part.2)) part.3,
    )
  ]

  pub began_more : (low : ℕ) (xs : List Question) (ms : List Message) → Began w order low xs ms → Began w more low xs ms
  began_more low xs ms b = record {
    done = b.done;
    rest = b.rest;
    all = b.all;
    said = b.said;
    whole = b.whole;
    gave = record {
      openings = b.gave.openings;
      high = b.gave.high;
      answers = answers_more w order more p low b.done b.gave.openings b.said b.gave.high b.gave.answers;
      messages = b.gave.messages;
    };
    front = b.front;
    next = front_more b.gave.high b.rest b.front b.next;
    messages = b.messages;
  }

  pub all_begun_more : (queries : List Query) (master : Seed) (rounds asker : ℕ) (sent : List (List Message)) → AreBegun w queries master rounds order asker sent → AreBegun w queries master rounds more asker sent
  all_begun_more queries master rounds asker [] h = tt
  all_begun_more queries master rounds asker (ms ∷ sent) h = (began_more 0 _ ms h.0, all_begun_more queries master rounds (suc asker) sent h.1)

-- all rounds of all askers
pub asked_begun : (w : Widths) (queries : List Query) (master : Seed) (rounds : ℕ) (order : List (Row × Seed)) (asker : ℕ) (sent : List (List Message)) (said : List Line) → AreAsked w queries master rounds order asker sent said → AreBegun w queries master rounds order asker sent
asked_begun w queries master rounds order asker [] said h = tt
asked_begun w queries master rounds order asker (ms ∷ sent) said h = (began_whole w order 0 _ ms h.0 h.3, asked_begun w queries master rounds order (suc asker) sent h.1 h.4)

-- ---- memory runs out in a question, or behind it

module _ {S : Type 0} (sight : Sight S) (both : BothPass sight) (w : Widths) (low : ℕ) where
  pub so_far_broken : (p q : PassView) (xs done rest : List Question) (x : Question) (said : List Line) (s t u : S) (ms : List Message)
      → SoFar sight w low p done said s t → Grows p q → BreaksOff w p q x.query x.seed ms → Went sight t ms u → xs ≡ done ++ x ∷ rest
      → (ns : List Message) × Went sight s ns u × Began w q.sight.order low xs ns
  so_far_broken p q xs done rest x said s t u ms h grows broke went is = (
    messages_of h.all ++ ms,
    went_both sight both s t u (messages_of h.all) ms h.went went,
    record {
      done = done;
      rest = x ∷ rest;
      all = is;
      said = said;
      whole = messages_of h.all;
      gave = record { openings = h.all; high = h.high; answers = answers_more w p.sight.order q.sight.order grows.order low done h.all said h.high h.answers; messages = refl };
      front = ms;
      next = elim broke [
        | inl none ↦ inl none
        | inr part ↦ inr (q.floor, h.least q grows part.0, (let f = part.0.floor in let l = length-take q.floor q.sight.order in omega arith), part.1)
      ];
      messages = refl;
    },
  )

  pub so_far_stopped : (p : PassView) (xs done rest : List Question) (said : List Line) (s t : S) → SoFar sight w low p done said s t → xs ≡ done ++ rest
      → (ms : List Message) × Went sight s ms t × Began w p.sight.order low xs ms
  so_far_stopped p xs done rest said s t h is = (
    messages_of h.all,
    h.went,
    began_some w p.sight.order low xs done rest (messages_of h.all) said is (record { openings = h.all; high = h.high; answers = h.answers; messages = refl }),
  )

-- no message of the last queries
pub none_over : (sent : List (List Message)) → sent ≡ more_over_first [] sent
none_over [] = refl
none_over (ms ∷ sent) = ap (λ (l : List Message). l ∷ sent) (sym (append-nil ms))

-- the question of the next round, and of the next query
pub round_next : (queries : List Query) (master : Seed) (asker round n : ℕ) (d : Query) → 0 < length queries → round < n
    → (rest : List Question) × (rounds_of queries master asker n ≡ rounds_of queries master asker round ++ in_round master asker round (get_or queries (round % length queries) d) ∷ rest)
round_next queries master asker round n d some lt =
    next_one (rounds_of queries master asker) (λ (k : ℕ). question_of (slice_get queries (k % length queries)) (in_round master asker k)) (λ k. refl) round n
    (in_round master asker round (get_or queries (round % length queries) d)) (omega arith)
    (ap (λ (o : Option Query). question_of o (in_round master asker round)) (slice_get-get_or queries (round % length queries) d (mod_below round (length queries) some)))

pub rounds_first : (queries : List Query) (master : Seed) (asker round n : ℕ) → round ≤ n → (rest : List Question) × (rounds_of queries master asker n ≡ rounds_of queries master asker round ++ rest)
rounds_first queries master asker round n le =
    first_ones (rounds_of queries master asker) (λ (k : ℕ). question_of (slice_get queries (k % length queries)) (in_round master asker k)) (λ k. refl) round n le

pub end_next : (queries : List Query) (master : Seed) (q n : ℕ) (d : Query) (seed : Seed) → n ≤ length queries → q < n → seed ≡ derive_of master 4 0 q
    → (rest : List Question) × (ends_of queries master n ≡ ends_of queries master q ++ record { by = who.End q; query = get_or queries q d; seed = seed } ∷ rest)
end_next queries master q n d seed some lt derived =
    next_one (ends_of queries master) (λ (k : ℕ). question_of (slice_get queries k) (at_end master k)) (λ k. refl) q n
    (record { by = who.End q; query = get_or queries q d; seed = seed }) (omega arith)
    (ap (λ (o : Option Query). question_of o (at_end master q)) (slice_get-get_or queries q d (omega arith))
    ∙ ap (λ (s : Seed). record { by = who.End q; query = get_or queries q d; seed = s } ∷ []) (sym derived))

pub ends_first : (queries : List Query) (master : Seed) (q n : ℕ) → q ≤ n → (rest : List Question) × (ends_of queries master n ≡ ends_of queries master q ++ rest)
ends_first queries master q n le =
    first_ones (ends_of queries master) (λ (k : ℕ). question_of (slice_get queries k) (at_end master k)) (λ k. refl) q n le

-- ---- a whole race

module _ {S : Type 0} (sight : Sight S) where
  -- the wires were lent from a vector
  pub went_back : (sent : List (List Message)) (len : ℕ) (old lent new : List S) → len ≡ length old → lent ≡ old → WentEach sight sent lent new → WentEach sight sent old (take len (new ++ drop (length new) old))
  went_back sent len old lent new size same h =
      let each = subst (λ (l : List S). WentEach sight sent l new) same h in
      subst (λ (l : List S). WentEach sight sent old l) (sym (whole_slice old new len (went_long sight sent old new each) size)) each

-- the last queries were not asked
pub rounds_alone : (s : Setting) (order : List (Row × Seed)) (sent : List (List Message)) → AreBegun s.widths s.queries s.master s.rounds order 0 sent → length sent ≤ s.askers → IsCarried s sent
rounds_alone s order sent begun few = record {
  entries = order;
  rounds = sent;
  last = [];
  askers = few;
  begun = begun;
  ended = began_none s.widths order (length s.rows) _;
  behind = inl refl;
  over = none_over sent;
}

-- all rounds, and the last queries as far as they came
pub rounds_behind : (s : Setting) (order more : List (Row × Seed)) (sent : List (List Message)) (last : List Message) (asks : List Line) → IsPrefix order more
    → AreAsked s.widths s.queries s.master s.rounds order 0 sent asks → length sent ≤ s.askers
    → Began s.widths more (length s.rows) (ends_of s.queries s.master (length s.queries)) last → IsCarried s (more_over_first last sent)
rounds_behind s order more sent last asks p asked few ended =
    let all = asked_more s.widths s.queries s.master s.rounds order more p 0 sent asks asked in record {
      entries = more;
      rounds = sent;
      last = last;
      askers = few;
      begun = asked_begun s.widths s.queries s.master s.rounds more 0 sent asks all;
      ended = ended;
      behind = inr (asks, all);
      over = refl;
    }

-- what all askers came to, once the order has grown and the widths are those of the race
pub begun_in : (w v : Widths) (order more : List (Row × Seed)) (queries : List Query) (master : Seed) (rounds askers : ℕ) (P : List (List Message) → Type 0) → w ≡ v → IsPrefix order more
    → (sent : List (List Message)) → P sent → AreBegun w queries master rounds order 0 sent → length sent + 0 ≡ askers
    → (all : List (List Message)) × P all × AreBegun v queries master rounds more 0 all × (length all ≤ askers)
begun_in w v order more queries master rounds askers P same p sent went begun long = (
  sent,
  went,
  subst (λ (x : Widths). AreBegun x queries master rounds more 0 sent) same (all_begun_more w order more p queries master rounds 0 sent begun),
  omega arith,
)
