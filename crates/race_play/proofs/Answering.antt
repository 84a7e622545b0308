-- Questions that are answered one after another, through one pass and over one wire.
use Rattle.std.proofs.Common.{◌≡◌, ◌∙◌, refl, sym, ap, subst, ℕ, suc, ◌<◌, ◌≤◌, List, [], ◌∷◌, ◌++◌, length, take, arith, append_assoc, append-nil}
use Rattle.std.specs.Prelude.{Option, get_or, ◌%◌}
use Rattle.std.proofs.lemmas.Nat.{mod_below}
use Rattle.std.proofs.lemmas.Option.{slice_get-get_or}
use Rattle.std.proofs.lemmas.List.{length-take, take-append-le}
use mathlib.Core.List.{IsPrefix}
use Rattle.prg_chacha.specs.Prg.{derive_of}
use Rattle.prg_chacha.specs.declared.seed.Seed.{Seed}
use Rattle.query_plan.specs.declared.query.Query.{Query}
use Rattle.report_lines.specs.declared.lines.Line.{Line}
use Rattle.report_lines.specs.declared.lines.Line.TheVariants as lines
use Rattle.report_lines.specs.declared.lines.Who.{Who}
use Rattle.report_lines.specs.declared.lines.Who.TheVariants as who
use Rattle.server_rounds.specs.declared.opened.OpenedPair.{OpenedPair}
use Rattle.table_schema.specs.declared.rows.Row.{Row}
use Rattle.table_schema.specs.declared.widths.Widths.{Widths}
use Rattle.wire_line.specs.Carried.{went_both, went_none}
use Rattle.wire_line.specs.Messages.{IsHonest, Went}
use Rattle.wire_line.specs.declared.message.Message.{Message}
use Rattle.agreed_rows.specs.Agreed.{Entries}
use Rattle.agreed_rows.specs.Answers.{Opens, plain_total}
use Rattle.list_facts.proofs.Prefixes.{prefix_length}
use Rattle.waldo_table.proofs.Legal.{prefix_rises}
use Rattle.waldo_table.specs.Asks.{rows_of}
use Rattle.waldo_table.specs.Tables.{Agrees, Grows, IsCovered, PassView}
use Rattle.race_play.specs.Askers.{AreAsked}
use Rattle.race_play.specs.Questions.{AreAnswers, Gave, IsAnswer, Question, Opening, at_end, ends_of, first, in_round, messages_of, question_of, rounds_of}
use Rattle.race_play.specs.Raced.{HasFirst}
use Rattle.race_play.specs.Rounds.{Asks}
use Rattle.wire_line.specs.Sights.{Sight, NonePasses, BothPass}

-- ---- an answer stays one as the order grows

entries : Widths → List (Row × Seed) → Entries
entries w all = record { widths = w; all = all }

pub first_more : (w : Widths) (order more : List (Row × Seed)) (n : ℕ) → IsPrefix order more → n ≤ length order → first w more n ≡ first w order n
unfolding entries
first_more w order more n p le = ap (entries w) (ap (take n) (sym p.1) ∙ take-append-le n order p.0 le)

pub answer_more : (w : Widths) (order more : List (Row × Seed)) (x : Question) (t : Opening) (line : Line) → IsPrefix order more → IsAnswer w order x t line → IsAnswer w more x t line
answer_more w order more x t line p a =
    let same : first w more t.rows ≡ first w order t.rows = first_more w order more t.rows p a.most in record {
      most = let l = prefix_length order more p in let m = a.most in omega arith;
      opens = subst (λ (e : Entries). Opens e x.query x.seed t.messages t.pair) (sym same) a.opens;
      says = a.says;
      honest = subst (λ (e : Entries). IsHonest t.messages → line ≡ lines.Answer x.by t.rows x.query.aggregate (plain_total e x.query)) (sym same) a.honest;
    }

module _ (w : Widths) (order more : List (Row × Seed)) (p : IsPrefix order more) where
  pub answers_more : (low : ℕ) (xs : List Question) (openings : List Opening) (said : List Line) (high : ℕ) → AreAnswers w order low xs openings said high → AreAnswers w more low xs openings said high
  answers_more low [] [] [] high h = h
  answers_more low [] [] (line ∷ said) high h = absurd h
  answers_more low [] (t ∷ openings) said high h = absurd h
  answers_more low (x ∷ xs) [] said high h = absurd h
  answers_more low (x ∷ xs) (t ∷ openings) [] high h = absurd h
  answers_more low (x ∷ xs) (t ∷ openings) (line ∷ said) high h = (h.0, answer_more w order more x t line p h.1, answers_more t.rows xs openings said high h.2)

pub gave_more : (w : Widths) (order more : List (Row × Seed)) (low : ℕ) (xs : List Question) (ms : List Message) (said : List Line) → IsPrefix order more → Gave w order low xs ms said → Gave w more low xs ms said
gave_more w order more low xs ms said p g = record { openings = g.openings; high = g.high; answers = answers_more w order more p low xs g.openings said g.high g.answers; messages = g.messages }

module _ (w : Widths) (queries : List Query) (master : Seed) (rounds : ℕ) (order more : List (Row × Seed)) (p : IsPrefix order more) where
  pub asked_more : (asker : ℕ) (sent : List (List Message)) (said : List Line) → AreAsked w queries master rounds order asker sent said → AreAsked w queries master rounds more asker sent said
  asked_more asker [] said h = h
  asked_more asker (ms ∷ sent) said h = (h.0, h.1, h.2, gave_more w order more 0 _ ms h.0 p h.3, asked_more (suc asker) sent h.1 h.4)

module _ (w : Widths) (order : List (Row × Seed)) (x : Question) (t : Opening) (line : Line) (a : IsAnswer w order x t line) where
  pub answers_snoc : (low : ℕ) (xs : List Question) (openings : List Opening) (said : List Line) (high : ℕ) → AreAnswers w order low xs openings said high → high ≤ t.rows
      → AreAnswers w order low (xs ++ x ∷ []) (openings ++ t ∷ []) (said ++ line ∷ []) t.rows
  answers_snoc low [] [] [] high h le = (let l : low ≤ high = h in omega arith, a, omega arith)
  answers_snoc low [] [] (l ∷ said) high h le = absurd h
  answers_snoc low [] (u ∷ openings) said high h le = absurd h
  answers_snoc low (y ∷ xs) [] said high h le = absurd h
  answers_snoc low (y ∷ xs) (u ∷ openings) [] high h le = absurd h
  answers_snoc low (y ∷ xs) (u ∷ openings) (l ∷ said) high h le = (h.0, h.1, answers_snoc u.rows xs openings said high h.2 le)

messages_snoc : (openings : List Opening) (t : Opening) → messages_of (openings ++ t ∷ []) ≡ messages_of openings ++ t.messages
messages_snoc [] t = append-nil t.messages
messages_snoc (u ∷ openings) t = ap (λ (ms : List Message). u.messages ++ ms) (messages_snoc openings t) ∙ sym (append_assoc u.messages (messages_of openings) t.messages)

-- ---- one question more

-- what was answered so far through a pass and over a wire; whatever three servers agree on from here is no less than `high`
pub record SoFar {S : Type 0} (sight : Sight S)
    (w : Widths) (low : ℕ) (p : PassView) (xs : List Question) (said : List Line) (before now : S) : Type 0 where
  pub all : List Opening
  pub high : ℕ
  pub answers : AreAnswers w p.sight.order low xs all said high
  pub went : Went sight before (messages_of all) now
  pub least : (q : PassView) → Grows p q → Agrees w p q (rows_of w q) → high ≤ q.floor

kept : (w : Widths) (p q : PassView) → Agrees w p q (rows_of w q) → p.floor ≤ q.floor
kept w p q a = let k = a.kept in let f = a.floor in omega arith

-- the three servers have the first n places, so what they agree on is no less
pub at_least : (w : Widths) (n : ℕ) (p q : PassView) → HasFirst n p → Grows p q → Agrees w p q (rows_of w q) → n ≤ q.floor
at_least w n p q has grows a =
    omega (arith, has.zero, has.one, has.two, prefix_rises _ _ grows.zero, prefix_rises _ _ grows.one, prefix_rises _ _ grows.two, a.rows, a.floor)

-- a pass whose floor is no more than what the servers have
pub covered_first : (n : ℕ) (p : PassView) → HasFirst n p → p.floor ≤ n → IsCovered p
covered_first n p has le = record { zero = omega (arith, has.zero); one = omega (arith, has.one); two = omega (arith, has.two) }

answer_of : (w : Widths) (p q : PassView) (who : Who) (query : Query) (seed : Seed) (ms : List Message) (pair : OpenedPair) (line : Line) → Asks w p q who query seed ms pair line
    → IsAnswer w q.sight.order (record { by = who; query = query; seed = seed }) (record { rows = q.floor; messages = ms; pair = pair }) line
answer_of w p q who query seed ms pair line asks = record {
  most = let f = asks.agrees.floor in let l = length-take q.floor q.sight.order in omega arith;
  opens = asks.opens;
  says = asks.says;
  honest = asks.honest;
}

module _ {S : Type 0} (sight : Sight S) (none : NonePasses sight) (both : BothPass sight) (w : Widths) (low : ℕ) where
  pub so_far_none : (p : PassView) (s : S) → ((q : PassView) → Grows p q → Agrees w p q (rows_of w q) → low ≤ q.floor) → SoFar sight w low p [] [] s s
  so_far_none p s least = record { all = []; high = low; answers = omega arith; went = went_none sight s s refl refl (none s); least = least }

  pub so_far_more : (p q : PassView) (xs : List Question) (said more : List Line) (s t u : S) (who : Who) (query : Query) (seed : Seed) (ms : List Message) (pair : OpenedPair) (line : Line)
      → SoFar sight w low p xs said s t → Grows p q → Asks w p q who query seed ms pair line → Went sight t ms u → more ≡ said ++ line ∷ []
      → SoFar sight w low q (xs ++ record { by = who; query = query; seed = seed } ∷ []) more s u
  so_far_more p q xs said more s t u who query seed ms pair line h grows asks went is =
      let x : Question = record { by = who; query = query; seed = seed } in
      let now : Opening = record { rows = q.floor; messages = ms; pair = pair } in record {
        all = h.all ++ now ∷ [];
        high = q.floor;
        answers = subst (λ (ls : List Line). AreAnswers w q.sight.order low (xs ++ x ∷ []) (h.all ++ now ∷ []) ls q.floor) (sym is)
            (answers_snoc w q.sight.order x now line (answer_of w p q who query seed ms pair line asks) low xs h.all said h.high
            (answers_more w p.sight.order q.sight.order grows.order low xs h.all said h.high h.answers) (h.least q grows asks.agrees));
        went = subst (λ (all : List Message). Went sight s all u) (sym (messages_snoc h.all now)) (went_both sight both s t u (messages_of h.all) ms h.went went);
        least = λ r more agrees. kept w q r agrees;
      }

  pub so_far_done : (p : PassView) (xs ys : List Question) (said : List Line) (s t : S) → SoFar sight w low p xs said s t → xs ≡ ys
      → (ms : List Message) × Went sight s ms t × Gave w p.sight.order low ys ms said
  so_far_done p xs ys said s t h is =
      (messages_of h.all, h.went, record { openings = h.all; high = h.high; answers = subst (λ (zs : List Question). AreAnswers w p.sight.order low zs h.all said h.high) is h.answers; messages = refl })

-- ---- the questions of the next round, and of the next query

pub rounds_next : (queries : List Query) (master : Seed) (asker round next : ℕ) (d : Query) → 0 < length queries → next ≡ suc round
    → rounds_of queries master asker round ++ in_round master asker round (get_or queries (round % length queries) d) ∷ [] ≡ rounds_of queries master asker next
rounds_next queries master asker round next d some is =
    ap (λ (o : Option Query). rounds_of queries master asker round ++ question_of o (in_round master asker round)) (sym (slice_get-get_or queries (round % length queries) d (mod_below round (length queries) some)))
    ∙ ap (rounds_of queries master asker) (sym is)

pub ends_next : (queries : List Query) (master : Seed) (q next : ℕ) (d : Query) (seed : Seed) → q < length queries → next ≡ suc q → seed ≡ derive_of master 4 0 q
    → ends_of queries master q ++ record { by = who.End q; query = get_or queries q d; seed = seed } ∷ [] ≡ ends_of queries master next
ends_next queries master q next d seed lt is derived =
    ap (λ (s : Seed). ends_of queries master q ++ record { by = who.End q; query = get_or queries q d; seed = s } ∷ []) derived
    ∙ ap (λ (o : Option Query). ends_of queries master q ++ question_of o (at_end master q)) (sym (slice_get-get_or queries q d lt)) ∙ ap (ends_of queries master) (sym is)
