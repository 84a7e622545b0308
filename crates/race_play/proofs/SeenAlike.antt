-- Races that say equal numbers of rows look alike.
use Rattle.std.proofs.Common.{◌≡◌, ◌∙◌, refl, sym, ap, ℕ, zero, suc, ◌+◌, ◌%◌, List, [], ◌∷◌, ◌++◌, length}
use Rattle.std.specs.Prelude.{map, slice_get}
use Rattle.std.proofs.lemmas.List.{length-map, map-append}
use Rattle.prg_chacha.specs.declared.seed.Seed.{Seed}
use Rattle.query_plan.specs.Query.{shaped}
use Rattle.query_plan.specs.declared.query.Query.{Query}
use Rattle.table_schema.specs.declared.shapes.Shape.{Shape}
use Rattle.table_schema.specs.declared.widths.Widths.{Widths}
use Rattle.visit_trace.specs.Expected.{trace_of}
use Rattle.visit_trace.specs.Growing.{seen_then}
use Rattle.race_play.specs.Laws.{RacesLookAlike}
use Rattle.race_play.specs.Questions.{Question, at_end, ends_of, in_round, question_of, rounds_of}
use Rattle.race_play.specs.Seen.{all_questions, all_rounds, asked_seen, rounds_from, rows_answered}
use Rattle.race_play.specs.Settings.{Setting}

-- the shapes of what is asked
abbrev pub shapes : List Question → List Shape
shapes xs = map (λ (x : Question). shaped x.query) xs

shapes_both : (xs ys : List Question) → shapes (xs ++ ys) ≡ shapes xs ++ shapes ys
shapes_both xs ys = map-append (λ (x : Question). shaped x.query) xs ys

asked_alike : (w : Widths) (xs ys : List Question) (ns : List ℕ) → shapes xs ≡ shapes ys → asked_seen w xs ns ≡ asked_seen w ys ns
asked_alike w [] [] ns e = refl
asked_alike w [] (y ∷ ys) ns e = absurd cc
asked_alike w (x ∷ xs) [] ns e = absurd cc
asked_alike w (x ∷ xs) (y ∷ ys) [] e = refl
asked_alike w (x ∷ xs) (y ∷ ys) (n ∷ ns) e =
    let head : shaped x.query ≡ shaped y.query = cc in
    let rest : shapes xs ≡ shapes ys = cc in
    ap (λ (z : Shape). seen_then (trace_of (record { rows = n; widths = w; shape = z })) (asked_seen w xs ns)) head
    ∙ ap (seen_then (trace_of (record { rows = n; widths = w; shape = shaped y.query }))) (asked_alike w xs ys ns rest)

-- the query at a place, which may not be there
one_alike : (queries others : List Query) (k : ℕ) (f g : Query → Question) → ((q : Query) → shaped (f q).query ≡ shaped q) → ((q : Query) → shaped (g q).query ≡ shaped q)
    → map shaped queries ≡ map shaped others → shapes (question_of (slice_get queries k) f) ≡ shapes (question_of (slice_get others k) g)
one_alike [] [] k f g ff gg e = refl
one_alike [] (y ∷ others) k f g ff gg e = absurd cc
one_alike (x ∷ queries) [] k f g ff gg e = absurd cc
one_alike (x ∷ queries) (y ∷ others) zero f g ff gg e =
    let head : shaped x ≡ shaped y = cc in
    ap (λ (z : Shape). z ∷ []) (ff x ∙ head ∙ sym (gg y))
one_alike (x ∷ queries) (y ∷ others) (suc k) f g ff gg e =
    let rest : map shaped queries ≡ map shaped others = cc in
    one_alike queries others k f g ff gg rest

module _ (queries others : List Query) (master other : Seed) (e : map shaped queries ≡ map shaped others) where
  same_length : length queries ≡ length others
  same_length = sym (length-map queries shaped) ∙ ap length e ∙ length-map others shaped

  rounds_alike : (asker round : ℕ) → shapes (rounds_of queries master asker round) ≡ shapes (rounds_of others other asker round)
  rounds_alike asker zero = refl
  rounds_alike asker (suc round) =
      shapes_both (rounds_of queries master asker round) (question_of (slice_get queries (round % length queries)) (in_round master asker round))
      ∙ ap (λ (l : List Shape). l ++ shapes (question_of (slice_get queries (round % length queries)) (in_round master asker round))) (rounds_alike asker round)
      ∙ ap (λ (n : ℕ). shapes (rounds_of others other asker round) ++ shapes (question_of (slice_get queries (round % n)) (in_round master asker round))) same_length
      ∙ ap (λ (l : List Shape). shapes (rounds_of others other asker round) ++ l)
      (one_alike queries others (round % length others) (in_round master asker round) (in_round other asker round) (λ q. refl) (λ q. refl) e)
      ∙ sym (shapes_both (rounds_of others other asker round) (question_of (slice_get others (round % length others)) (in_round other asker round)))

  ends_alike : (n : ℕ) → shapes (ends_of queries master n) ≡ shapes (ends_of others other n)
  ends_alike zero = refl
  ends_alike (suc n) =
      shapes_both (ends_of queries master n) (question_of (slice_get queries n) (at_end master n))
      ∙ ap (λ (l : List Shape). l ++ shapes (question_of (slice_get queries n) (at_end master n))) (ends_alike n)
      ∙ ap (λ (l : List Shape). shapes (ends_of others other n) ++ l) (one_alike queries others n (at_end master n) (at_end other n) (λ q. refl) (λ q. refl) e)
      ∙ sym (shapes_both (ends_of others other n) (question_of (slice_get others n) (at_end other n)))

  from_alike : (rounds asker count : ℕ) → shapes (rounds_from queries master rounds asker count) ≡ shapes (rounds_from others other rounds asker count)
  from_alike rounds asker zero = refl
  from_alike rounds asker (suc count) =
      shapes_both (rounds_of queries master asker rounds) (rounds_from queries master rounds (suc asker) count)
      ∙ ap (λ (l : List Shape). l ++ shapes (rounds_from queries master rounds (suc asker) count)) (rounds_alike asker rounds)
      ∙ ap (λ (l : List Shape). shapes (rounds_of others other asker rounds) ++ l) (from_alike rounds (suc asker) count)
      ∙ sym (shapes_both (rounds_of others other asker rounds) (rounds_from others other rounds (suc asker) count))

all_alike : (s t : Setting) → map shaped s.queries ≡ map shaped t.queries → s.askers ≡ t.askers → s.rounds ≡ t.rounds → shapes (all_questions s) ≡ shapes (all_questions t)
all_alike s t e askers rounds =
    shapes_both (all_rounds s) (ends_of s.queries s.master (length s.queries))
    ∙ ap (λ (l : List Shape). l ++ shapes (ends_of s.queries s.master (length s.queries)))
    (from_alike s.queries t.queries s.master t.master e s.rounds 0 s.askers
    ∙ ap (λ (n : ℕ). shapes (rounds_from t.queries t.master s.rounds 0 n)) askers ∙ ap (λ (n : ℕ). shapes (rounds_from t.queries t.master n 0 t.askers)) rounds)
    ∙ ap (λ (l : List Shape). shapes (all_rounds t) ++ l)
    (ends_alike s.queries t.queries s.master t.master e (length s.queries) ∙ ap (λ (n : ℕ). shapes (ends_of t.queries t.master n)) (same_length s.queries t.queries s.master t.master e))
    ∙ sym (shapes_both (all_rounds t) (ends_of t.queries t.master (length t.queries)))

pub races_look_alike : RacesLookAlike
races_look_alike s t said more widths e askers rounds rows =
    ap (λ (w : Widths). asked_seen w (all_questions s) (rows_answered said)) widths
    ∙ ap (asked_seen t.widths (all_questions s)) rows
    ∙ asked_alike t.widths (all_questions s) (all_questions t) (rows_answered more) (all_alike s t e askers rounds)
