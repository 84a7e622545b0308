-- The report of a race, and that no pair is refused where no wire altered a message.
use Rattle.std.proofs.Common.{◌≡◌, ◌∙◌, refl, sym, ap, subst, ℕ, suc, ◌+◌, ◌<◌, ◌≤◌, Bool, false, ◌||◌, List, [], ◌∷◌, ◌++◌, length, take, drop, get_or, inl, inr, arith, append-nil, length-append}
use Rattle.std.specs.Prelude.{⊤, IfOk, Some, slice_get, slice_set, Result, Ok, Err}
use Rattle.std.specs.List.{list_any}
use Rattle.std.proofs.lemmas.List.{get_or-append-add, get_or_append_left}
use Rattle.std.proofs.lemmas.List.Folds.{list_any-append}
use mathlib.Core.List.{IsPrefix}
use Rattle.prg_chacha.specs.declared.seed.Seed.{Seed}
use Rattle.query_plan.specs.declared.query.Query.{Query}
use Rattle.report_lines.specs.declared.lines.Line.{Line}
use Rattle.report_lines.specs.declared.lines.Line.TheVariants as lines
use Rattle.table_schema.specs.declared.rows.Row.{Row}
use Rattle.table_schema.specs.declared.widths.Widths.{Widths}
use Rattle.ticket_place.specs.Sights.{IsSound, Seen}
use Rattle.wire_line.specs.Carried.{went_both}
use Rattle.wire_line.specs.Lists.{SomeRose}
use Rattle.wire_line.specs.Messages.{IsHonest, Went}
use Rattle.wire_line.specs.declared.message.Message.{Message}
use Rattle.waldo_table.specs.Tables.{Grows, PassView}
use Rattle.race_play.specs.Askers.{AreAsked, WentEach, more_over_first}
use Rattle.race_play.specs.Printed.{IsBackLine}
use Rattle.race_play.specs.Questions.{AreAnswers, Gave, Question, Opening, ends_of, messages_of}
use Rattle.race_play.specs.Raced.{IsRaced}
use Rattle.race_play.specs.Reports.{Reports, is_altered, place_lines}
use Rattle.race_play.specs.Settings.{Setting}
use Rattle.race_play.specs.declared.together.Raced.{Raced}
use Rattle.race_play.proofs.Splitting.{whole_slice}
use Rattle.wire_line.specs.Sights.{Sight, HasAltered, BothPass}

-- each message was received as it was sent
abbrev pub AllHonest : List (List Message) → Type 0
AllHonest [] = ⊤
AllHonest (ms ∷ sent) = IsHonest ms × AllHonest sent

-- ---- the messages of the last queries go over the first wire

module _ {S : Type 0} (sight : Sight S) where
  pub went_long : (sent : List (List Message)) (vs ws : List S) → WentEach sight sent vs ws → length ws ≡ length vs
  went_long [] vs ws h = ap length h
  went_long (ms ∷ sent) [] ws h = absurd h
  went_long (ms ∷ sent) (v ∷ vs) [] h = absurd h
  went_long (ms ∷ sent) (v ∷ vs) (w ∷ ws) h = ap suc (went_long sent vs ws h.1)

  pub went_first : BothPass sight → (sent : List (List Message)) (vs us : List S) (es : List Message) (w d : S) → 0 < length sent → WentEach sight sent vs us
      → Went sight (get_or us 0 d) es w → WentEach sight (more_over_first es sent) vs (slice_set us 0 w)
  went_first both [] vs us es w d lt h went = absurd (omega arith)
  went_first both (ms ∷ sent) [] us es w d lt h went = absurd h
  went_first both (ms ∷ sent) (v ∷ vs) [] es w d lt h went = absurd h
  went_first both (ms ∷ sent) (v ∷ vs) (u ∷ us) es w d lt h went = (went_both sight both v u w ms es h.0 went, h.1)

  -- the same where the wires were lent from a vector
  pub went_lent : BothPass sight → (sent : List (List Message)) (len : ℕ) (old lent new : List S) (es : List Message) (w d : S) → 0 < length sent → len ≡ length old → lent ≡ old
      → WentEach sight sent lent new → Went sight (get_or (take len (new ++ drop (length new) old)) 0 d) es w
      → WentEach sight (more_over_first es sent) old (slice_set (take len (new ++ drop (length new) old)) 0 w)
  went_lent both sent len old lent new es w d lt size same h went =
      let each = subst (λ (l : List S). WentEach sight sent l new) same h in
      let whole : take len (new ++ drop (length new) old) ≡ new = whole_slice old new len (went_long sent old new each) size in
      subst (λ (l : List S). WentEach sight (more_over_first es sent) old (slice_set l 0 w)) (sym whole)
      (went_first both sent old new es w d lt each (subst (λ (l : List S). Went sight (get_or l 0 d) es w) whole went))

  -- where no count rose, each message was received as it was sent
  pub all_honest : (sent : List (List Message)) (vs ws : List S) → WentEach sight sent vs ws → ¬ SomeRose sight vs ws → AllHonest sent
  all_honest [] vs ws h still = tt
  all_honest (ms ∷ sent) [] ws h still = absurd h
  all_honest (ms ∷ sent) (v ∷ vs) [] h still = absurd h
  all_honest (ms ∷ sent) (v ∷ vs) (w ∷ ws) h still =
      (h.0.honest (λ (rose : HasAltered sight v w). still (inl rose)), all_honest sent vs ws h.1 (λ (rose : SomeRose sight vs ws). still (inr rose)))

-- ---- the report

same_list : {A : Type 0} (xs ys : List A) → IsPrefix xs ys → length ys ≤ length xs → ys ≡ xs
same_list xs ys p le = sym p.1 ∙ ap (λ zs. xs ++ zs) (empty p.0 (let l = sym (ap length p.1) ∙ length-append xs p.0 in omega arith)) ∙ append-nil xs
  where
    empty : {B : Type 0} (zs : List B) → length zs ≡ 0 → zs ≡ []
    empty [] e = refl
    empty (z ∷ zs) e = absurd (omega (arith, e))

-- there is no room but for what no row needs, so the order is as long as there are rows
pub same_order : (n : ℕ) (p q : PassView) → length p.sight.order ≡ n → p.sight.book.capacity ≤ p.sight.room + n → Grows p q → q.sight ≡ record p.sight { order = q.sight.order } → IsSound q.sight
    → q.sight.order ≡ p.sight.order
same_order n p q long full grows own sound =
    let w = sound.within in
    let room = ap (λ (s : Seen). s.room) own in
    let most = ap (λ (s : Seen). s.book.capacity) own in
    same_list p.sight.order q.sight.order grows.order (omega arith)

pub reports_of : (s : Setting) (raced : Raced) (p q : PassView) (sent : List (List Message)) (es : List Message) (ends said : List Line) → IsRaced s p sent raced → Grows p q
    → q.sight ≡ record p.sight { order = q.sight.order } → IsSound q.sight → Gave s.widths q.sight.order (length s.rows) (ends_of s.queries s.master (length s.queries)) es ends
    → said ≡ lines.Rows (length raced.order.items) ∷ place_lines 0 raced.order.items ++ raced.backs.items ++ raced.asks ++ ends → Reports s (more_over_first es sent) said
reports_of s raced p q sent es ends said r grows own sound gave text = record {
  order = raced.order.items;
  entries = p.sight.order;
  backs = raced.backs.items;
  asks = raced.asks;
  ends = ends;
  rounds = sent;
  last = es;
  text = text ∙ ap (λ (n : ℕ). lines.Rows n ∷ place_lines 0 raced.order.items ++ raced.backs.items ++ raced.asks ++ ends) r.stands.is_order.long;
  is_order = r.stands.is_order;
  are_entries = record { long = r.stands.same; each = r.stands.entries };
  all_backs = r.long;
  back = r.backs;
  all_askers = r.askers;
  asked = r.asks;
  ended = subst (λ (o : List (Row × Seed)). Gave s.widths o (length s.rows) (ends_of s.queries s.master (length s.queries)) es ends) (same_order (length s.rows) p q r.stands.same r.full grows own sound) gave;
  over = refl;
}

-- ---- no line of a refused pair

first_honest : (ms ns : List Message) → IsHonest (ms ++ ns) → IsHonest ms
first_honest ms ns h = λ k d lt. subst (λ (m : Message). m.received ≡ m.sent) (get_or_append_left ms ns d k lt) (h k d (let l = length-append ms ns in omega arith))

second_honest : (ms ns : List Message) → IsHonest (ms ++ ns) → IsHonest ns
second_honest ms ns h = λ k d lt. subst (λ (m : Message). m.received ≡ m.sent) (get_or-append-add ms ns k d) (h (length ms + k) d (let l = length-append ms ns in omega arith))

both_quiet : (xs ys : List Line) → list_any is_altered xs ≡ false → list_any is_altered ys ≡ false → list_any is_altered (xs ++ ys) ≡ false
both_quiet xs ys f g = list_any-append is_altered xs ys ∙ ap (λ (b : Bool). b || list_any is_altered ys) f ∙ g

places_quiet : (place : ℕ) (order : List ℕ) → list_any is_altered (place_lines place order) ≡ false
places_quiet place [] = refl
places_quiet place (i ∷ order) = places_quiet (suc place) order

back_quiet : (n writers : ℕ) (order : List ℕ) (w : ℕ) (line : Line) → IsBackLine n writers order w line → is_altered line ≡ false
back_quiet n writers order w (lines.Answer by rows aggregate total) h = refl
back_quiet n writers order w (lines.Altered by rows total weighted) h = absurd h
back_quiet n writers order w (lines.Again by server had floor) h = refl
back_quiet n writers order w (lines.Draw actor place) h = refl
back_quiet n writers order w (lines.Look actor server prefix) h = refl
back_quiet n writers order w (lines.Rows count) h = refl
back_quiet n writers order w (lines.Place place row) h = refl
back_quiet n writers order w (lines.Back writer rows) h = refl
back_quiet n writers order w (lines.BackAgain writer server had floor) h = refl
back_quiet n writers order w (lines.Trace index server visits words) h = refl
back_quiet n writers order w (lines.Tree low high total nodes) h = refl
back_quiet n writers order w (lines.TreeAltered total weighted) h = absurd h
back_quiet n writers order w (lines.Group index bucket rows aggregate total) h = refl
back_quiet n writers order w (lines.GroupAltered index bucket total weighted) h = absurd h
back_quiet n writers order w (lines.BadWord index) h = refl
back_quiet n writers order w (lines.Missing name) h = refl
back_quiet n writers order w (lines.BadStep index) h = refl
back_quiet n writers order w lines.ReadFault h = refl
back_quiet n writers order w lines.TooLong h = refl
back_quiet n writers order w lines.Header h = refl
back_quiet n writers order w (lines.BadRecord number why) h = refl
back_quiet n writers order w (lines.TooMany capacity) h = refl
back_quiet n writers order w (lines.TooFew wanted) h = refl

backs_quiet : (n writers : ℕ) (order : List ℕ) (from : ℕ) (said : List Line) → ((w : ℕ) (line : Line) → slice_get said w ≡ Some line → IsBackLine n writers order (from + w) line) → list_any is_altered said ≡ false
backs_quiet n writers order from [] each = refl
backs_quiet n writers order from (line ∷ said) each =
    ap (λ (b : Bool). b || list_any is_altered said) (back_quiet n writers order (from + 0) line (each 0 line refl))
    ∙ backs_quiet n writers order (suc from) said (λ w l at. let z : from + suc w ≡ suc from + w = omega arith in subst (λ (k : ℕ). IsBackLine n writers order k l) z (each (suc w) l at))

module _ (w : Widths) (order : List (Row × Seed)) where
  answers_quiet : (low : ℕ) (xs : List Question) (openings : List Opening) (said : List Line) (high : ℕ) → AreAnswers w order low xs openings said high → IsHonest (messages_of openings) → list_any is_altered said ≡ false
  answers_quiet low [] [] [] high h honest = refl
  answers_quiet low [] [] (line ∷ said) high h honest = absurd h
  answers_quiet low [] (t ∷ openings) said high h honest = absurd h
  answers_quiet low (x ∷ xs) [] said high h honest = absurd h
  answers_quiet low (x ∷ xs) (t ∷ openings) [] high h honest = absurd h
  answers_quiet low (x ∷ xs) (t ∷ openings) (line ∷ said) high h honest =
      ap (λ (l : Line). is_altered l || list_any is_altered said) (h.1.honest (first_honest t.messages (messages_of openings) honest))
      ∙ answers_quiet t.rows xs openings said high h.2 (second_honest t.messages (messages_of openings) honest)

  gave_quiet : (low : ℕ) (xs : List Question) (ms : List Message) (said : List Line) → Gave w order low xs ms said → IsHonest ms → list_any is_altered said ≡ false
  gave_quiet low xs ms said g honest = answers_quiet low xs g.openings said g.high g.answers (subst (λ (ns : List Message). IsHonest ns) g.messages honest)

  asked_quiet : (queries : List Query) (master : Seed) (rounds asker : ℕ) (sent : List (List Message)) (said : List Line) → AreAsked w queries master rounds order asker sent said → AllHonest sent → list_any is_altered said ≡ false
  asked_quiet queries master rounds asker [] said h honest = ap (list_any is_altered) h
  asked_quiet queries master rounds asker (ms ∷ sent) said h honest =
      ap (list_any is_altered) h.2 ∙ both_quiet h.0 h.1 (gave_quiet 0 _ ms h.0 h.3 honest.0) (asked_quiet queries master rounds (suc asker) sent h.1 h.4 honest.1)

rounds_honest : (es : List Message) (sent : List (List Message)) → AllHonest (more_over_first es sent) → AllHonest sent
rounds_honest es [] h = tt
rounds_honest es (ms ∷ sent) h = (first_honest ms es h.0, h.1)

last_honest : (es : List Message) (sent : List (List Message)) → 0 < length sent → AllHonest (more_over_first es sent) → IsHonest es
last_honest es [] lt h = absurd (omega arith)
last_honest es (ms ∷ sent) lt h = second_honest ms es h.0

pub reports_quiet : (s : Setting) (sent : List (List Message)) (said : List Line) → 0 < s.askers → Reports s sent said → AllHonest sent → list_any is_altered said ≡ false
reports_quiet s sent said some r honest =
    let each : AllHonest (more_over_first r.last r.rounds) = subst AllHonest r.over honest in
    ap (list_any is_altered) r.text
    ∙ both_quiet (place_lines 0 r.order ++ r.backs ++ r.asks) r.ends
    (both_quiet (place_lines 0 r.order ++ r.backs) r.asks
    (both_quiet (place_lines 0 r.order) r.backs (places_quiet 0 r.order)
    (backs_quiet (length s.rows) s.writers r.order 0 r.backs (λ w line at. let z : w ≡ 0 + w = omega arith in subst (λ (k : ℕ). IsBackLine (length s.rows) s.writers r.order k line) z (r.back w line at))))
    (asked_quiet s.widths r.entries s.queries s.master s.rounds 0 r.rounds r.asks r.asked (rounds_honest r.last r.rounds each)))
    (gave_quiet s.widths r.entries (length s.rows) _ r.last r.ends r.ended (last_honest r.last r.rounds (let n = r.all_askers in omega arith) each))

pub if_both : {A E : Type 0} (r : Result A E) (P Q : A → Type 0) → IfOk r P → IfOk r Q → IfOk r (λ x. P x × Q x)
if_both (Ok x) P Q p q = (p, q)
if_both (Err e) P Q p q = tt
