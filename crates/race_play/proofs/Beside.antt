-- Askers at once.
use Rattle.std.proofs.Common.{◌≡◌, ◌∙◌, refl, sym, ap, subst, ℕ, suc, ◌-◌, List, [], ◌∷◌, ◌++◌, arith}
use Rattle.std.specs.Prelude.{IfOk, Result, Ok, Err}
use Rattle.list_facts.proofs.Prefixes.{prefix_self}
use Rattle.prg_chacha.specs.declared.seed.Seed.{Seed}
use Rattle.query_plan.specs.declared.query.Query.{Query}
use Rattle.report_lines.specs.declared.lines.Line.{Line}
use Rattle.ring128.specs.declared.memory.Memory.{Memory}
use Rattle.ticket_place.specs.Sights.{Seen}
use Rattle.waldo_table.specs.Tables.{Grows, IsOf, PassView, TableView, fresh_pass, gathered}
use Rattle.race_play.specs.Askers.{AreAsked}
use Rattle.race_play.specs.Begun.{AreBegun}
use Rattle.race_play.specs.Asking.{AsksAll, AsksOne}
use Rattle.race_play.specs.Heard.{JoinsHeard}
use Rattle.race_play.specs.Questions.{Gave, rounds_of}
use Rattle.race_play.specs.Seen.{Notes, NotesAll, rounds_from}
use Rattle.race_play.specs.declared.setting.Crew.{Crew}
use Rattle.race_play.proofs.Answering.{asked_more, gave_more}
use Rattle.race_play.proofs.Breaking.{all_begun_more, began_more}
use Rattle.race_play.proofs.Seeing.{notes_beside, notes_none}
use Rattle.race_play.proofs.Writing.{grows_trans}
use Rattle.visit_trace.specs.Seen.{AllSeen, alike, nothing}
use Rattle.wire_line.specs.Sights.{Sight}

-- ---- what was asked stays so as the order grows

-- ---- one asker beside those behind it

pub kept_grows : (p q : PassView) (n : ℕ) → q ≡ record p { sight = record p.sight { room = n } } → Grows p q
kept_grows p q n is = subst (λ (x : PassView). Grows p x) (sym is) (record { order = prefix_self _; zero = prefix_self _; one = prefix_self _; two = prefix_self _ })

module _ {S : Type 0} (sight : Sight S) (t : TableView) (queries : List Query) (master : Seed) (crew : Crew) (asker : ℕ) where
  -- no asker is left
  pub asks_none : (p : PassView) (vs : List S) (noted : AllSeen) (said : List Line) → IsOf t p → p.sight.own ≡ [] → asker ≡ crew.askers → noted ≡ alike nothing → said ≡ []
      → AsksAll sight t queries master crew asker p p vs vs (alike nothing) noted (Ok said)
  asks_none p vs noted said of own last none empty = record {
    of = of;
    grows = record { order = prefix_self _; zero = prefix_self _; one = prefix_self _; two = prefix_self _ };
    own = own;
    room = omega arith;
    asked = ([], refl, empty, omega (arith, last));
    begun = ([], refl, tt, omega (arith, last));
    seen = (0, omega (arith, last), subst (λ (l : List Line). NotesAll t.widths [] l (alike nothing) noted) (sym empty) (subst (NotesAll t.widths [] [] (alike nothing)) (sym none) (notes_none t.widths (alike nothing))));
  }

  pub asks_both : (p mine kept mine' q q' : PassView) (v w : S) (vs ws : List S) (next : ℕ) (first others result : Result (List Line) Memory) (noted behind all_noted : AllSeen)
      → AsksOne sight t queries master crew asker mine mine' v w (alike nothing) noted first
      → AsksAll sight t queries master crew next kept q vs ws (alike nothing) behind others
      → next ≡ suc asker → mine ≡ fresh_pass p 0 → kept ≡ record p { sight = record p.sight { room = p.sight.room - 0 } }
      → IsOf t q' → Grows q q' → Grows mine' q' → q' ≡ gathered q mine'
      → JoinsHeard noted first behind others all_noted result
      → AsksAll sight t queries master crew asker p q' (v ∷ vs) (w ∷ ws) (alike nothing) all_noted result
  asks_both p mine kept mine' q q' v w vs ws next first others result noted behind all_noted one all is split left of grows joins same joined = record {
    of = of;
    grows = grows_trans p kept q' (kept_grows p kept (p.sight.room - 0) left) (grows_trans kept q q' all.grows grows);
    own = ap (λ (x : PassView). x.sight.own) same ∙ ap (λ (l : List ℕ). l ++ mine'.sight.own) all.own ∙ ap (λ (s : Seen). s.own) one.own ∙ ap (λ (x : PassView). x.sight.own) split;
    room =
        let a = ap (λ (x : PassView). x.sight.room) same in
        let b = ap (λ (x : PassView). x.sight.room) left in
        let c = all.room in omega arith;
    asked = (one.asked.0 ∷ all.asked.0, (one.asked.1, all.asked.1), said result joined.said, let n = all.asked.3 in omega arith);
    begun = (
      one.begun.0 ∷ all.begun.0,
      (one.begun.1, all.begun.1),
      (
        began_more t.widths mine'.sight.order q'.sight.order joins.order 0 _ one.begun.0 one.begun.2,
        subst (λ (n : ℕ). AreBegun t.widths queries master crew.rounds q'.sight.order n all.begun.0) is
            (all_begun_more t.widths q.sight.order q'.sight.order grows.order queries master crew.rounds next all.begun.0 all.begun.2),
      ),
      let n = all.begun.3 in omega arith,
    );
    seen =
        let s = all.seen in
        let xs = rounds_of queries master asker crew.rounds in (
          suc s.0,
          (let n = s.1 in omega arith),
          subst (λ (n : ℕ). Notes t.widths (xs ++ rounds_from queries master crew.rounds n s.0) (alike nothing) all_noted result) is
              (notes_beside t.widths xs (rounds_from queries master crew.rounds next s.0) (alike nothing) noted all_noted behind first others result one.seen s.2 joined),
        );
  }
    where
      said : (r : Result (List Line) Memory) → IfOk r (λ s. (own : List Line) × (more : List Line) × (first ≡ Ok own) × (others ≡ Ok more) × (s ≡ own ++ more))
          → IfOk r (AreAsked t.widths queries master crew.rounds q'.sight.order asker (one.asked.0 ∷ all.asked.0))
      said (Err e) j = tt
      said (Ok s) j = (
        j.0,
        j.1,
        j.4,
        gave_more t.widths mine'.sight.order q'.sight.order 0 _ one.asked.0 j.0 joins.order (at_ok first j.0 (Gave t.widths mine'.sight.order 0 _ one.asked.0) j.2 one.asked.2),
        subst (λ (n : ℕ). AreAsked t.widths queries master crew.rounds q'.sight.order n all.asked.0 j.1) is
            (asked_more t.widths queries master crew.rounds q.sight.order q'.sight.order grows.order next all.asked.0 j.1 (at_ok others j.1 (AreAsked t.widths queries master crew.rounds q.sight.order next all.asked.0) j.3 all.asked.2)),
      )
        where
          at_ok : (r : Result (List Line) Memory) (x : List Line) (P : List Line → Type 0) → r ≡ Ok x → IfOk r P → P x
          at_ok r x P e h = subst (λ (y : Result (List Line) Memory). IfOk y P) e h
