-- Every step keeps a core legal.
use Rattle.std.proofs.Common.{◌≡◌, ◌≢◌, ◌∙◌, ⊎_elim, refl, sym, ap, subst, ℕ, zero, suc, ◌+◌, ◌<◌, ◌≤◌, min, max, Bool, true, false, cond, ◌&&◌, ◌||◌, ltb, List, [], ◌∷◌, ◌++◌, length, Option, Some, None, is_some, slice_get, arith}
use Rattle.std.proofs.lemmas.Bool.{and_parts, cases_eq, cond_both, false_from_ne_true, ltb-false, or_parts}
use Rattle.std.proofs.lemmas.List.{length_push}
use Rattle.std.proofs.lemmas.Option.{none-some, same_Some}
use Rattle.list_facts.specs.Count.{has, times}
use Rattle.prg_chacha.specs.declared.seed.Seed.{Seed}
use Rattle.prefix_log.proofs.Prefixes.{prefix_grows, prefix_most}
use Rattle.query_plan.specs.declared.query.Query.{Query}
use Rattle.server_rounds.specs.declared.opened.OpenedPair.{OpenedPair}
use Rattle.table_schema.specs.declared.rows.Row.{Row}
use Rattle.waldo_core.specs.Core.{Actor, Core, Fixes, Open, is_pending, journal_of, prefix, with_actor}
use Rattle.waldo_core.specs.Core.Fixes.{Unfixed, First, Second, Agreed}
use Rattle.waldo_core.specs.Laws.{LegalStays}
use Rattle.waldo_core.specs.Legal.{AreFixes, HasOpen, IsActor, IsLegal, IsOpen}
use Rattle.waldo_core.specs.Step.{acts, actor_of, agreed, answer_step, answered, drawn, fix_step, fixed, is_done, is_server, looked, place_step, placed, placed_at, with_draw, with_place}
use Rattle.waldo_core.specs.declared.events.Event.{Event}
use Rattle.waldo_core.specs.declared.events.Event.TheVariants as events
use Rattle.waldo_core.specs.declared.events.Reply.{Reply}
use Rattle.waldo_core.specs.declared.events.Reply.TheVariants as replies
use Rattle.waldo_core.proofs.Grown.{Grown, grown_more, grown_same, placed_there}
use Rattle.waldo_core.proofs.Legal.{Later, actor_stays, becomes_legal, empty_legal}
use Rattle.waldo_core.proofs.OpenDraws.{All-get, HasDraw, open_of, open_own}

-- ---- cores on the way

abbrev new_draw : Core → Open
new_draw core = record { place = length core.order; zero = false; one = false; two = false }

-- an actor that draws
abbrev drawing : Core → Actor → Actor
drawing core actor = record actor { draw = Some (new_draw core); fixes = Unfixed }

-- a core with one entry more
abbrev ordered : Core → Row × Seed → Core
ordered core entry = record core { order = core.order ++ entry ∷ [] }

journals_ordered : (core : Core) (entry : Row × Seed) (k : ℕ) → journal_of core k ≡ journal_of (ordered core entry) k
journals_ordered core entry zero = refl
journals_ordered core entry (suc zero) = refl
journals_ordered core entry (suc (suc k)) = refl

-- a core with other journals
abbrev with_journals : Core → List ℕ → List ℕ → List ℕ → Core
with_journals core z o t = record { order = core.order; zero = z; one = o; two = t; actors = core.actors }

-- journals that may have gained the place of a draw, which tells what they have
record Gains (core : Core) (draw : Open) (z o t : List ℕ) : Type 0 where
  grown_zero : Grown draw.place core.zero z
  grown_one : Grown draw.place core.one o
  grown_two : Grown draw.place core.two t
  has_zero : has draw.place z ≡ draw.zero
  has_one : has draw.place o ≡ draw.one
  has_two : has draw.place t ≡ draw.two

-- ---- the steps of an actor

module _ (core : Core) (legal : IsLegal core) (number : ℕ) (actor : Actor) (get : slice_get core.actors number ≡ Some actor) where
  one_of : (j : ℕ) (u : Actor) → slice_get core.actors j ≡ Some u → IsActor core u
  one_of j u got = All-get (IsActor core) core.actors j u legal.actors got

  own : IsActor core actor
  own = one_of number actor get

  open_known : (j place : ℕ) → HasOpen core j place → place < length core.order
  open_known j place h = subst (λ (x : ℕ). x < length core.order) h.4 ((one_of j h.0 h.2).draw h.1 h.3).place

  -- a place that nobody has open is in all journals
  shut : (k place : ℕ) → place < length core.order → ((j : ℕ) → j ≢ number → ¬ HasOpen core j place) → ¬ HasDraw actor place → has place (journal_of core k) ≡ true
  shut k place lt others none = legal.closed k place lt (λ j h. ⊎_elim
      (λ (e : j ≡ number). none (open_own core number actor get place (subst (λ (i : ℕ). HasOpen core i place) e h)))
      (λ (ne : j ≢ number). others j ne h) (cases_eq j number))

  prefix_known : (k : ℕ) → prefix (journal_of core k) ≤ length core.order
  prefix_known k = prefix_most (length core.order) (journal_of core k) (legal.known k)

  -- nothing but the floor and the fixes of the actor changes
  acted : (a : Actor) → a.draw ≡ actor.draw → IsActor core a → IsLegal (with_actor core number a)
  acted a same is =
      let later : Later core (with_actor core number a) = record { order = omega arith; zero = omega arith; one = omega arith; two = omega arith } in
      becomes_legal core number actor a get (record {
        once = legal.once;
        known = legal.known;
        sixteen = legal.sixteen;
        here = actor_stays core (with_actor core number a) a later (λ draw e. record { zero = refl; one = refl; two = refl }) is;
        others = λ j u ne got. actor_stays core (with_actor core number a) u later (λ draw e. record { zero = refl; one = refl; two = refl }) (one_of j u got);
        apart = legal.apart;
        alone = λ j place d ne h. ne (legal.apart j number place h (open_of core number actor get place (d.0, sym same ∙ d.1, d.2)));
        closed = λ k place lt others none. shut k place lt others (λ d. none (d.0, same ∙ d.1, d.2));
      })

  -- ---- a look

  looked_legal : (k : ℕ) → IsLegal (looked core number actor k).0
  looked_legal k =
      let found = prefix_known k in
      acted (record { floor = max actor.floor (prefix (journal_of core k)); draw = actor.draw; fixes = Unfixed }) refl
      (record { floor = omega (arith, own.floor, found); draw = own.draw; fixes = tt })

  -- ---- a fix

  dropped_legal : IsLegal (with_actor core number (record actor { fixes = Unfixed }))
  dropped_legal = acted (record actor { fixes = Unfixed }) refl (record { floor = own.floor; draw = own.draw; fixes = tt })

  fixed_legal : (k found : ℕ) (kept : Fixes) → (actor.floor ≤ found → AreFixes core actor.floor kept) → IsLegal (fixed core number actor k found kept).0
  fixed_legal k found kept are =
      let again : Core × Reply = (with_actor core number (record actor { fixes = Unfixed }), replies.Again k found actor.floor) in
      let held : Core × Reply = (with_actor core number (record actor { fixes = kept }), replies.Fixed found) in
      cond_both (ltb found actor.floor) again held (λ (p : Core × Reply). IsLegal p.0)
      (λ e. dropped_legal)
      (λ e. acted (record actor { fixes = kept }) refl (record { floor = own.floor; draw = own.draw; fixes = are (ltb-false found actor.floor e) }))

  agreed_legal : (first second : ℕ) → AreFixes core actor.floor (Second first second) → IsLegal (agreed core number actor first second (prefix core.two)).0
  agreed_legal first second are =
      let rows : ℕ = min (min first second) (prefix core.two) in
      let again : Core × Reply = (with_actor core number (record actor { fixes = Unfixed }), replies.Again 2 (prefix core.two) actor.floor) in
      let held : Core × Reply = (with_actor core number (record { floor = rows; draw = actor.draw; fixes = Agreed rows }), replies.Agreed rows) in
      let found : prefix core.two ≤ length core.order = prefix_known 2 in
      cond_both (ltb (prefix core.two) actor.floor) again held (λ (p : Core × Reply). IsLegal p.0)
      (λ e. dropped_legal)
      (λ e. acted (record { floor = rows; draw = actor.draw; fixes = Agreed rows }) refl (record {
        floor = omega (arith, found);
        draw = own.draw;
        fixes = (refl, omega (arith, are.1), omega (arith, are.3), omega arith);
      }))

  fix_legal : (fixes : Fixes) → actor.fixes ≡ fixes → IsLegal (fix_step core number actor fixes).0
  fix_legal Unfixed e = fixed_legal 0 (prefix core.zero) (First (prefix core.zero)) (λ le. (le, omega arith))
  fix_legal (Agreed n) e = fixed_legal 0 (prefix core.zero) (First (prefix core.zero)) (λ le. (le, omega arith))
  fix_legal (First p) e =
      let f : (actor.floor ≤ p) × (p ≤ prefix core.zero) = subst (AreFixes core actor.floor) e own.fixes in
      fixed_legal 1 (prefix core.one) (Second p (prefix core.one)) (λ le. (f.0, f.1, le, omega arith))
  fix_legal (Second p q) e = agreed_legal p q (subst (AreFixes core actor.floor) e own.fixes)

  -- ---- a draw

  absent : (k : ℕ) → has (length core.order) (journal_of core k) ≡ false
  absent k = false_from_ne_true (has (length core.order) (journal_of core k))
      (λ there. let lt : length core.order < length core.order = legal.known k (length core.order) there in omega arith)

  module _ (entry : Row × Seed) (free : actor.draw ≡ None) where
    more : length (core.order ++ entry ∷ []) ≡ length core.order + 1
    more = length_push core.order entry

    later_drawn : Later core (with_actor (ordered core entry) number (drawing core actor))
    later_drawn = record { order = omega (arith, more); zero = omega arith; one = omega arith; two = omega arith }

    here_drawn : IsActor (with_actor (ordered core entry) number (drawing core actor)) (drawing core actor)
    here_drawn = record {
      floor = omega (arith, own.floor, more);
      draw = λ draw e. subst (IsOpen (with_actor (ordered core entry) number (drawing core actor))) (same_Some (new_draw core) draw e)
          (record { place = omega (arith, more); zero = absent 0; one = absent 1; two = absent 2; missing = refl });
      fixes = tt;
    }

    taken_legal : IsLegal (with_actor (ordered core entry) number (drawing core actor))
    taken_legal = becomes_legal (ordered core entry) number actor (drawing core actor) get (record {
      once = λ k place. subst (λ (journal : List ℕ). times place journal ≤ 1) (journals_ordered core entry k) (legal.once k place);
      known = λ k place h.
          let lt = legal.known k place (subst (λ (journal : List ℕ). has place journal ≡ true) (sym (journals_ordered core entry k)) h) in omega (arith, lt, more);
      sixteen = legal.sixteen;
      here = here_drawn;
      others = λ j u ne got. actor_stays core (with_actor (ordered core entry) number (drawing core actor)) u later_drawn
          (λ draw e. record { zero = refl; one = refl; two = refl }) (one_of j u got);
      apart = legal.apart;
      alone = λ j place d ne h.
          let last : length core.order ≡ place = ap (λ (o : Open). o.place) (same_Some (new_draw core) d.0 d.1) ∙ d.2 in
          let lt : place < length core.order = open_known j place h in omega arith;
      closed = λ k place lt others none. ⊎_elim
          (λ (last : place ≡ length core.order). absurd (none (new_draw core, refl, sym last)))
          (λ (ne : place ≢ length core.order). subst (λ (journal : List ℕ). has place journal ≡ true) (journals_ordered core entry k)
          (shut k place (omega (arith, lt, more)) others (λ d. none-some d.0 (sym free ∙ d.1)))) (cases_eq place (length core.order));
    })

    drawn_legal : (capacity : ℕ) → IsLegal (drawn capacity core number actor entry).0
    drawn_legal capacity =
        let took : Core × Reply = (with_actor (ordered core entry) number (drawing core actor), replies.Drew (length core.order)) in
        let full : Core × Reply = (core, replies.Full capacity) in
        cond_both (ltb (length core.order) capacity) took full (λ (p : Core × Reply). IsLegal p.0) (λ e. taken_legal) (λ e. legal)

  -- ---- a placing

  module _ (draw next : Open) (z o t : List ℕ) (was : actor.draw ≡ Some draw) (stays : draw.place ≡ next.place) (g : Gains core next z o t) where
    grown : (k : ℕ) → Grown next.place (journal_of core k) (journal_of (with_journals core z o t) k)
    grown zero = g.grown_zero
    grown (suc zero) = g.grown_one
    grown (suc (suc k)) = g.grown_two

    was_open : HasOpen core number next.place
    was_open = open_of core number actor get next.place (draw, was, stays)

    place_known : next.place < length core.order
    place_known = open_known number next.place was_open

    known_placed : (k place : ℕ) → has place (journal_of (with_journals core z o t) k) ≡ true → place < length core.order
    known_placed k place h = ⊎_elim
        (λ (e : place ≡ next.place). omega (arith, place_known))
        (λ (ne : place ≢ next.place). legal.known k place (sym ((grown k).others place ne) ∙ h)) (cases_eq place next.place)

    later_placed : (a : Actor) → Later core (with_actor (with_journals core z o t) number a)
    later_placed a = record {
      order = omega arith;
      zero = prefix_grows core.zero z g.grown_zero.keeps;
      one = prefix_grows core.one o g.grown_one.keeps;
      two = prefix_grows core.two t g.grown_two.keeps;
    }

    others_placed : (a : Actor) (j : ℕ) (u : Actor) → j ≢ number → slice_get core.actors j ≡ Some u → IsActor (with_actor (with_journals core z o t) number a) u
    others_placed a j u ne got = actor_stays core (with_actor (with_journals core z o t) number a) u (later_placed a)
        (λ d e. let other : d.place ≢ next.place = λ same. ne (legal.apart j number next.place (u, d, got, e, same) was_open) in record {
          zero = g.grown_zero.others d.place other;
          one = g.grown_one.others d.place other;
          two = g.grown_two.others d.place other;
        }) (one_of j u got)

    shut_placed : (k place : ℕ) → place < length core.order → ((j : ℕ) → j ≢ number → ¬ HasOpen core j place) → place ≢ next.place
        → has place (journal_of (with_journals core z o t) k) ≡ true
    shut_placed k place lt others ne = (grown k).keeps place (shut k place lt others
        (λ d. ne (sym d.2 ∙ ap (λ (x : Open). x.place) (sym (same_Some draw d.0 (sym was ∙ d.1))) ∙ stays)))

    all_have : is_done next ≡ true → (k : ℕ) → has next.place (journal_of (with_journals core z o t) k) ≡ true
    all_have done zero = g.has_zero ∙ (and_parts next.zero next.one (and_parts (next.zero && next.one) next.two done).0).0
    all_have done (suc zero) = g.has_one ∙ (and_parts next.zero next.one (and_parts (next.zero && next.one) next.two done).0).1
    all_have done (suc (suc k)) = g.has_two ∙ (and_parts (next.zero && next.one) next.two done).1

    -- the third piece closes the draw
    closed_legal : is_done next ≡ true → IsLegal (with_actor (with_journals core z o t) number (record { floor = max actor.floor (next.place + 1); draw = None; fixes = Unfixed }))
    closed_legal done =
        let a : Actor = record { floor = max actor.floor (next.place + 1); draw = None; fixes = Unfixed } in
        becomes_legal (with_journals core z o t) number actor a get (record {
          once = λ k. (grown k).once (legal.once k);
          known = known_placed;
          sixteen = legal.sixteen;
          here = record { floor = omega (arith, own.floor, place_known); draw = λ d e. absurd (none-some d e); fixes = tt };
          others = others_placed a;
          apart = legal.apart;
          alone = λ j place d ne h. none-some d.0 d.1;
          closed = λ k place lt others none. ⊎_elim
              (λ (e : place ≡ next.place). subst (λ (x : ℕ). has x (journal_of (with_journals core z o t) k) ≡ true) (sym e) (all_have done k))
              (λ (ne : place ≢ next.place). shut_placed k place lt others ne) (cases_eq place next.place);
        })

    -- the others leave it open
    kept_legal : is_done next ≡ false → IsLegal (with_actor (with_journals core z o t) number (record { floor = actor.floor; draw = Some next; fixes = Unfixed }))
    kept_legal missing =
        let a : Actor = record { floor = actor.floor; draw = Some next; fixes = Unfixed } in
        becomes_legal (with_journals core z o t) number actor a get (record {
          once = λ k. (grown k).once (legal.once k);
          known = known_placed;
          sixteen = legal.sixteen;
          here = record {
            floor = own.floor;
            draw = λ d e. subst (IsOpen (with_actor (with_journals core z o t) number a)) (same_Some next d e)
                (record { place = place_known; zero = g.has_zero; one = g.has_one; two = g.has_two; missing = missing });
            fixes = tt;
          };
          others = others_placed a;
          apart = legal.apart;
          alone = λ j place d ne h.
              let same : next.place ≡ place = ap (λ (x : Open). x.place) (same_Some next d.0 d.1) ∙ d.2 in
              ne (legal.apart j number place h (subst (λ (x : ℕ). HasOpen core number x) same was_open));
          closed = λ k place lt others none. ⊎_elim
              (λ (e : place ≡ next.place). absurd (none (next, refl, sym e)))
              (λ (ne : place ≢ next.place). shut_placed k place lt others ne) (cases_eq place next.place);
        })

    gained_legal : IsLegal (with_actor (with_journals core z o t) number (with_draw actor next))
    gained_legal =
        let shut_now : Actor = record { floor = max actor.floor (next.place + 1); draw = None; fixes = Unfixed } in
        let still : Actor = record { floor = actor.floor; draw = Some next; fixes = Unfixed } in
        cond_both (is_done next) shut_now still (λ (a : Actor). IsLegal (with_actor (with_journals core z o t) number a)) closed_legal kept_legal

  placed_legal : (k : ℕ) (draw : Open) → actor.draw ≡ Some draw → IsLegal (placed core number actor k draw).0
  placed_legal zero draw was =
      let was_so = own.draw draw was in
      gained_legal draw (placed_at 0 draw) (with_place draw.place core.zero) core.one core.two was refl (record {
        grown_zero = grown_more draw.place core.zero;
        grown_one = grown_same draw.place core.one;
        grown_two = grown_same draw.place core.two;
        has_zero = placed_there draw.place core.zero;
        has_one = was_so.one;
        has_two = was_so.two;
      })
  placed_legal (suc zero) draw was =
      let was_so = own.draw draw was in
      gained_legal draw (placed_at 1 draw) core.zero (with_place draw.place core.one) core.two was refl (record {
        grown_zero = grown_same draw.place core.zero;
        grown_one = grown_more draw.place core.one;
        grown_two = grown_same draw.place core.two;
        has_zero = was_so.zero;
        has_one = placed_there draw.place core.one;
        has_two = was_so.two;
      })
  placed_legal (suc (suc k)) draw was =
      let was_so = own.draw draw was in
      gained_legal draw (placed_at 2 draw) core.zero core.one (with_place draw.place core.two) was refl (record {
        grown_zero = grown_same draw.place core.zero;
        grown_one = grown_same draw.place core.one;
        grown_two = grown_more draw.place core.two;
        has_zero = was_so.zero;
        has_one = was_so.one;
        has_two = placed_there draw.place core.two;
      })

-- ---- an event that has a case

unless_some : {A : Type 0} (b : Bool) (x y : A) → cond b None (Some x) ≡ Some y → (b ≡ false) × (Some x ≡ Some y)
unless_some true x y e = absurd (none-some y e)
unless_some false x y e = (refl, e)

when_some : {A : Type 0} (b : Bool) (o : Option A) (y : A) → cond b o None ≡ Some y → o ≡ Some y
when_some true o y e = e
when_some false o y e = absurd (none-some y e)

none_of : {A : Type 0} (o : Option A) → is_some o ≡ false → o ≡ None
none_of None e = refl
none_of (Some x) e = absurd cc

module _ (capacity : ℕ) (core next : Core) (pair : OpenedPair) (reply : Reply) (legal : IsLegal core) where
  moved : (x : Core × Reply) → Some x ≡ Some (next, reply) → IsLegal x.0 → IsLegal next
  moved x e is = subst IsLegal (ap (λ (p : Core × Reply). p.0) (same_Some x (next, reply) e)) is

  place_legal : (number k : ℕ) (actor : Actor) (draw : Option Open) → slice_get core.actors number ≡ Some actor → actor.draw ≡ draw → place_step core number actor k draw ≡ Some (next, reply) → IsLegal next
  place_legal number k actor None get was e = absurd (none-some {A = Core × Reply} (next, reply) e)
  place_legal number k actor (Some draw) get was e =
      let done = unless_some (is_pending actor.fixes) (placed core number actor k draw) (next, reply) e in
      moved (placed core number actor k draw) done.1 (placed_legal core legal number actor get k draw was)

  answer_legal : (query : Query) (seed : Seed) (fixes : Fixes) → answer_step core fixes query seed pair ≡ Some (next, reply) → IsLegal next
  answer_legal query seed Unfixed e = absurd (none-some {A = Core × Reply} (next, reply) e)
  answer_legal query seed (First p) e = absurd (none-some {A = Core × Reply} (next, reply) e)
  answer_legal query seed (Second p q) e = absurd (none-some {A = Core × Reply} (next, reply) e)
  answer_legal query seed (Agreed n) e = moved (core, answered n query seed pair) e legal

  acts_legal : (event : Event) (o : Option Actor) → slice_get core.actors (actor_of event) ≡ o → acts capacity core event pair o ≡ Some (next, reply) → IsLegal next
  acts_legal event None get e = absurd (none-some {A = Core × Reply} (next, reply) e)
  acts_legal (events.Draw number row seed) (Some actor) get e =
      let did = unless_some (is_some actor.draw || is_pending actor.fixes) (drawn capacity core number actor (row, seed)) (next, reply) e in
      let free : is_some actor.draw ≡ false = (or_parts (is_some actor.draw) (is_pending actor.fixes) did.0).0 in
      moved (drawn capacity core number actor (row, seed)) did.1 (drawn_legal core legal number actor get (row, seed) (none_of actor.draw free) capacity)
  acts_legal (events.Place number k) (Some actor) get e =
      place_legal number k actor actor.draw get refl (when_some (is_server k) (place_step core number actor k actor.draw) (next, reply) e)
  acts_legal (events.Look number k) (Some actor) get e =
      let at_server = when_some (is_server k) (cond (is_pending actor.fixes) None (Some (looked core number actor k))) (next, reply) e in
      let did = unless_some (is_pending actor.fixes) (looked core number actor k) (next, reply) at_server in
      moved (looked core number actor k) did.1 (looked_legal core legal number actor get k)
  acts_legal (events.Fix number) (Some actor) get e = moved (fix_step core number actor actor.fixes) e (fix_legal core legal number actor get actor.fixes refl)
  acts_legal (events.Answer number query seed) (Some actor) get e = answer_legal query seed actor.fixes e

pub legal_stays : LegalStays
legal_stays = (empty_legal, λ capacity core next event pair reply legal e. acts_legal capacity core next pair reply legal event (slice_get core.actors (actor_of event)) refl e)
