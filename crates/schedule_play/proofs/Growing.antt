-- The order grows by one with each row that is drawn.
use Rattle.std.proofs.Common.{◌≡◌, ◌∙◌, refl, subst, ℕ, ℤ, zero, suc, ◌+◌, Bool, true, false, cond, nat_lt, is_some, ◌||◌, min, List, [], ◌∷◌, ◌++◌, length, Option, Some, None, Result, Ok, Err, arith}
use Rattle.std.proofs.lemmas.List.{length_push}
use Rattle.std.proofs.lemmas.Option.{same_Some}
use Rattle.prg_chacha.specs.declared.seed.Seed.{Seed}
use Rattle.query_plan.specs.declared.query.Query.{Query}
use Rattle.server_rounds.specs.declared.opened.OpenedPair.{OpenedPair}
use Rattle.table_schema.specs.declared.rows.Row.{Row}
use Rattle.weighted_check.specs.declared.Altered.{Altered as Refused}
use Rattle.waldo_core.specs.Core.{Actor, Core, Fixes, Open, is_pending, journal_of, prefix, with_actor, with_journal}
use Rattle.waldo_core.specs.Core.Fixes.{Unfixed, First, Second, Agreed}
use Rattle.waldo_core.specs.Step.{acts, agreed, answer_step, drawn, fix_step, fixed, is_server, looked, place_step, placed, reply_of, with_place}
use Rattle.waldo_core.specs.declared.events.Event.{Event}
use Rattle.waldo_core.specs.declared.events.Event.TheVariants as events
use Rattle.waldo_core.specs.declared.events.Reply.{Reply}
use Rattle.waldo_core.specs.declared.events.Reply.TheVariants as replies
use Rattle.schedule_play.specs.Ready.{is_drawn}

-- the order is as long as it was, and longer by one where a row was drawn
abbrev Grows : Core → Core × Reply → Type 0
Grows core done = length done.0.order ≡ length core.order + cond (is_drawn done.1) 1 0

unless : {A : Type 0} (b : Bool) (x y : A) → cond b None (Some x) ≡ Some y → x ≡ y
unless true x y e = cc
unless false x y e = same_Some x y e

when : {A : Type 0} (b : Bool) (o : Option A) (y : A) → cond b o None ≡ Some y → o ≡ Some y
when true o y e = e
when false o y e = cc

same_order : (core : Core) (k : ℕ) (journal : List ℕ) → length (with_journal core k journal).order ≡ length core.order
same_order core zero journal = refl
same_order core (suc zero) journal = refl
same_order core (suc (suc k)) journal = refl

plus_none : (n : ℕ) → n ≡ n + 0
plus_none n = omega arith

drawn_grows : (capacity : ℕ) (core : Core) (number : ℕ) (actor : Actor) (entry : Row × Seed) → Grows core (drawn capacity core number actor entry)
drawn_grows capacity core number actor entry =
    let place = length core.order in
    let draw : Open = record { place = place; zero = false; one = false; two = false } in
    let done : Core × Reply = (with_actor (record core { order = core.order ++ entry ∷ [] }) number (record actor { draw = Some draw; fixes = Unfixed }), replies.Drew place) in
    let full : Core × Reply = (core, replies.Full capacity) in
    elim (nat_lt place capacity) as (λ b. Grows core (cond b done full)) [ true ↦ length_push core.order entry | false ↦ plus_none (length core.order) ]

placed_grows : (core : Core) (number : ℕ) (actor : Actor) (k : ℕ) (draw : Open) → Grows core (placed core number actor k draw)
placed_grows core number actor k draw = same_order core k (with_place draw.place (journal_of core k)) ∙ plus_none (length core.order)

fixed_grows : (core : Core) (number : ℕ) (actor : Actor) (k found : ℕ) (kept : Fixes) → Grows core (fixed core number actor k found kept)
fixed_grows core number actor k found kept =
    let again : Core × Reply = (with_actor core number (record actor { fixes = Unfixed }), replies.Again k found actor.floor) in
    let done : Core × Reply = (with_actor core number (record actor { fixes = kept }), replies.Fixed found) in
    elim (nat_lt found actor.floor) as (λ b. Grows core (cond b again done)) [ true ↦ plus_none (length core.order) | false ↦ plus_none (length core.order) ]

agreed_grows : (core : Core) (number : ℕ) (actor : Actor) (first second found : ℕ) → Grows core (agreed core number actor first second found)
agreed_grows core number actor first second found =
    let rows = min (min first second) found in
    let again : Core × Reply = (with_actor core number (record actor { fixes = Unfixed }), replies.Again 2 found actor.floor) in
    let done : Core × Reply = (with_actor core number (record { floor = rows; draw = actor.draw; fixes = Agreed rows }), replies.Agreed rows) in
    elim (nat_lt found actor.floor) as (λ b. Grows core (cond b again done)) [ true ↦ plus_none (length core.order) | false ↦ plus_none (length core.order) ]

fix_grows : (core : Core) (number : ℕ) (actor : Actor) (fixes : Fixes) → Grows core (fix_step core number actor fixes)
fix_grows core number actor Unfixed = fixed_grows core number actor 0 (prefix core.zero) (First (prefix core.zero))
fix_grows core number actor (Agreed n) = fixed_grows core number actor 0 (prefix core.zero) (First (prefix core.zero))
fix_grows core number actor (First p) = fixed_grows core number actor 1 (prefix core.one) (Second p (prefix core.one))
fix_grows core number actor (Second p q) = agreed_grows core number actor p q (prefix core.two)

answered_grows : (core : Core) (n : ℕ) (r : Result ℤ Refused) → Grows core (core, reply_of n r)
answered_grows core n (Ok total) = plus_none (length core.order)
answered_grows core n (Err pair) = plus_none (length core.order)

answer_grows : (core : Core) (fixes : Fixes) (query : Query) (seed : Seed) (pair : OpenedPair) (done : Core × Reply) → answer_step core fixes query seed pair ≡ Some done → Grows core done
answer_grows core Unfixed query seed pair done e = cc
answer_grows core (First p) query seed pair done e = cc
answer_grows core (Second p q) query seed pair done e = cc
answer_grows core (Agreed n) query seed pair done e = subst (Grows core) (same_Some _ _ e) (answered_grows core n _)

place_grows : (core : Core) (number : ℕ) (actor : Actor) (k : ℕ) (o : Option Open) (done : Core × Reply) → place_step core number actor k o ≡ Some done → Grows core done
place_grows core number actor k None done e = cc
place_grows core number actor k (Some draw) done e = subst (Grows core) (unless (is_pending actor.fixes) (placed core number actor k draw) done e) (placed_grows core number actor k draw)

acts_grow : (capacity : ℕ) (core : Core) (event : Event) (pair : OpenedPair) (o : Option Actor) (done : Core × Reply) → acts capacity core event pair o ≡ Some done → Grows core done
acts_grow capacity core event pair None done e = cc
acts_grow capacity core (events.Draw number row seed) pair (Some actor) done e =
    subst (Grows core) (unless (is_some actor.draw || is_pending actor.fixes) (drawn capacity core number actor (row, seed)) done e) (drawn_grows capacity core number actor (row, seed))
acts_grow capacity core (events.Place number k) pair (Some actor) done e =
    place_grows core number actor k actor.draw done (when (is_server k) (place_step core number actor k actor.draw) done e)
acts_grow capacity core (events.Look number k) pair (Some actor) done e =
    let inside : cond (is_pending actor.fixes) None (Some (looked core number actor k)) ≡ Some done =
    when (is_server k) (cond (is_pending actor.fixes) None (Some (looked core number actor k))) done e in
    subst (Grows core) (unless (is_pending actor.fixes) (looked core number actor k) done inside) (plus_none (length core.order))
acts_grow capacity core (events.Fix number) pair (Some actor) done e = subst (Grows core) (same_Some _ _ e) (fix_grows core number actor actor.fixes)
acts_grow capacity core (events.Answer number query seed) pair (Some actor) done e = answer_grows core actor.fixes query seed pair done e

-- the number of rows that were drawn, after a step
pub order_grows : (capacity : ℕ) (core next : Core) (event : Event) (pair : OpenedPair) (o : Option Actor) (reply : Reply) → acts capacity core event pair o ≡ Some (next, reply)
    → length next.order ≡ length core.order + cond (is_drawn reply) 1 0
order_grows capacity core next event pair o reply e = acts_grow capacity core event pair o (next, reply) e
