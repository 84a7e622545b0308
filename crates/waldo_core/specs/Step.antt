-- What each event does to the core, and its reply.
use Rattle.std.specs.Prelude.{ℕ, ℤ, zero, suc, ◌+◌, ◌&&◌, ◌||◌, Bool, true, false, if◌then◌else◌, nat_lt, is_some, ⊤, Option, Some, None}
use Rattle.std.specs.Prelude.{Result, Ok, Err, List, [], ◌∷◌, ◌++◌, length, slice_get, min, max}
use Rattle.list_facts.specs.Count.{has}
use Rattle.prg_chacha.specs.declared.seed.Seed.{Seed}
use Rattle.query_plan.specs.Query.{Suits}
use Rattle.query_plan.specs.declared.query.Query.{Query}
use Rattle.server_rounds.specs.declared.opened.OpenedPair.{OpenedPair}
use Rattle.table_schema.specs.declared.rows.Row.{Row}
use Rattle.table_schema.specs.declared.widths.Widths.{Widths}
use Rattle.weighted_check.specs.declared.Altered.{Altered as Refused}
use Rattle.agreed_rows.specs.Answers.{judged}
use Rattle.waldo_core.specs.Core.{Actor, Core, Fixes, Open, is_pending, journal_of, prefix, with_actor, with_journal}
use Rattle.waldo_core.specs.Core.Fixes.{Unfixed, First, Second, Agreed}
use Rattle.waldo_core.specs.declared.events.Event.{Event}
use Rattle.waldo_core.specs.declared.events.Event.TheVariants as events
use Rattle.waldo_core.specs.declared.events.Reply.{Reply}
use Rattle.waldo_core.specs.declared.events.Reply.TheVariants as replies

-- a draw: the entry stands at the order's end, and the draw is open
abbrev pub drawn : ℕ → Core → ℕ → Actor → Row × Seed → Core × Reply
drawn capacity core number actor entry =
    let place = length core.order in
    let draw : Open = record { place = place; zero = false; one = false; two = false } in
    if nat_lt place capacity
    then (
      with_actor (record core { order = core.order ++ entry ∷ [] }) number
          (record actor { draw = Some draw; fixes = Unfixed }),
      replies.Drew place,
    )
    else (core, replies.Full capacity)

-- a place at the journal's end, unless it is there
abbrev pub with_place : ℕ → List ℕ → List ℕ
with_place place journal = if has place journal then journal else journal ++ place ∷ []

-- the draw once its piece was placed at server k
abbrev pub placed_at : ℕ → Open → Open
placed_at zero draw = record draw { zero = true }
placed_at (suc zero) draw = record draw { one = true }
placed_at (suc (suc k)) draw = record draw { two = true }

-- placed at all three servers
abbrev pub is_done : Open → Bool
is_done draw = draw.zero && draw.one && draw.two

-- the actor once a piece of its draw was placed; with the third one the draw is closed, and the floor rises above its place
abbrev pub with_draw : Actor → Open → Actor
with_draw actor draw =
    if is_done draw then record { floor = max actor.floor (draw.place + 1); draw = None; fixes = Unfixed }
    else record { floor = actor.floor; draw = Some draw; fixes = Unfixed }

-- a placing at server k
abbrev pub placed : Core → ℕ → Actor → ℕ → Open → Core × Reply
placed core number actor k draw = (
  with_actor (with_journal core k (with_place draw.place (journal_of core k))) number
      (with_draw actor (placed_at k draw)),
  replies.Placed,
)

-- a look at server k: the floor rises to what is found there
abbrev pub looked : Core → ℕ → Actor → ℕ → Core × Reply
looked core number actor k =
    let found = prefix (journal_of core k) in
    (with_actor core number (record { floor = max actor.floor found; draw = actor.draw; fixes = Unfixed }), replies.Looked found)

-- a fix at server k that found this prefix: it is kept, or the actor's fixes are dropped where the prefix is below the floor
abbrev pub fixed : Core → ℕ → Actor → ℕ → ℕ → Fixes → Core × Reply
fixed core number actor k found kept =
    if nat_lt found actor.floor
    then (with_actor core number (record actor { fixes = Unfixed }), replies.Again k found actor.floor)
    else (with_actor core number (record actor { fixes = kept }), replies.Fixed found)

-- the third fix, which found this prefix: the actor agrees on the least of the three, which is its new floor
abbrev pub agreed : Core → ℕ → Actor → ℕ → ℕ → ℕ → Core × Reply
agreed core number actor first second found =
    let rows = min (min first second) found in
    if nat_lt found actor.floor
    then (with_actor core number (record actor { fixes = Unfixed }), replies.Again 2 found actor.floor)
    else (with_actor core number (record { floor = rows; draw = actor.draw; fixes = Agreed rows }), replies.Agreed rows)

-- a fix, at the server after those where the actor's fixes were
abbrev pub fix_step : Core → ℕ → Actor → Fixes → Core × Reply
fix_step core number actor Unfixed = let found = prefix core.zero in fixed core number actor 0 found (First found)
fix_step core number actor (Agreed n) = let found = prefix core.zero in fixed core number actor 0 found (First found)
fix_step core number actor (First p) = let found = prefix core.one in fixed core number actor 1 found (Second p found)
fix_step core number actor (Second p q) = agreed core number actor p q (prefix core.two)

-- what the client answers over n rows: the total where the check accepts the pair, else the pair
abbrev pub reply_of : ℕ → Result ℤ Refused → Reply
reply_of n (Ok total) = replies.Answered n total
reply_of n (Err pair) = replies.Altered n pair.total pair.weighted

abbrev pub answered : ℕ → Query → Seed → OpenedPair → Reply
answered n query seed pair = reply_of n (judged query seed pair)

abbrev pub answer_step : Core → Fixes → Query → Seed → OpenedPair → Option (Core × Reply)
answer_step core Unfixed query seed pair = None
answer_step core (First p) query seed pair = None
answer_step core (Second p q) query seed pair = None
answer_step core (Agreed n) query seed pair = Some (core, answered n query seed pair)

abbrev pub place_step : Core → ℕ → Actor → ℕ → Option Open → Option (Core × Reply)
place_step core number actor k None = None
place_step core number actor k (Some draw) = if is_pending actor.fixes then None else Some (placed core number actor k draw)

-- one of the servers
abbrev pub is_server : ℕ → Bool
is_server k = nat_lt k 3

-- an event of an actor: what it does and its reply, where it has a case
abbrev pub acts : ℕ → Core → Event → OpenedPair → Option Actor → Option (Core × Reply)
acts capacity core event pair None = None
acts capacity core (events.Draw number row seed) pair (Some actor) =
    if is_some actor.draw || is_pending actor.fixes then None else Some (drawn capacity core number actor (row, seed))
acts capacity core (events.Place number k) pair (Some actor) = if is_server k then place_step core number actor k actor.draw else None
acts capacity core (events.Look number k) pair (Some actor) =
    if is_server k then (if is_pending actor.fixes then None else Some (looked core number actor k)) else None
acts capacity core (events.Fix number) pair (Some actor) = Some (fix_step core number actor actor.fixes)
acts capacity core (events.Answer number query seed) pair (Some actor) = answer_step core actor.fixes query seed pair

-- whose event it is
abbrev pub actor_of : Event → ℕ
actor_of (events.Draw number row seed) = number
actor_of (events.Place number k) = number
actor_of (events.Look number k) = number
actor_of (events.Fix number) = number
actor_of (events.Answer number query seed) = number

-- what an event does and its reply, where it has a case and its query, if any, is legal; for an answer with the pair that its
-- query opened
abbrev pub step : ℕ → Core → Event → OpenedPair → Option (Core × Reply)
step capacity core event pair = acts capacity core event pair (slice_get core.actors (actor_of event))

-- the query of an event is legal over the widths
abbrev pub Suited : Widths → Event → Type 0
Suited w (events.Draw number row seed) = ⊤
Suited w (events.Place number k) = ⊤
Suited w (events.Look number k) = ⊤
Suited w (events.Fix number) = ⊤
Suited w (events.Answer number query seed) = Suits w.columns w.bits query

-- the check refused what was opened
abbrev pub is_altered : Reply → Bool
is_altered (replies.Altered rows total weighted) = true
is_altered reply = false
