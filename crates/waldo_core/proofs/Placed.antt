-- A placing.
use Rattle.std.proofs.Common.{◌≡◌, ◌∙◌, refl, sym, ap, subst, ℕ, zero, suc, ◌<◌, ◌≤◌, Bool, true, false, Option, Some, None, slice_get, List, set, arith}
use Rattle.std.specs.Prelude.{Ok, is_none, nat_lt, if◌then◌else◌}
use Rattle.std.proofs.lemmas.Bool.{le-ltb}
use Rattle.list_facts.specs.Count.{has}
use Rattle.onehot_column.specs.Piece.{HasWidths}
use Rattle.onehot_column.specs.declared.piece.Piece.{Piece}
use Rattle.prefix_log.specs.Logs.{Log, IsOwn, placed as log_placed}
use Rattle.prefix_log.specs.declared.snapshot.Snapshot.{Snapshot}
use Rattle.prg_chacha.specs.declared.seed.Seed.{Seed}
use Rattle.scan_chunks.specs.Shelf.{Held}
use Rattle.server_rounds.specs.declared.opened.OpenedPair.{OpenedPair}
use Rattle.table_schema.specs.declared.rows.Row.{Row}
use Rattle.table_schema.specs.declared.widths.Widths.{Widths}
use Rattle.agreed_rows.specs.Servers.{IsServer, IsShareAt}
use Rattle.waldo_core.specs.Core.{Actor, Core, Open, is_pending, journal_of, with_actor, with_journal}
use Rattle.waldo_core.specs.Held.{AreFirst, CanPlace, HasNone, HoldsShares, IsActorOf, IsMachine, Places, PlacesPiece, Table, core_of, log_of, piece_for, seen_actor, seen_draw, seen_machine, seen_open, with_piece, without}
use Rattle.waldo_core.specs.Legal.{IsOpen}
use Rattle.waldo_core.specs.Machines.{Seen}
use Rattle.waldo_core.specs.Outcomes.{Quietly}
use Rattle.waldo_core.specs.Step.{acts, place_step, step, with_place}
use Rattle.waldo_core.specs.declared.actor.ActorState.{ActorState}
use Rattle.waldo_core.specs.declared.draw.OpenDraw.{OpenDraw}
use Rattle.waldo_core.specs.declared.events.Event.TheVariants as events
use Rattle.waldo_core.specs.declared.events.Reply.{Reply}
use Rattle.waldo_core.specs.declared.events.Reply.TheVariants as replies
use Rattle.waldo_core.specs.declared.logs.Logs.{Logs}
use Rattle.waldo_core.specs.declared.snapshots.Snapshots.{Snapshots}
use Rattle.waldo_core.proofs.Acts.{legal_there, no_case, same_table, seen_set, seen_there, stays}
use Rattle.agreed_rows.proofs.Shares.{server_placed}

-- ---- the actor's part

-- the draw without its piece stands at the same place
pub place_without : (k : ℕ) (draw : OpenDraw) → (without k draw).place ≡ draw.place
place_without zero draw = refl
place_without (suc zero) draw = refl
place_without (suc (suc k)) draw = refl

-- it has no other pieces
piece_without : (j k : ℕ) (draw : OpenDraw) (piece : Piece) → piece_for j (without k draw) ≡ Some piece → piece_for j draw ≡ Some piece
piece_without zero zero draw piece e = absurd cc
piece_without zero (suc zero) draw piece e = e
piece_without zero (suc (suc k)) draw piece e = e
piece_without (suc zero) zero draw piece e = e
piece_without (suc zero) (suc zero) draw piece e = absurd cc
piece_without (suc zero) (suc (suc k)) draw piece e = e
piece_without (suc (suc j)) zero draw piece e = e
piece_without (suc (suc j)) (suc zero) draw piece e = e
piece_without (suc (suc j)) (suc (suc k)) draw piece e = absurd cc

-- where it is no server, fixes are under way or no draw is opened, a placing has no case
pub no_server : (a : Actor) (k : ℕ) → 3 ≤ k → (number : ℕ) → HasNone a (events.Place number k)
no_server a k past number capacity core pair = rw (le-ltb k 3 past) refl

pub no_draw : (a : Actor) (k : ℕ) → a.draw ≡ None → (number : ℕ) → HasNone a (events.Place number k)
no_draw a k none number capacity core pair = by (nat_lt k 3)
  where
    by : (b : Bool) → (if b then place_step core number a k a.draw else None) ≡ None
    by true = rw none refl
    by false = refl

pub not_idle : (a : Actor) (k : ℕ) → is_pending a.fixes ≡ true → (number : ℕ) → HasNone a (events.Place number k)
not_idle a k pending number capacity core pair = by (nat_lt k 3) a.draw
  where
    by : (b : Bool) (draw : Option Open) → (if b then place_step core number a k draw else None) ≡ None
    by true None = refl
    by true (Some draw) = rw pending refl
    by false draw = refl

-- ---- the logs' part

-- a core with the journals of these logs
abbrev core_with : Core → Logs → Core
core_with c logs = record { order = c.order; zero = logs.zero.journal; one = logs.one.journal; two = logs.two.journal; actors = c.actors }

-- a piece comes to a place: the log's journal has the place, at its end where it was not there
journal_placed : (log : Log) (place : ℕ) (piece : Piece) → (log_placed log place piece).journal ≡ with_place place log.journal
journal_placed log place piece = by (has place log.journal) refl
  where
    by : (b : Bool) → has place log.journal ≡ b → (log_placed log place piece).journal ≡ with_place place log.journal
    by true e = rw e refl
    by false e = rw e refl

-- a place that is there is not put there again
with_place_there : (place : ℕ) (journal : List ℕ) → has place journal ≡ true → with_place place journal ≡ journal
with_place_there place journal there = rw there refl

-- the journals after a piece, if there is one, came to a log
core_placed : (c : Core) (logs : Logs) (k place : ℕ) (piece : Option Piece) → (piece ≡ None → has place (journal_of (core_with c logs) k) ≡ true)
    → with_journal (core_with c logs) k (with_place place (journal_of (core_with c logs) k)) ≡ core_with c (with_piece logs k place piece)
core_placed c logs zero place None there = ap (λ (j : List ℕ). record (core_with c logs) { zero = j }) (with_place_there place logs.zero.journal (there refl))
core_placed c logs (suc zero) place None there = ap (λ (j : List ℕ). record (core_with c logs) { one = j }) (with_place_there place logs.one.journal (there refl))
core_placed c logs (suc (suc k)) place None there = ap (λ (j : List ℕ). record (core_with c logs) { two = j }) (with_place_there place logs.two.journal (there refl))
core_placed c logs zero place (Some piece) there = ap (λ (j : List ℕ). record (core_with c logs) { zero = j }) (sym (journal_placed logs.zero place piece))
core_placed c logs (suc zero) place (Some piece) there = ap (λ (j : List ℕ). record (core_with c logs) { one = j }) (sym (journal_placed logs.one place piece))
core_placed c logs (suc (suc k)) place (Some piece) there = ap (λ (j : List ℕ). record (core_with c logs) { two = j }) (sym (journal_placed logs.two place piece))

-- a piece that is gone was placed
was_placed : (core : Core) (k : ℕ) (draw : OpenDraw) → IsOpen core (seen_draw draw) → piece_for k draw ≡ None → has draw.place (journal_of core k) ≡ true
was_placed core zero draw opened none = opened.zero ∙ ap is_none none
was_placed core (suc zero) draw opened none = opened.one ∙ ap is_none none
was_placed core (suc (suc k)) draw opened none = opened.two ∙ ap is_none none

-- the logs have pieces of the order alone
servers_after : (w : Widths) (most : ℕ) (order : List (Row × Seed)) (logs : Logs) (k place : ℕ) (piece : Option Piece)
    → ((j : ℕ) → j < 3 → IsServer j w most order (log_of logs j)) → k < 3 → place < most → ((p : Piece) → piece ≡ Some p → IsShareAt w k order place p)
    → (j : ℕ) → j < 3 → IsServer j w most order (log_of (with_piece logs k place piece) j)
servers_after w most order logs k place None servers lt room share j b = servers j b
servers_after w most order logs zero place (Some p) servers lt room share zero b = server_placed 0 w most order logs.zero place p (servers 0 b) (omega (arith, (servers 0 b).capacity)) (share p refl)
servers_after w most order logs zero place (Some p) servers lt room share (suc zero) b = servers 1 b
servers_after w most order logs zero place (Some p) servers lt room share (suc (suc zero)) b = servers 2 b
servers_after w most order logs zero place (Some p) servers lt room share (suc (suc (suc j))) b = absurd (omega arith)
servers_after w most order logs (suc zero) place (Some p) servers lt room share zero b = servers 0 b
servers_after w most order logs (suc zero) place (Some p) servers lt room share (suc zero) b = server_placed 1 w most order logs.one place p (servers 1 b) (omega (arith, (servers 1 b).capacity)) (share p refl)
servers_after w most order logs (suc zero) place (Some p) servers lt room share (suc (suc zero)) b = servers 2 b
servers_after w most order logs (suc zero) place (Some p) servers lt room share (suc (suc (suc j))) b = absurd (omega arith)
servers_after w most order logs (suc (suc zero)) place (Some p) servers lt room share zero b = servers 0 b
servers_after w most order logs (suc (suc zero)) place (Some p) servers lt room share (suc zero) b = servers 1 b
servers_after w most order logs (suc (suc zero)) place (Some p) servers lt room share (suc (suc zero)) b = server_placed 2 w most order logs.two place p (servers 2 b) (omega (arith, (servers 2 b).capacity)) (share p refl)
servers_after w most order logs (suc (suc zero)) place (Some p) servers lt room share (suc (suc (suc j))) b = absurd (omega arith)
servers_after w most order logs (suc (suc (suc k))) place (Some p) servers lt room share j b = absurd (omega arith)

-- ---- the machine

own_of : (k : ℕ) (w : Widths) (most : ℕ) (order : List (Row × Seed)) (log : Log) (place : ℕ) (piece : Piece)
    → IsServer k w most order log → IsShareAt w k order place piece → IsOwn log.server log.widths piece
own_of k w most order log place piece s share = record {
  server = share.share.server ∙ sym s.number;
  widths = subst (λ (v : Widths). HasWidths v piece) (sym s.widths) share.wide;
}

-- the pieces of an actor's opened draw can be put at a server
pub can_place : (held : Snapshot → Held) (space : ℕ) (t : Table) (i k : ℕ) (a : ActorState) → IsMachine held space t → slice_get t.actors i ≡ Some a → CanPlace k t.logs a
can_place held space t i k a ok here = record {
  room = λ draw is. omega (arith, (opened draw is).place, ok.few, most k);
  small = λ draw is. omega (arith, (opened draw is).place, ok.few, ok.fits.1);
  own = own k;
}
  where
    opened : (draw : OpenDraw) → a.draw ≡ Some draw → IsOpen (core_of held t) (seen_draw draw)
    opened draw is = (legal_there held space t i a ok here).draw (seen_draw draw) (ap seen_open is)

    shares : (draw : OpenDraw) → a.draw ≡ Some draw → HoldsShares t.widths t.order draw
    shares = (ok.actors i a here).draw

    most : (n : ℕ) → (log_of t.logs n).capacity ≡ t.capacity
    most zero = (ok.servers 0 (omega arith)).capacity
    most (suc zero) = (ok.servers 1 (omega arith)).capacity
    most (suc (suc n)) = (ok.servers 2 (omega arith)).capacity

    own : (n : ℕ) (draw : OpenDraw) (piece : Piece) → a.draw ≡ Some draw → piece_for n draw ≡ Some piece → IsOwn (log_of t.logs n).server (log_of t.logs n).widths piece
    own zero draw piece is has = own_of 0 t.widths t.capacity t.order t.logs.zero draw.place piece (ok.servers 0 (omega arith)) (shares draw is 0 piece (omega arith) has)
    own (suc zero) draw piece is has = own_of 1 t.widths t.capacity t.order t.logs.one draw.place piece (ok.servers 1 (omega arith)) (shares draw is 1 piece (omega arith) has)
    own (suc (suc n)) draw piece is has = own_of 2 t.widths t.capacity t.order t.logs.two draw.place piece (ok.servers 2 (omega arith)) (shares draw is 2 piece (omega arith) has)

module _ (held : Snapshot → Held) (space : ℕ) (t : Table) (i k : ℕ) (a b : ActorState) (after : Logs) (ok : IsMachine held space t) (here : slice_get t.actors i ≡ Some a) where
  -- the machine afterwards
  abbrev pub next : Table
  next = record t { logs = after; actors = set t.actors i b }

  module _ (p : PlacesPiece held k t.logs a after b) where
    open_there : IsOpen (core_of held t) (seen_draw p.draw)
    open_there = (legal_there held space t i a ok here).draw (seen_draw p.draw) (ap seen_open p.was)

    shares_there : HoldsShares t.widths t.order p.draw
    shares_there = (ok.actors i a here).draw p.draw p.was

    core_next : with_actor (with_journal (core_of held t) k (with_place p.draw.place (journal_of (core_of held t) k))) i (seen_actor held b) ≡ core_of held next
    core_next =
        ap (λ (c : Core). with_actor c i (seen_actor held b))
        (core_placed (core_of held t) t.logs k p.draw.place (piece_for k p.draw) (was_placed (core_of held t) k p.draw open_there)
        ∙ ap (core_with (core_of held t)) (sym p.logs))
        ∙ ap (λ (actors : List Actor). record (core_with (core_of held t) after) { actors = actors }) (sym (seen_set held t i b))

    pub steps : (pair : OpenedPair) → step t.capacity (core_of held t) (events.Place i k) pair ≡ Some (core_of held next, replies.Placed)
    steps pair =
        ap (acts t.capacity (core_of held t) (events.Place i k) pair) (seen_there held t i a here)
        ∙ p.does t.capacity i (core_of held t) pair ∙ ap (λ (c : Core). Some (c, replies.Placed)) core_next

    actor_next : IsActorOf held t.widths t.order b
    actor_next = record {
      draw = λ d is j piece lt has.
          let same = p.rest d is in
          let was : piece_for j p.draw ≡ Some piece = piece_without j k p.draw piece (sym (ap (piece_for j) same) ∙ has) in
          subst (λ (place : ℕ). IsShareAt t.widths j t.order place piece) (sym (ap (λ (e : OpenDraw). e.place) same ∙ place_without k p.draw)) (shares_there j piece lt was);
      first = subst (λ (s : Snapshots). AreFirst held t.widths t.order s) (sym p.unfixed) tt;
    }

    pub kept : IsMachine held space next
    kept =
        stays held space t i after b (events.Place i k) (record { total = 0; weighted = 0 }) replies.Placed ok
        (subst (λ (l : Logs). (j : ℕ) → j < 3 → IsServer j t.widths t.capacity t.order (log_of l j)) (sym p.logs)
        (servers_after t.widths t.capacity t.order t.logs k p.draw.place (piece_for k p.draw) ok.servers p.server (omega (arith, open_there.place, ok.few)) (λ piece has. shares_there k piece p.server has)))
        actor_next (steps (record { total = 0; weighted = 0 }))

  pub placed_kept : (reply : Option Reply) → Places held k t.logs a after b reply → IsMachine held space next
  placed_kept None p = subst (λ (x : Table). IsMachine held space x) (sym (same_table t i after a b here p.1 p.2)) ok
  placed_kept (Some reply) p = kept p.0

  pub placed_done : (old : Seen) (reply : Option Reply) → seen_machine held t ≡ old → Places held k t.logs a after b reply → Quietly old (events.Place i k) (seen_machine held next) (Ok reply)
  placed_done old reply view p = subst (λ (v : Seen). Quietly v (events.Place i k) (seen_machine held next) (Ok reply)) view (by reply p)
    where
      by : (r : Option Reply) → Places held k t.logs a after b r → Quietly (seen_machine held t) (events.Place i k) (seen_machine held next) (Ok r)
      by None q pair = (refl, refl, no_case held t (events.Place i k) a (q.0 i) here, ap (seen_machine held) (same_table t i after a b here q.1 q.2))
      by (Some r) q pair = (tt, refl, steps q.0 pair ∙ ap (λ (x : Reply). Some (core_of held next, x)) (sym q.1), refl)
