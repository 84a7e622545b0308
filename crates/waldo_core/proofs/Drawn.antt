-- A draw.
use Rattle.std.proofs.Common.{◌≡◌, ◌∙◌, refl, sym, ap, subst, ℕ, zero, suc, ◌<◌, ◌≤◌, ⊎_elim, Bool, true, false, Some, None, slice_get, List, [], ◌∷◌, ◌++◌, length, set, map, arith}
use Rattle.std.specs.Prelude.{Ok, is_some, not, ◌||◌, if◌then◌else◌}
use Rattle.std.proofs.lemmas.Bool.{le-ltb, lt-ltb}
use Rattle.std.proofs.lemmas.List.{length-append}
use Rattle.std.proofs.lemmas.List.Elements.{All-push}
use Rattle.std.proofs.lemmas.Option.{same_Some}
use Rattle.onehot_column.specs.Piece.{HasWidths, IsPiece}
use Rattle.onehot_column.specs.declared.piece.Piece.{Piece}
use Rattle.prefix_log.specs.declared.snapshot.Snapshot.{Snapshot}
use Rattle.prg_chacha.specs.declared.seed.Seed.{Seed}
use Rattle.scan_chunks.specs.Shelf.{Held}
use Rattle.server_rounds.specs.declared.opened.OpenedPair.{OpenedPair}
use Rattle.table_schema.specs.Widths.{Holds}
use Rattle.table_schema.specs.declared.rows.Row.{Row}
use Rattle.table_schema.specs.declared.widths.Widths.{Widths}
use Rattle.agreed_rows.specs.Servers.{IsShareAt}
use Rattle.agreed_rows.proofs.Shares.{server_grows}
use Rattle.waldo_core.specs.Core.{Actor, Core, is_pending}
use Rattle.waldo_core.specs.Core.Fixes.{Unfixed}
use Rattle.waldo_core.specs.Held.{HoldsShares, IsActorOf, IsMachine, Table, core_of, log_of, piece_for, seen_actor, seen_machine}
use Rattle.waldo_core.specs.Machines.{Seen, Stepped}
use Rattle.waldo_core.specs.Outcomes.{Quietly}
use Rattle.waldo_core.specs.Step.{acts, drawn, step}
use Rattle.waldo_core.specs.declared.actor.ActorState.{ActorState}
use Rattle.waldo_core.specs.declared.draw.OpenDraw.{OpenDraw}
use Rattle.waldo_core.specs.declared.events.Event.TheVariants as events
use Rattle.waldo_core.specs.declared.events.Reply.TheVariants as replies
use Rattle.waldo_core.specs.declared.snapshots.Snapshots.TheVariants as found
use Rattle.waldo_core.proofs.Acts.{seen_set, seen_there}
use Rattle.waldo_core.proofs.Elements.{slice_get-set, slice_get_last}
use Rattle.waldo_core.proofs.Shares.{actor_grows, begins}
use Rattle.waldo_core.proofs.Stays.{legal_stays}

-- an actor that may draw draws
does_draw : (a : Actor) (row : Row) (seed : Seed) → not (is_some a.draw || is_pending a.fixes) ≡ true → (capacity number : ℕ) (core : Core) (pair : OpenedPair)
    → acts capacity core (events.Draw number row seed) pair (Some a) ≡ Some (drawn capacity core number a (row, seed))
does_draw a row seed free capacity number core pair = by (is_some a.draw || is_pending a.fixes) free
  where
    by : (b : Bool) → not b ≡ true → (if b then None else Some (drawn capacity core number a (row, seed))) ≡ Some (drawn capacity core number a (row, seed))
    by true e = absurd cc
    by false e = refl

-- the three pieces of a row at a place
pub record HasPieces (w : Widths) (row : Row) (seed : Seed) (draw : OpenDraw) : Type 0 where
  pub zero : Piece
  pub one : Piece
  pub two : Piece
  pub at0 : draw.zero ≡ Some zero
  pub at1 : draw.one ≡ Some one
  pub at2 : draw.two ≡ Some two
  pub piece0 : IsPiece w row seed 0 zero
  pub piece1 : IsPiece w row seed 1 one
  pub piece2 : IsPiece w row seed 2 two
  pub wide0 : HasWidths w zero
  pub wide1 : HasWidths w one
  pub wide2 : HasWidths w two

-- they are shares of the new entry
new_shares : (w : Widths) (order : List (Row × Seed)) (row : Row) (seed : Seed) (draw : OpenDraw) → draw.place ≡ length order → Holds w row → HasPieces w row seed draw → HoldsShares w (order ++ (row, seed) ∷ []) draw
new_shares w order row seed draw place holds has k piece lt e = by k lt e
  where
    there : slice_get (order ++ (row, seed) ∷ []) draw.place ≡ Some (row, seed)
    there = ap (slice_get (order ++ (row, seed) ∷ [])) place ∙ slice_get_last order (row, seed)

    by : (n : ℕ) → n < 3 → piece_for n draw ≡ Some piece → IsShareAt w n (order ++ (row, seed) ∷ []) draw.place piece
    by zero b is = let same : has.zero ≡ piece = same_Some has.zero piece (sym has.at0 ∙ is) in
        record { entry = (row, seed); there = there; held = holds; share = subst (λ (p : Piece). IsPiece w row seed 0 p) same has.piece0; wide = subst (λ (p : Piece). HasWidths w p) same has.wide0 }
    by (suc zero) b is = let same : has.one ≡ piece = same_Some has.one piece (sym has.at1 ∙ is) in
        record { entry = (row, seed); there = there; held = holds; share = subst (λ (p : Piece). IsPiece w row seed 1 p) same has.piece1; wide = subst (λ (p : Piece). HasWidths w p) same has.wide1 }
    by (suc (suc zero)) b is = let same : has.two ≡ piece = same_Some has.two piece (sym has.at2 ∙ is) in
        record { entry = (row, seed); there = there; held = holds; share = subst (λ (p : Piece). IsPiece w row seed 2 p) same has.piece2; wide = subst (λ (p : Piece). HasWidths w p) same has.wide2 }
    by (suc (suc (suc n))) b is = absurd (omega arith)

module _ (held : Snapshot → Held) (space : ℕ) (t : Table) (i : ℕ) (row : Row) (seed : Seed) (a : ActorState) (here : slice_get t.actors i ≡ Some a)
    (free : not (is_some (seen_actor held a).draw || is_pending (seen_actor held a).fixes) ≡ true) where
  -- where the order takes no more, nothing is drawn
  pub full_done : (ok : IsMachine held space t) (order : List (Row × Seed)) (old : Seen) → order ≡ t.order → space ≤ length t.order → seen_machine held t ≡ old
      → Quietly old (events.Draw i row seed) (seen_machine held (record t { order = order })) (Ok (Some (replies.Full t.capacity)))
  full_done ok order old same full view pair =
      let all : t.capacity ≤ length t.order = omega (arith, ok.room, full) in
      let said : step t.capacity (core_of held t) (events.Draw i row seed) pair ≡ Some (core_of held t, replies.Full t.capacity) =
      ap (acts t.capacity (core_of held t) (events.Draw i row seed) pair) (seen_there held t i a here)
      ∙ does_draw (seen_actor held a) row seed free t.capacity i (core_of held t) pair
      ∙ rw (le-ltb (length t.order) t.capacity all) refl in
      subst (λ (v : Seen). Stepped v (events.Draw i row seed) [] pair (seen_machine held (record t { order = order })) (Ok (replies.Full t.capacity))) view
      (subst (λ (o : List (Row × Seed)). Stepped (seen_machine held t) (events.Draw i row seed) [] pair (seen_machine held (record t { order = o })) (Ok (replies.Full t.capacity)))
      (sym same) (tt, refl, said, refl))

  module _ (ok : IsMachine held space t) (draw : OpenDraw) (left : length t.order < t.capacity) (place : draw.place ≡ length t.order) (holds : Holds t.widths row)
      (has : HasPieces t.widths row seed draw) where
    abbrev pub b : ActorState
    b = record { floor = a.floor; draw = Some draw; snapshots = found.Unfixed }

    abbrev pub next : Table
    next = record t { order = t.order ++ (row, seed) ∷ []; actors = set t.actors i b }

    -- the new actor as the core sees it
    seen_b : seen_actor held b ≡ record (seen_actor held a) { draw = Some (record { place = length t.order; zero = false; one = false; two = false }); fixes = Unfixed }
    seen_b = rw (place, has.at0, has.at1, has.at2) refl

    drawn_is : Some (drawn t.capacity (core_of held t) i (seen_actor held a) (row, seed)) ≡ Some (core_of held next, replies.Drew (length t.order))
    drawn_is =
        rw (lt-ltb (length t.order) t.capacity left)
        (ap (λ (actors : List Actor). Some (record (core_of held t) { order = t.order ++ (row, seed) ∷ []; actors = actors }, replies.Drew (length t.order)))
        (ap (set (map (seen_actor held) t.actors) i) (sym seen_b) ∙ sym (seen_set held t i b)))

    steps : (pair : OpenedPair) → step t.capacity (core_of held t) (events.Draw i row seed) pair ≡ Some (core_of held next, replies.Drew (length t.order))
    steps pair =
        ap (acts t.capacity (core_of held t) (events.Draw i row seed) pair) (seen_there held t i a here)
        ∙ does_draw (seen_actor held a) row seed free t.capacity i (core_of held t) pair
        ∙ drawn_is

    pub drawn_kept : IsMachine held space next
    drawn_kept = record {
      fits = ok.fits;
      few = omega (arith, length-append t.order ((row, seed) ∷ []));
      room = ok.room;
      some = ok.some;
      most = ok.most;
      rows = All-push (λ (entry : Row × Seed). Holds t.widths entry.0) t.order (row, seed) ok.rows holds;
      servers = λ k lt. server_grows k t.widths t.capacity t.order (t.order ++ (row, seed) ∷ []) (log_of t.logs k) (begins t.order (row, seed)) (ok.servers k lt);
      actors = λ j x is. ⊎_elim (λ (same : x ≡ b). subst (λ (y : ActorState). IsActorOf held t.widths (t.order ++ (row, seed) ∷ []) y) (sym same) (record {
        draw = λ d e. subst (λ (y : OpenDraw). HoldsShares t.widths (t.order ++ (row, seed) ∷ []) y) (same_Some draw d e) (new_shares t.widths t.order row seed draw place holds has);
        first = tt;
      }))
          (λ (old : slice_get t.actors j ≡ Some x). actor_grows held t.widths t.order (row, seed) x (ok.actors j x old)) (slice_get-set t.actors i b j x is);
      legal = legal_stays.1 t.capacity (core_of held t) _ (events.Draw i row seed) (record { total = 0; weighted = 0 }) (replies.Drew (length t.order)) ok.legal (steps (record { total = 0; weighted = 0 }));
    }

  -- the machine as the code leaves it
  module _ (ok : IsMachine held space t) (draw : OpenDraw) (left : length t.order < t.capacity) (place : draw.place ≡ length t.order) (holds : Holds t.widths row)
      (has : HasPieces t.widths row seed draw) (order : List (Row × Seed)) (later : ℕ) (actor : ActorState) (pushed : order ≡ t.order ++ (row, seed) ∷ []) (room : later ≡ space)
      (again : ActorState) (same : again ≡ a) (begun : actor ≡ record { floor = again.floor; draw = Some draw; snapshots = found.Unfixed }) where
    abbrev pub after : Table
    after = record t { order = order; actors = set t.actors i actor }

    is_next : after ≡ next ok draw left place holds has
    is_next =
        ap (λ (o : List (Row × Seed)). record t { order = o; actors = set t.actors i actor }) pushed
        ∙ ap (λ (x : ActorState). record t { order = t.order ++ (row, seed) ∷ []; actors = set t.actors i x })
        (begun ∙ ap (λ (x : ActorState). record { floor = x.floor; draw = Some draw; snapshots = found.Unfixed }) same)

    pub kept_after : IsMachine held later after
    kept_after = subst (λ (n : ℕ). IsMachine held n after) (sym room) (subst (λ (x : Table). IsMachine held space x) (sym is_next) (drawn_kept ok draw left place holds has))

    pub done_after : (old : Seen) → seen_machine held t ≡ old → Quietly old (events.Draw i row seed) (seen_machine held after) (Ok (Some (replies.Drew draw.place)))
    done_after old view pair =
        let said : step t.capacity (core_of held t) (events.Draw i row seed) pair ≡ Some (core_of held after, replies.Drew draw.place) =
        steps ok draw left place holds has pair ∙ ap (λ (x : Table). Some (core_of held x, replies.Drew (length t.order))) (sym is_next)
        ∙ ap (λ (n : ℕ). Some (core_of held after, replies.Drew n)) (sym place) in
        subst (λ (v : Seen). Stepped v (events.Draw i row seed) [] pair (seen_machine held after) (Ok (replies.Drew draw.place))) view (tt, refl, said, refl)
