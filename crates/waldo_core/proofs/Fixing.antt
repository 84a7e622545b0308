-- A fix.
use Rattle.std.proofs.Common.{◌≡◌, ◌∙◌, refl, sym, ap, subst, ℕ, ◌<◌, ◌≤◌, Some, slice_get, List, length, min, set, arith}
use Rattle.std.specs.Prelude.{Ok}
use Rattle.std.proofs.lemmas.Bool.{lt-ltb, le-ltb}
use Rattle.std.proofs.lemmas.List.{length-take-le}
use Rattle.prefix_log.specs.Journal.{HasNoMark}
use Rattle.prefix_log.specs.Logs.{IsLog}
use Rattle.prefix_log.specs.declared.snapshot.Snapshot.{Snapshot}
use Rattle.prg_chacha.specs.declared.seed.Seed.{Seed}
use Rattle.scan_chunks.specs.Shelf.{Held}
use Rattle.server_rounds.specs.declared.opened.OpenedPair.{OpenedPair}
use Rattle.table_schema.specs.declared.rows.Row.{Row}
use Rattle.table_schema.specs.declared.widths.Widths.{Widths}
use Rattle.agreed_rows.specs.Agreed.{Entries, first_rows}
use Rattle.agreed_rows.specs.Servers.{IsFixOf, IsServer, KeepsFirst}
use Rattle.agreed_rows.proofs.Shares.{fix_keeps}
use Rattle.waldo_core.specs.Core.{Actor, Core, prefix, with_actor}
use Rattle.waldo_core.specs.Held.{AreFirst, Fixed, IsActorOf, IsMachine, Keeps, Table, core_of, log_of, next_server_of, seen_actor, seen_machine}
use Rattle.waldo_core.specs.Machines.{Seen}
use Rattle.waldo_core.specs.Outcomes.{Quietly}
use Rattle.waldo_core.specs.Step.{acts, step}
use Rattle.waldo_core.specs.declared.actor.ActorState.{ActorState}
use Rattle.waldo_core.specs.declared.events.Event.TheVariants as events
use Rattle.waldo_core.specs.declared.events.Reply.{Reply}
use Rattle.waldo_core.specs.declared.events.Reply.TheVariants as replies
use Rattle.waldo_core.specs.declared.logs.Logs.{Logs}
use Rattle.waldo_core.specs.declared.snapshots.Snapshots.{Snapshots}
use Rattle.waldo_core.specs.declared.snapshots.Snapshots.TheVariants as found
use Rattle.waldo_core.proofs.Acts.{seen_set, seen_there, stays}

-- ---- the actor's part

-- the prefix at the server of the next fix
abbrev pub found_by : Logs → Snapshots → ℕ
found_by logs s = prefix (log_of logs (next_server_of s)).journal

-- below the floor the fixes are dropped
pub does_again : (held : Snapshot → Held) (logs : Logs) (a b : ActorState) (s : Snapshots) → a.snapshots ≡ s → found_by logs s < a.floor → b ≡ record a { snapshots = found.Unfixed }
    → (capacity number : ℕ) (core : Core) (pair : OpenedPair) → core.zero ≡ logs.zero.journal → core.one ≡ logs.one.journal → core.two ≡ logs.two.journal
    → acts capacity core (events.Fix number) pair (Some (seen_actor held a)) ≡ Some (with_actor core number (seen_actor held b), replies.Again (next_server_of s) (found_by logs s) a.floor)
does_again held logs a b found.Unfixed was lt is capacity number core pair z0 z1 z2 = rw (is, was, z0, lt-ltb (prefix logs.zero.journal) a.floor lt) refl
does_again held logs a b (found.First s) was lt is capacity number core pair z0 z1 z2 = rw (is, was, z1, lt-ltb (prefix logs.one.journal) a.floor lt) refl
does_again held logs a b (found.Second s t) was lt is capacity number core pair z0 z1 z2 = rw (is, was, z2, lt-ltb (prefix logs.two.journal) a.floor lt) refl
does_again held logs a b (found.Agreed g) was lt is capacity number core pair z0 z1 z2 = rw (is, was, z0, lt-ltb (prefix logs.zero.journal) a.floor lt) refl

pub again : (held : Snapshot → Held) (logs : Logs) (a b : ActorState) → found_by logs a.snapshots < a.floor → b ≡ record a { snapshots = found.Unfixed }
    → Fixed held logs a b (replies.Again (next_server_of a.snapshots) (found_by logs a.snapshots) a.floor)
again held logs a b lt is = record {
  draw = ap (λ (x : ActorState). x.draw) is;
  does = does_again held logs a b a.snapshots refl lt is;
}

-- a snapshot is kept
does_keep : (held : Snapshot → Held) (w : Widths) (order : List (Row × Seed)) (logs : Logs) (a b : ActorState) (u : Snapshot) (s : Snapshots) (reply : Reply) → a.snapshots ≡ s → IsFixOf (held u) (log_of logs (next_server_of s)) → a.floor ≤ found_by logs s
    → Keeps held w order u s a b reply
    → (capacity number : ℕ) (core : Core) (pair : OpenedPair) → core.zero ≡ logs.zero.journal → core.one ≡ logs.one.journal → core.two ≡ logs.two.journal
    → acts capacity core (events.Fix number) pair (Some (seen_actor held a)) ≡ Some (with_actor core number (seen_actor held b), reply)
does_keep held w order logs a b u found.Unfixed reply was fix le keeps capacity number core pair z0 z1 z2 =
    rw (keeps.0, keeps.1, was, z0, fix.rows, le-ltb (prefix logs.zero.journal) a.floor le) refl
does_keep held w order logs a b u (found.First s) reply was fix le keeps capacity number core pair z0 z1 z2 =
    rw (keeps.0, keeps.1, was, z1, fix.rows, le-ltb (prefix logs.one.journal) a.floor le) refl
does_keep held w order logs a b u (found.Second s t) reply was fix le keeps capacity number core pair z0 z1 z2 =
    rw (keeps.actor, keeps.says, keeps.rows, was, z2, fix.rows, le-ltb (prefix logs.two.journal) a.floor le) refl
does_keep held w order logs a b u (found.Agreed g) reply was fix le keeps capacity number core pair z0 z1 z2 =
    rw (keeps.0, keeps.1, was, z0, fix.rows, le-ltb (prefix logs.zero.journal) a.floor le) refl

kept_draw : (held : Snapshot → Held) (w : Widths) (order : List (Row × Seed)) (a b : ActorState) (u : Snapshot) (s : Snapshots) (reply : Reply) → Keeps held w order u s a b reply → b.draw ≡ a.draw
kept_draw held w order a b u found.Unfixed reply keeps = ap (λ (x : ActorState). x.draw) keeps.0
kept_draw held w order a b u (found.First s) reply keeps = ap (λ (x : ActorState). x.draw) keeps.0
kept_draw held w order a b u (found.Second s t) reply keeps = ap (λ (x : ActorState). x.draw) keeps.actor
kept_draw held w order a b u (found.Agreed g) reply keeps = ap (λ (x : ActorState). x.draw) keeps.0

-- and what was found are first rows of the order
pub kept_first : (held : Snapshot → Held) (w : Widths) (order : List (Row × Seed)) (a b : ActorState) (u : Snapshot) (s : Snapshots) (reply : Reply) → AreFirst held w order s
    → KeepsFirst w (next_server_of s) order (held u).rows (held u) → Keeps held w order u s a b reply → AreFirst held w order b.snapshots
kept_first held w order a b u found.Unfixed reply first keeps is = subst (λ (x : ActorState). AreFirst held w order x.snapshots) (sym is.0) keeps
kept_first held w order a b u (found.First s) reply first keeps is = subst (λ (x : ActorState). AreFirst held w order x.snapshots) (sym is.0) (first, keeps)
kept_first held w order a b u (found.Second s t) reply first keeps is = subst (λ (x : ActorState). AreFirst held w order x.snapshots) (sym is.actor) is.first
kept_first held w order a b u (found.Agreed g) reply first keeps is = subst (λ (x : ActorState). AreFirst held w order x.snapshots) (sym is.0) keeps

pub fixed : (held : Snapshot → Held) (w : Widths) (order : List (Row × Seed)) (logs : Logs) (a b : ActorState) (u : Snapshot) (reply : Reply) (k : ℕ) → k ≡ next_server_of a.snapshots
    → IsFixOf (held u) (log_of logs k) → a.floor ≤ prefix (log_of logs k).journal → Keeps held w order u a.snapshots a b reply → Fixed held logs a b reply
fixed held w order logs a b u reply k next fix le keeps = record {
  draw = kept_draw held w order a b u a.snapshots reply keeps;
  does = does_keep held w order logs a b u a.snapshots reply refl (subst (λ (n : ℕ). IsFixOf (held u) (log_of logs n)) next fix)
      (subst (λ (n : ℕ). a.floor ≤ prefix (log_of logs n).journal) next le) keeps;
}

below : (x : Snapshots) → next_server_of x < 3
below found.Unfixed = omega arith
below (found.First a) = omega arith
below (found.Second a b) = omega arith
below (found.Agreed a) = omega arith

-- the snapshot of the next server keeps first rows of the order
pub next_keeps : (held : Snapshot → Held) (w : Widths) (order : List (Row × Seed)) (logs : Logs) (u : Snapshot) (s : Snapshots) (k : ℕ)
    → ((n : ℕ) → n < 3 → IsServer n w (log_of logs n).capacity order (log_of logs n)) → k ≡ next_server_of s → IsLog (log_of logs k) → IsFixOf (held u) (log_of logs k)
    → KeepsFirst w (next_server_of s) order (held u).rows (held u)
next_keeps held w order logs u s k servers next legal fix =
    fix_keeps (next_server_of s) w (log_of logs (next_server_of s)).capacity order (log_of logs (next_server_of s)) (held u) (servers (next_server_of s) (below s))
    (subst (λ (n : ℕ). IsLog (log_of logs n)) next legal) (subst (λ (n : ℕ). IsFixOf (held u) (log_of logs n)) next fix)

-- and its log retired no place
pub next_places : (w : Widths) (order : List (Row × Seed)) (logs : Logs) (s : Snapshots) (k : ℕ) → ((n : ℕ) → n < 3 → IsServer n w (log_of logs n).capacity order (log_of logs n)) → k ≡ next_server_of s
    → HasNoMark (log_of logs k).capacity (log_of logs k).journal
next_places w order logs s k servers next = (servers k (let lt = below s in omega (arith, lt, next))).places

-- the third snapshot is kept
pub keeps_third : (held : Snapshot → Held) (w : Widths) (order : List (Row × Seed)) (u : Snapshot) (old : Snapshots) (a b : ActorState) (reply : Reply) (s t : Snapshot) (g : Entries) (n : ℕ)
    → old ≡ found.Second s t → AreFirst held w order old → KeepsFirst w (next_server_of old) order (held u).rows (held u) → g ≡ first_rows w order (min (min (held s).rows (held t).rows) (held u).rows)
    → n ≡ length g.all → b ≡ record { floor = n; draw = a.draw; snapshots = found.Agreed g } → reply ≡ replies.Agreed n → Keeps held w order u old a b reply
keeps_third held w order u old a b reply s t g n was first next of rows actor says =
    let least : ℕ = min (min (held s).rows (held t).rows) (held u).rows in
    let two = subst (λ (x : Snapshots). AreFirst held w order x) was first in
    let long : length g.all ≡ least = ap (λ (e : Entries). length e.all) of ∙ length-take-le least order (omega (arith, two.0.few)) in
    subst (λ (x : Snapshots). Keeps held w order u x a b reply) (sym was) (record {
      agreed = g;
      first = of ∙ ap (first_rows w order) (sym long);
      rows = long;
      actor = actor ∙ ap (λ (m : ℕ). record { floor = m; draw = a.draw; snapshots = found.Agreed g }) rows;
      says = says ∙ ap (λ (m : ℕ). replies.Agreed m) rows;
    })

-- ---- the machine

module _ (held : Snapshot → Held) (space : ℕ) (t : Table) (i : ℕ) (a b : ActorState) (after : Logs) (ok : IsMachine held space t) (here : slice_get t.actors i ≡ Some a)
    (logs : after ≡ t.logs) (reply : Reply) (first : AreFirst held t.widths t.order b.snapshots) (p : Fixed held t.logs a b reply) where
  abbrev pub next : Table
  next = record t { logs = after; actors = set t.actors i b }

  steps : (pair : OpenedPair) → step t.capacity (core_of held t) (events.Fix i) pair ≡ Some (core_of held next, reply)
  steps pair =
      ap (acts t.capacity (core_of held t) (events.Fix i) pair) (seen_there held t i a here)
      ∙ p.does t.capacity i (core_of held t) pair refl refl refl
      ∙ ap (λ (actors : List Actor). Some (record (core_of held t) { actors = actors }, reply)) (sym (seen_set held t i b))
      ∙ ap (λ (l : Logs). Some (core_of held (record t { logs = l; actors = set t.actors i b }), reply)) (sym logs)

  actor_next : IsActorOf held t.widths t.order b
  actor_next = record {
    draw = λ d is. (ok.actors i a here).draw d (sym p.draw ∙ is);
    first = first;
  }

  pub fixed_kept : IsMachine held space next
  fixed_kept =
      stays held space t i after b (events.Fix i) (record { total = 0; weighted = 0 }) reply ok
      (subst (λ (l : Logs). (k : ℕ) → k < 3 → IsServer k t.widths t.capacity t.order (log_of l k)) (sym logs) ok.servers) actor_next (steps (record { total = 0; weighted = 0 }))

  pub fixed_done : (old : Seen) → seen_machine held t ≡ old → Quietly old (events.Fix i) (seen_machine held next) (Ok (Some reply))
  fixed_done old view = subst (λ (v : Seen). Quietly v (events.Fix i) (seen_machine held next) (Ok (Some reply))) view (λ pair. (tt, refl, steps pair, refl))
