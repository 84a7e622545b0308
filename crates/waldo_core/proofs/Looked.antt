-- A look.
use Rattle.std.proofs.Common.{◌≡◌, ◌∙◌, refl, sym, ap, subst, ℕ, zero, suc, ◌<◌, ◌≤◌, Bool, true, false, Option, Some, None, slice_get, List, max, set}
use Rattle.std.specs.Prelude.{Ok, nat_lt, if◌then◌else◌}
use Rattle.std.proofs.lemmas.Bool.{lt-ltb, le-ltb}
use Rattle.prefix_log.specs.declared.snapshot.Snapshot.{Snapshot}
use Rattle.scan_chunks.specs.Shelf.{Held}
use Rattle.server_rounds.specs.declared.opened.OpenedPair.{OpenedPair}
use Rattle.waldo_core.specs.Core.{Actor, Core, is_pending, journal_of, prefix, with_actor}
use Rattle.waldo_core.specs.Held.{AreFirst, HasNone, IsActorOf, IsMachine, Looks, LooksAt, Table, core_of, log_of, seen_actor, seen_fixes, seen_machine}
use Rattle.waldo_core.specs.Machines.{Seen}
use Rattle.waldo_core.specs.Outcomes.{Quietly}
use Rattle.waldo_core.specs.Step.{acts, looked, step}
use Rattle.waldo_core.specs.declared.actor.ActorState.{ActorState}
use Rattle.waldo_core.specs.declared.events.Event.TheVariants as events
use Rattle.waldo_core.specs.declared.events.Reply.{Reply}
use Rattle.waldo_core.specs.declared.events.Reply.TheVariants as replies
use Rattle.waldo_core.specs.declared.logs.Logs.{Logs}
use Rattle.waldo_core.specs.declared.snapshots.Snapshots.{Snapshots}
use Rattle.waldo_core.specs.declared.snapshots.Snapshots.TheVariants as found
use Rattle.waldo_core.proofs.Acts.{no_case, same_table, seen_set, seen_there, stays}

pub no_server : (a : Actor) (k : ℕ) → 3 ≤ k → (number : ℕ) → HasNone a (events.Look number k)
no_server a k past number capacity core pair = rw (le-ltb k 3 past) refl

pub not_idle : (a : Actor) (k : ℕ) → is_pending a.fixes ≡ true → (number : ℕ) → HasNone a (events.Look number k)
not_idle a k pending number capacity core pair = by (nat_lt k 3)
  where
    by : (b : Bool) → (if b then (if is_pending a.fixes then None else Some (looked core number a k)) else None) ≡ None
    by true = rw pending refl
    by false = refl

pub does_look : (held : Snapshot → Held) (k : ℕ) (logs : Logs) (a b : ActorState) → k < 3 → is_pending (seen_fixes held a.snapshots) ≡ false
    → b ≡ record { floor = max a.floor (prefix (log_of logs k).journal); draw = a.draw; snapshots = found.Unfixed }
    → (capacity number : ℕ) (core : Core) (pair : OpenedPair) → journal_of core k ≡ (log_of logs k).journal
    → acts capacity core (events.Look number k) pair (Some (seen_actor held a)) ≡ Some (with_actor core number (seen_actor held b), replies.Looked (prefix (log_of logs k).journal))
does_look held k logs a b lt idle is capacity core number pair same = rw (lt-ltb k 3 lt, idle, same, is) refl

-- the journals of the core are those of the logs
pub same_journal : (held : Snapshot → Held) (t : Table) (k : ℕ) → journal_of (core_of held t) k ≡ (log_of t.logs k).journal
same_journal held t zero = refl
same_journal held t (suc zero) = refl
same_journal held t (suc (suc k)) = refl

module _ (held : Snapshot → Held) (space : ℕ) (t : Table) (i k : ℕ) (a b : ActorState) (ok : IsMachine held space t) (here : slice_get t.actors i ≡ Some a) where
  abbrev pub next : Table
  next = record t { actors = set t.actors i b }

  module _ (reply : Reply) (p : LooksAt held k t.logs a b reply) where
    steps : (pair : OpenedPair) → step t.capacity (core_of held t) (events.Look i k) pair ≡ Some (core_of held next, reply)
    steps pair =
        ap (acts t.capacity (core_of held t) (events.Look i k) pair) (seen_there held t i a here)
        ∙ p.does t.capacity i (core_of held t) pair (same_journal held t k)
        ∙ ap (λ (actors : List Actor). Some (record (core_of held t) { actors = actors }, reply)) (sym (seen_set held t i b))

    actor_next : IsActorOf held t.widths t.order b
    actor_next = record {
      draw = λ d is. (ok.actors i a here).draw d (sym p.draw ∙ is);
      first = subst (λ (s : Snapshots). AreFirst held t.widths t.order s) (sym p.unfixed) tt;
    }

    kept : IsMachine held space next
    kept = stays held space t i t.logs b (events.Look i k) (record { total = 0; weighted = 0 }) reply ok ok.servers actor_next (steps (record { total = 0; weighted = 0 }))

  pub looked_kept : (reply : Option Reply) → Looks held k t.logs a b reply → IsMachine held space next
  looked_kept None p = subst (λ (x : Table). IsMachine held space x) (sym (same_table t i t.logs a b here refl p.1)) ok
  looked_kept (Some reply) p = kept reply p

  pub looked_done : (old : Seen) (reply : Option Reply) → seen_machine held t ≡ old → Looks held k t.logs a b reply → Quietly old (events.Look i k) (seen_machine held next) (Ok reply)
  looked_done old reply view p = subst (λ (v : Seen). Quietly v (events.Look i k) (seen_machine held next) (Ok reply)) view (by reply p)
    where
      by : (r : Option Reply) → Looks held k t.logs a b r → Quietly (seen_machine held t) (events.Look i k) (seen_machine held next) (Ok r)
      by None q pair = (refl, refl, no_case held t (events.Look i k) a (q.0 i) here, ap (seen_machine held) (same_table t i t.logs a b here refl q.1))
      by (Some r) q pair = (tt, refl, steps r q pair, refl)
