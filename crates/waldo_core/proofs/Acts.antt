-- What an actor's step does to the machine.
use Rattle.std.proofs.Common.{◌≡◌, ◌∙◌, sym, ap, subst, ℕ, ◌<◌, inr, ⊎_elim, Option, Some, slice_get, List, [], set, map}
use Rattle.std.specs.Prelude.{Result, option_map}
use Rattle.std.proofs.lemmas.List.{map-set}
use Rattle.std.proofs.lemmas.Option.{slice_get-map}
use Rattle.prefix_log.specs.declared.snapshot.Snapshot.{Snapshot}
use Rattle.scan_chunks.specs.Shelf.{Held}
use Rattle.server_rounds.specs.declared.opened.OpenedPair.{OpenedPair}
use Rattle.ring128.specs.declared.memory.Memory.{Memory}
use Rattle.agreed_rows.specs.Servers.{IsServer}
use Rattle.waldo_core.specs.Held.{HasNone, IsActorOf, IsMachine, Table, core_of, log_of, seen_actor, seen_machine}
use Rattle.waldo_core.specs.Legal.{IsActor}
use Rattle.waldo_core.specs.Machines.{HasNoCase, Seen, Stepped}
use Rattle.waldo_core.specs.Outcomes.{Quietly, named}
use Rattle.waldo_core.specs.Step.{actor_of, acts, step}
use Rattle.waldo_core.specs.declared.actor.ActorState.{ActorState}
use Rattle.waldo_core.specs.declared.events.Event.{Event}
use Rattle.waldo_core.specs.declared.events.Reply.{Reply}
use Rattle.waldo_core.specs.declared.logs.Logs.{Logs}
use Rattle.waldo_core.proofs.Elements.{All-there, set_there, slice_get-set}
use Rattle.waldo_core.proofs.Stays.{legal_stays}

-- what stands for a pair where nothing was opened
abbrev pub nothing : OpenedPair
nothing = record { total = 0; weighted = 0 }

-- an event without messages, by what was given
pub quiet_stepped : (old : Seen) (given event : Event) (new : Seen) (result : Result (Option Reply) Memory) → given ≡ event → Quietly old event new result → Stepped old given [] nothing new (named given result)
quiet_stepped old given event new result same done = subst (λ (e : Event). Stepped old e [] nothing new (named e result)) (sym same) (done nothing)

-- an actor as the core has it
pub seen_there : (held : Snapshot → Held) (t : Table) (i : ℕ) (a : ActorState) → slice_get t.actors i ≡ Some a → slice_get (core_of held t).actors i ≡ Some (seen_actor held a)
seen_there held t i a here = slice_get-map (seen_actor held) t.actors i ∙ ap (option_map (seen_actor held)) here

pub legal_there : (held : Snapshot → Held) (space : ℕ) (t : Table) (i : ℕ) (a : ActorState) → IsMachine held space t → slice_get t.actors i ≡ Some a → IsActor (core_of held t) (seen_actor held a)
legal_there held space t i a ok here = All-there (IsActor (core_of held t)) (core_of held t).actors i (seen_actor held a) ok.legal.actors (seen_there held t i a here)

-- the core with another actor
pub seen_set : (held : Snapshot → Held) (t : Table) (i : ℕ) (b : ActorState) → map (seen_actor held) (set t.actors i b) ≡ set (map (seen_actor held) t.actors) i (seen_actor held b)
seen_set held t i b = map-set (seen_actor held) t.actors i b

-- an event for which its actor has no case
pub no_case : (held : Snapshot → Held) (t : Table) (event : Event) (a : ActorState) → HasNone (seen_actor held a) event → slice_get t.actors (actor_of event) ≡ Some a
    → HasNoCase (seen_machine held t) event
no_case held t event a none here = inr (λ pair. ap (acts t.capacity (core_of held t) event pair) (seen_there held t (actor_of event) a here) ∙ none t.capacity (core_of held t) pair)

-- the machine after a step that left the order: the new logs and the new actor are the order's, and the rest stays
pub stays : (held : Snapshot → Held) (space : ℕ) (t : Table) (i : ℕ) (l : Logs) (b : ActorState) (event : Event) (pair : OpenedPair) (reply : Reply) → IsMachine held space t
    → ((k : ℕ) → k < 3 → IsServer k t.widths t.capacity t.order (log_of l k)) → IsActorOf held t.widths t.order b
    → step t.capacity (core_of held t) event pair ≡ Some (core_of held (record t { logs = l; actors = set t.actors i b }), reply)
    → IsMachine held space (record t { logs = l; actors = set t.actors i b })
stays held space t i l b event pair reply ok servers actor stepped = record {
  fits = ok.fits;
  few = ok.few;
  room = ok.room;
  some = ok.some;
  most = ok.most;
  rows = ok.rows;
  servers = servers;
  actors = λ j a is. ⊎_elim (λ (same : a ≡ b). subst (λ (x : ActorState). IsActorOf held t.widths t.order x) (sym same) actor)
      (λ (old : slice_get t.actors j ≡ Some a). ok.actors j a old) (slice_get-set t.actors i b j a is);
  legal = legal_stays.1 t.capacity (core_of held t) _ event pair reply ok.legal stepped;
}

-- nothing changed
pub same_table : (t : Table) (i : ℕ) (l : Logs) (a b : ActorState) → slice_get t.actors i ≡ Some a → l ≡ t.logs → b ≡ a → ◌≡◌ {A = Table} (record t { logs = l; actors = set t.actors i b }) t
same_table t i l a b here logs actor =
    ap (λ (m : Logs). record t { logs = m; actors = set t.actors i b }) logs
    ∙ ap (λ (x : ActorState). record t { actors = set t.actors i x }) actor
    ∙ ap (λ (xs : List ActorState). record t { actors = xs }) (set_there t.actors i a here)
