-- A machine in which nothing was drawn.
use Rattle.std.proofs.Common.{◌≡◌, ◌∙◌, refl, sym, ap, subst, ℕ, zero, suc, ◌<◌, ◌≤◌, true, false, Option, Some, None, slice_get, List, [], arith}
use Rattle.std.specs.Prelude.{is_some, option_map}
use Rattle.std.specs.List.{range_with_len}
use Rattle.std.proofs.lemmas.List.Elements.{All-nil}
use Rattle.std.proofs.lemmas.Option.{slice_get-map}
use Rattle.list_facts.specs.Listed.{listed}
use Rattle.prefix_log.specs.Logs.{Log, empty_log, piece_at}
use Rattle.prefix_log.specs.declared.snapshot.Snapshot.{Snapshot}
use Rattle.prefix_log.proofs.Kept.{free_at}
use Rattle.prg_chacha.specs.declared.seed.Seed.{Seed}
use Rattle.scan_chunks.specs.Shelf.{Held}
use Rattle.table_schema.specs.Widths.{Fits, Holds, column_bits}
use Rattle.table_schema.specs.declared.rows.Row.{Row}
use Rattle.table_schema.specs.declared.widths.Widths.{Widths}
use Rattle.agreed_rows.specs.Servers.{IsServer}
use Rattle.waldo_core.specs.Held.{IsActorOf, IsMachine, Table, fresh_state, log_of}
use Rattle.waldo_core.specs.declared.actor.ActorState.{ActorState}
use Rattle.waldo_core.specs.declared.logs.Logs.{Logs}
use Rattle.waldo_core.proofs.Stays.{legal_stays}

-- a log without pieces
free_server : (k : ℕ) (w : Widths) (most : ℕ) (order : List (Row × Seed)) → IsServer k w most order (empty_log k w most)
free_server k w most order = record {
  number = refl;
  widths = refl;
  capacity = refl;
  places = λ x there. absurd cc;
  shares = λ place piece is. let free : is_some (piece_at (listed most (λ (p : ℕ). None)) place) ≡ false = free_at most place in
      let filled : is_some (piece_at (listed most (λ (p : ℕ). None)) place) ≡ true = ap is_some is in absurd cc;
}

-- an actor that has seen nothing
only : {A : Type 0} (x y : A) (o : Option ℕ) → option_map (λ (n : ℕ). x) o ≡ Some y → y ≡ x
only x y None e = absurd cc
only x y (Some n) e = cc

fresh_there : (i : ℕ) (a : ActorState) → slice_get (listed 16 (λ (n : ℕ). fresh_state)) i ≡ Some a → a ≡ fresh_state
fresh_there i a is = only fresh_state a (slice_get (range_with_len 0 16) i) (sym (slice_get-map (λ (n : ℕ). fresh_state) (range_with_len 0 16) i) ∙ is)

fresh_actor : (held : Snapshot → Held) (w : Widths) (order : List (Row × Seed)) → IsActorOf held w order fresh_state
fresh_actor held w order = record { draw = λ draw is. absurd cc; first = tt }

abbrev begun : Widths → ℕ → ℕ → Table
begun w most workers = record {
  widths = w;
  capacity = most;
  workers = workers;
  order = [];
  logs = record { zero = empty_log 0 w most; one = empty_log 1 w most; two = empty_log 2 w most };
  actors = listed 16 (λ (n : ℕ). fresh_state);
}

begun_kept : (held : Snapshot → Held) (space : ℕ) (w : Widths) (most workers : ℕ) → Fits (column_bits w) most → space ≡ most → 1 ≤ workers → workers ≤ 16 → IsMachine held space (begun w most workers)
begun_kept held space w most workers fits room some few = record {
  fits = fits;
  few = omega arith;
  room = room;
  some = some;
  most = few;
  rows = All-nil (λ (entry : Row × Seed). Holds w entry.0);
  servers = servers;
  actors = λ i a is. subst (λ (x : ActorState). IsActorOf held w [] x) (sym (fresh_there i a is)) (fresh_actor held w []);
  legal = legal_stays.0;
}
  where
    servers : (k : ℕ) → k < 3 → IsServer k w most [] (log_of (record { zero = empty_log 0 w most; one = empty_log 1 w most; two = empty_log 2 w most }) k)
    servers zero lt = free_server 0 w most []
    servers (suc zero) lt = free_server 1 w most []
    servers (suc (suc zero)) lt = free_server 2 w most []
    servers (suc (suc (suc k))) lt = absurd (omega arith)

pub new_kept : (held : Snapshot → Held) (space : ℕ) (w : Widths) (most workers : ℕ) (order : List (Row × Seed)) (logs : Logs) (actors : List ActorState) → Fits (column_bits w) most → space ≡ most
    → 1 ≤ workers → workers ≤ 16 → order ≡ [] → logs.zero ≡ empty_log 0 w most → logs.one ≡ empty_log 1 w most → logs.two ≡ empty_log 2 w most → actors ≡ listed 16 (λ (n : ℕ). fresh_state)
    → IsMachine held space (record { widths = w; capacity = most; workers = workers; order = order; logs = logs; actors = actors })
new_kept held space w most workers order logs actors fits room some few none z0 z1 z2 fresh =
    subst (λ (t : Table). IsMachine held space t) (sym same) (begun_kept held space w most workers fits room some few)
  where
    same : ◌≡◌ {A = Table} (record { widths = w; capacity = most; workers = workers; order = order; logs = logs; actors = actors }) (begun w most workers)
    same =
        ap (λ (o : List (Row × Seed)). record { widths = w; capacity = most; workers = workers; order = o; logs = logs; actors = actors }) none
        ∙ ap (λ (l : Log). record { widths = w; capacity = most; workers = workers; order = []; logs = record logs { zero = l }; actors = actors }) z0
        ∙ ap (λ (l : Log). record { widths = w; capacity = most; workers = workers; order = []; logs = record { zero = empty_log 0 w most; one = l; two = logs.two }; actors = actors }) z1
        ∙ ap (λ (l : Log). record { widths = w; capacity = most; workers = workers; order = []; logs = record { zero = empty_log 0 w most; one = empty_log 1 w most; two = l }; actors = actors }) z2
        ∙ ap (λ (xs : List ActorState). record (begun w most workers) { actors = xs }) fresh
