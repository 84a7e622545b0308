-- What an actor holds of the order stays as the order grows.
use Rattle.std.proofs.Common.{◌∙◌, refl, sym, ap, ◌≤◌, List, [], ◌∷◌, ◌++◌, length, arith}
use Rattle.std.proofs.lemmas.List.{length-take, take-append-le}
use mathlib.Core.List.{IsPrefix}
use Rattle.prefix_log.specs.declared.snapshot.Snapshot.{Snapshot}
use Rattle.prg_chacha.specs.declared.seed.Seed.{Seed}
use Rattle.scan_chunks.specs.Shelf.{Held}
use Rattle.table_schema.specs.declared.rows.Row.{Row}
use Rattle.table_schema.specs.declared.widths.Widths.{Widths}
use Rattle.agreed_rows.specs.Agreed.{Entries}
use Rattle.agreed_rows.proofs.Shares.{keeps_grows, share_grows}
use Rattle.waldo_core.specs.Held.{AreFirst, AreFirstRows, IsActorOf}
use Rattle.waldo_core.specs.declared.actor.ActorState.{ActorState}
use Rattle.waldo_core.specs.declared.snapshots.Snapshots.{Snapshots}
use Rattle.waldo_core.specs.declared.snapshots.Snapshots.TheVariants as found

-- an order begins a longer one
pub begins : (order : List (Row × Seed)) (e : Row × Seed) → IsPrefix order (order ++ e ∷ [])
begins order e = (e ∷ [], refl)

-- first rows are no more than the order has
few_first : (w : Widths) (order : List (Row × Seed)) (e : Entries) → AreFirstRows w order e → length e.all ≤ length order
few_first w order e first = omega (arith, ap (λ (v : Entries). length v.all) first, length-take (length e.all) order)

rows_grow : (w : Widths) (order : List (Row × Seed)) (entry : Row × Seed) (e : Entries) → AreFirstRows w order e → AreFirstRows w (order ++ entry ∷ []) e
rows_grow w order entry e first =
    first ∙ ap (λ (rows : List (Row × Seed)). record { widths = w; all = rows }) (sym (take-append-le (length e.all) order (entry ∷ []) (few_first w order e first)))

first_grows : (held : Snapshot → Held) (w : Widths) (order : List (Row × Seed)) (e : Row × Seed) (s : Snapshots)
    → AreFirst held w order s → AreFirst held w (order ++ e ∷ []) s
first_grows held w order e found.Unfixed first = tt
first_grows held w order e (found.First s) first = keeps_grows w 0 order (order ++ e ∷ []) (held s).rows (held s) (begins order e) first
first_grows held w order e (found.Second s t) first = (
  keeps_grows w 0 order (order ++ e ∷ []) (held s).rows (held s) (begins order e) first.0,
  keeps_grows w 1 order (order ++ e ∷ []) (held t).rows (held t) (begins order e) first.1,
)
first_grows held w order e (found.Agreed a) first = rows_grow w order e a first

pub actor_grows : (held : Snapshot → Held) (w : Widths) (order : List (Row × Seed)) (e : Row × Seed) (a : ActorState)
    → IsActorOf held w order a → IsActorOf held w (order ++ e ∷ []) a
actor_grows held w order e a of = record {
  draw = λ draw is k piece lt has. share_grows w k order (order ++ e ∷ []) draw.place piece (begins order e) (of.draw draw is k piece lt has);
  first = first_grows held w order e a.snapshots of.first;
}
