use Rattle.std.proofs.Common.{◌∙◌, refl, sym}
use Rattle.prefix_log.specs.contracts.snapshot.SnapshotShelf.TheImpl.{held-value}
use Rattle.waldo_core.proofs.Fixing.{keeps_third}
use Rattle.waldo_core.proofs.actor.ActorState.keep.Goals as goal

pub returns : goal.returns
returns c =
    keeps_third (held-value).it c.args.widths.now c.args.sight.now.order c.args.snapshot c.args.self.now.snapshots c.args.self.now _ _ c.in-Second.zero c.in-Second.one c.of-agreed.result
    c.rows-rows.result (sym c.replace.ensures.value ∙ c.in-Second.is) c.requires.first c.requires.next c.of-agreed.ensures c.rows-rows.ensures.rows refl refl
